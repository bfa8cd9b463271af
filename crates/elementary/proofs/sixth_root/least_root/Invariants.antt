-- The root lies from low to high, and the loop ends, since they come nearer.
use Rattle.std.proofs.Common.{ℕ, ◌-◌, ◌^◌, ◌<◌, ◌≤◌}
use Rattle.elementary.proofs.sixth_root.least_root.Given as goal

abbrev pub invariant-loop-low : goal.invariant-loop-low
invariant-loop-low l = record {
  from_one : 1 ≤ l.low;
  ordered : l.low ≤ l.high;
  to_most : l.high ≤ 1024;
  enough : l.need ≤ l.high ^ 6;
  too_small_below : (j : ℕ) → j < l.low → 1 ≤ j → j ^ 6 < l.need;
}

abbrev pub decreases-loop-low : goal.decreases-loop-low
decreases-loop-low l = l.high - l.low
