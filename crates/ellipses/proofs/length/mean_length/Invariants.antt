use Rattle.std.proofs.Common.{◌≡◌, ◌-◌}
use Rattle.ellipses.specs.Lengths.{runs, mean_length}
use Rattle.ellipses.proofs.length.mean_length.Given as goal

-- what is left to run gives what the whole gives
abbrev pub invariant-loop-made : goal.invariant-loop-made
invariant-loop-made l = runs (l.allowance - l.made) l.made l.radii.x l.tolerance l.means ≡ mean_length l.radii l.accuracy l.allowance
