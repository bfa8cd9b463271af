-- The sixth power of the middle fits, and where it is too small, so is that of each smaller number.
use Rattle.std.proofs.Common.{◌+◌, ◌/◌, arith}
use Rattle.elementary.proofs.Sixths.{sixth_mono, sixth_most}
use Rattle.elementary.proofs.sixth_root.least_root.Goals as goal

pub pow-requires : goal.pow-requires
pow-requires c = omega (arith, sixth_most ((c.loop-low.low + c.loop-low.high) / 2) (omega arith))

pub loop-low-preserved-then-pow-need : goal.loop-low-preserved-then-pow-need
loop-low-preserved-then-pow-need c =
    let mid = (c.loop-low.low + c.loop-low.high) / 2 in
    record {
      from_one = omega arith;
      ordered = omega arith;
      to_most = c.loop-low.invariant.to_most;
      enough = c.loop-low.invariant.enough;
      too_small_below = λ j h o. omega (arith, sixth_mono j mid (omega arith), c.pow.ensures, c.if-pow-need.true);
    }
