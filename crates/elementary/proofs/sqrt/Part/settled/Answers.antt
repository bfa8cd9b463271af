-- The part belongs to the number, whichever of the two roots it has.
use Rattle.std.proofs.Common.{arith}
use Rattle.elementary.proofs.RootSteps.{square_below}
use Rattle.elementary.proofs.sqrt.Part.settled.Goals as goal

pub returns : goal.returns
returns c = grind (arith, square_below c.args.root)
