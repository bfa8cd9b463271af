-- The curve is the one that the definition has.
use Rattle.std.proofs.Common.{rules}
use Rattle.shapes.specs.Circles.{curve}
use Rattle.shapes.proofs.circle.CirclePath.curve.Goals as goal

pub returns : goal.returns
unfolding curve
returns c = search rules
