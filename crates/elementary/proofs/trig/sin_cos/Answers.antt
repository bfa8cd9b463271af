-- The turned pair is that of the definition, and an angle that is too large has none.
use Rattle.std.proofs.Common.{rules}
use Rattle.elementary.specs.Angles.{sin_cos}
use Rattle.elementary.proofs.trig.sin_cos.Goals as goal

pub returns-then-abs : goal.returns-then-abs
unfolding sin_cos
returns-then-abs c = search rules

pub returns-else-abs : goal.returns-else-abs
unfolding sin_cos
returns-else-abs c = search rules
