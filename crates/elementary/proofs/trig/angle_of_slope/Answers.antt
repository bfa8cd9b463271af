-- The guess, moved twice, is the angle by its definition.
use Rattle.std.proofs.Common.{rules}
use Rattle.elementary.specs.Angles.{small_angle}
use Rattle.elementary.proofs.trig.angle_of_slope.Goals as goal

pub returns : goal.returns
unfolding small_angle
returns c = search rules
