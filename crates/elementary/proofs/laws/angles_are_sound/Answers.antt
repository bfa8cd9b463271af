-- The laws of the angles.
use Rattle.elementary.proofs.Sound.{angles}
use Rattle.elementary.proofs.laws.angles_are_sound.Goals as goal

pub returns : goal.returns
returns c = angles
