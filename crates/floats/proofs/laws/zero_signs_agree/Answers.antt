-- No operation sees the sign of a zero.
use Rattle.floats.proofs.Alike.{zeros_agree}
use Rattle.floats.proofs.laws.zero_signs_agree.Goals as goal

pub returns : goal.returns
returns c = zeros_agree
