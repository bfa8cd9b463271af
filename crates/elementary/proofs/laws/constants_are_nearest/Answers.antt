-- Each constant is the float nearest to its decimal.
use Rattle.elementary.proofs.Constant.{constants}
use Rattle.elementary.proofs.laws.constants_are_nearest.Goals as goal

pub returns : goal.returns
returns c = constants
