-- The laws of the root.
use Rattle.elementary.proofs.NearestRoots.{laws}
use Rattle.elementary.proofs.sqrt.root_laws.Goals as goal

pub returns : goal.returns
returns c = laws
