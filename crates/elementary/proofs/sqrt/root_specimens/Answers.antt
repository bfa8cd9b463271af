-- The roots of the specimens.
use Rattle.elementary.proofs.RootExamples.{specimens}
use Rattle.elementary.proofs.sqrt.root_specimens.Goals as goal

pub returns : goal.returns
returns c = specimens
