-- The specimens hold, as they were computed.
use Rattle.specimens.proofs.Worked.{worked}
use Rattle.specimens.proofs.specimens_hold.Goals as goal

pub returns : goal.returns
returns c = worked
