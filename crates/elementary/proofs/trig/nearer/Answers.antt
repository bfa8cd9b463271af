-- The step is that of the definition.
use Rattle.std.proofs.Common.{rules}
use Rattle.elementary.specs.Angles.{nearer}
use Rattle.elementary.proofs.trig.nearer.Goals as goal

pub returns : goal.returns
unfolding nearer
returns c = search rules
