use Rattle.std.proofs.Common.{rules}
use Rattle.arcs.specs.Arcs.{sampled}
use Rattle.arcs.proofs.arc.Arc.sample.Goals as goal

pub returns : goal.returns
unfolding sampled
returns c = search rules
