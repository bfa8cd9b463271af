-- The four numbers are not-a-numbers, as the definition has them.
use lib.Ieee.{of_bits}
use Rattle.layers.proofs.placing.unknown_box.Goals as goal

pub returns : goal.returns
unfolding of_bits
returns c = c.new.ensures
