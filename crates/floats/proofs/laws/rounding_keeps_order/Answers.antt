-- Sums, differences and products keep the order.
use Rattle.floats.proofs.Stated.{ordered}
use Rattle.floats.proofs.laws.rounding_keeps_order.Goals as goal

pub returns : goal.returns
returns c = ordered
