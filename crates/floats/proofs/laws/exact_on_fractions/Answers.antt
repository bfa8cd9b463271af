-- Arithmetic and comparisons on fractions of a power of two.
use Rattle.floats.proofs.Stated.{exact}
use Rattle.floats.proofs.laws.exact_on_fractions.Goals as goal

pub returns : goal.returns
returns c = exact
