use Rattle.ellipses.proofs.Turns.{first_last}
use Rattle.ellipses.proofs.laws.steps_are_counted.Goals as goal

pub returns : goal.returns
returns c = first_last
