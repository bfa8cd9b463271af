-- Carried forward from where it is taken back to, a grid point is where it was.
use Rattle.layers.specs.Composed.{forward_back}
use Rattle.layers.proofs.moves.Move.back.Goals as goal

pub returns-clause-undone : goal.returns-clause-undone
returns-clause-undone c = λ u v g. rw c.new.ensures (forward_back c.args.self.map c.args.pt u v c.args.self.lawful g)
