-- Taken back from where it is carried, a grid point is where it was.
use Rattle.layers.specs.Composed.{back_forward}
use Rattle.layers.proofs.moves.Move.forward.Goals as goal

pub returns-clause-undone : goal.returns-clause-undone
returns-clause-undone c = λ u v g. rw c.map.ensures (back_forward c.args.self.map c.args.pt u v c.args.self.lawful g)
