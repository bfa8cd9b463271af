-- No turn and no offset is a move.
use Rattle.std.proofs.Common.{T, sym, subst}
use Rattle.plane.specs.declared.affine.Affine.{Affine}
use Rattle.layers.specs.Moves.{is_move}
use Rattle.layers.specs.Whole.{unmoved_move}
use Rattle.layers.proofs.moves.Move.unmoved.Goals as goal

pub invariant_of-result : goal.invariant_of-result
invariant_of-result c = record { lawful = subst (λ (m : Affine). T (is_move m)) (sym c.new.ensures) unmoved_move }
