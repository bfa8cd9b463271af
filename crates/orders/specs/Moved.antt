-- Six numbers as a move, or why they make none. Assumes nothing.
use Rattle.std.specs.Prelude.{◌≡◌, Bool, true, false, cond, ◌&&◌, T, is_some, Option, Some, None, Result, Ok, Err, refl}
use Rattle.std.proofs.Common.{ap, subst}
use Rattle.plane.specs.declared.affine.Affine.{Affine}
use Rattle.layers.specs.declared.fault.MoveFault.{MoveFault}
use Rattle.layers.specs.declared.fault.MoveFault.TheVariants.{NotATurn, OffGrid, OffPage}
use Rattle.layers.specs.declared.moves.Move.{Move}
use Rattle.layers.specs.Moves.{is_turn, grid_offset, page_offset, is_move, refusal}

lawful_if : (a b c : Bool) → cond a (cond b (cond c None (Some OffPage)) (Some OffGrid)) (Some NotATurn) ≡ None → T (a && (b && c))
lawful_if true true true e = tt
lawful_if true true false e = subst T (ap is_some e) tt
lawful_if true false c e = subst T (ap is_some e) tt
lawful_if false b c e = subst T (ap is_some e) tt

-- what is refused for nothing is a move
pub lawful_of : (m : Affine) → refusal m ≡ None → T (is_move m)
lawful_of m e = lawful_if (is_turn m) (grid_offset m) (page_offset m) e

abbrev pub move_or_fault : (m : Affine) (r : Option MoveFault) → refusal m ≡ r → Result Move MoveFault
move_or_fault m None e = Ok (record { map = m; lawful = lawful_of m e })
move_or_fault m (Some f) e = Err f

-- the move with these numbers, or why there is none
unfoldable pub move_of : Affine → Result Move MoveFault
move_of m = move_or_fault m (refusal m) refl
