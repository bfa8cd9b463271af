-- A move is known by its numbers.
use Rattle.std.proofs.Common.{◌≡◌, T, Option, Some, None, Result, Ok, Err, refl, ap, subst}
use Rattle.std.specs.Prelude.{IfOk, IfErr}
use Rattle.std.proofs.Math.Dec.{T_prop}
use Rattle.plane.specs.declared.affine.Affine.{Affine}
use Rattle.layers.specs.declared.fault.MoveFault.{MoveFault}
use Rattle.layers.specs.declared.moves.Move.{Move}
use Rattle.layers.specs.Moves.{is_move, refusal}
use Rattle.orders.specs.Moved.{lawful_of, move_or_fault, move_of}

same_move : (v : Move) (m : Affine) (h : T (is_move m)) → v.map ≡ m → v ≡ record { map = m; lawful = h }
same_move v m h e =
    let P : Affine → Type 0 = λ n. (k : T (is_move n)) → v ≡ record { map = n; lawful = k } in
    subst P e (λ k. ap (λ (l : T (is_move v.map)). record { map = v.map; lawful = l }) (T_prop (is_move v.map) v.lawful k)) h

made : (m : Affine) (o : Option MoveFault) (e : refusal m ≡ o) (r : Result Move MoveFault) → IfOk r (λ v. (v.map ≡ m) × (refusal m ≡ None)) → IfErr r (λ f. refusal m ≡ Some f) → r ≡ move_or_fault m o e
made m None e (Ok v) g d = ap Ok (same_move v m (lawful_of m e) g.0)
made m None e (Err f) g d = absurd cc
made m (Some f) e (Ok v) g d = absurd cc
made m (Some f) e (Err h) g d = ap Err cc

pub made_is : (m : Affine) (r : Result Move MoveFault) → IfOk r (λ v. (v.map ≡ m) × (refusal m ≡ None)) → IfErr r (λ f. refusal m ≡ Some f) → r ≡ move_of m
unfolding move_of
made_is m r g d = made m (refusal m) refl r g d
