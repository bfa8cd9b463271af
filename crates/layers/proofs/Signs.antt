-- A sign times a winding, as the machine computes it, and the winding of a placing from its parts. Assumes nothing.
use Rattle.std.proofs.Common.{◌≡◌, Bool, true, false, cond, ◌&&◌, ℤ, pos, negsuc, ◌*ℤ◌, sym, refl, ap, ◌∙◌, subst, inl, inr, lit<, w32, SFits, to_z, of_z}
use Rattle.floats.specs.Page.{in_field}
use Rattle.plane.specs.declared.affine.Affine.{Affine}
use Rattle.plane.specs.declared.point.Point.{Point}
use Rattle.plane.specs.Winding.{IsWinding}
use Rattle.layers.specs.Moves.{sign, taken_back}
use Rattle.layers.specs.Placings.{placed_wind}

abbrev machine : ℤ → ℤ → ℤ
machine k w = to_z w32 (of_z w32 k) *ℤ to_z w32 (of_z w32 w)

-- the six products
each : (P : ℤ → ℤ → Type 0) (s : Bool) (w : ℤ) → P (negsuc 0) (negsuc 0) → P (negsuc 0) (pos 0) → P (negsuc 0) (pos 1) → P (pos 1) (negsuc 0) → P (pos 1) (pos 0) → P (pos 1) (pos 1)
    → IsWinding w → P (cond s (negsuc 0) (pos 1)) w
each P true w a b c d e f (inl h) = subst (P (negsuc 0)) (sym h) a
each P true w a b c d e f (inr (inl h)) = subst (P (negsuc 0)) (sym h) b
each P true w a b c d e f (inr (inr h)) = subst (P (negsuc 0)) (sym h) c
each P false w a b c d e f (inl h) = subst (P (pos 1)) (sym h) d
each P false w a b c d e f (inr (inl h)) = subst (P (pos 1)) (sym h) e
each P false w a b c d e f (inr (inr h)) = subst (P (pos 1)) (sym h) f

fits_each : (s : Bool) (w : ℤ) → IsWinding w → SFits w32 (machine (cond s (negsuc 0) (pos 1)) w)
fits_each s w =
    each (λ k w. SFits w32 (machine k w)) s w (record { sfits = lit< tt }) (record { sfits = lit< tt }) (record { sfits = lit< tt }) (record { sfits = lit< tt }) (record { sfits = lit< tt }) (record { sfits = lit< tt })

times_each : (s : Bool) (w : ℤ) → IsWinding w → to_z w32 (of_z w32 (machine (cond s (negsuc 0) (pos 1)) w)) ≡ cond s (negsuc 0) (pos 1) *ℤ w
times_each s w = each (λ k w. to_z w32 (of_z w32 (machine k w)) ≡ k *ℤ w) s w refl refl refl refl refl refl

pub sign_fits : {w' : ℤ} (s : Bool) (k w : ℤ) → k ≡ cond s (negsuc 0) (pos 1) → w ≡ w' → IsWinding w' → SFits w32 (machine k w)
sign_fits {w'} s k w e d h = subst (λ (z : ℤ). SFits w32 (machine z w)) (sym e) (fits_each s w (subst IsWinding (sym d) h))

pub sign_times : {w' : ℤ} (s : Bool) (k w : ℤ) → k ≡ cond s (negsuc 0) (pos 1) → w ≡ w' → IsWinding w' → to_z w32 (of_z w32 (machine k w)) ≡ k *ℤ w
sign_times {w'} s k w e d h = subst (λ (z : ℤ). to_z w32 (of_z w32 (machine z w)) ≡ z *ℤ w) (sym e) (times_each s w (subst IsWinding (sym d) h))

inside : (a b : Bool) (z : ℤ) → true ≡ a → true ≡ b → z ≡ cond (a && b) z (pos 0)
inside a b z A B = λ i. cond (A i && B i) z (pos 0)

-- the winding of a placing, where the point taken back lies in the field
pub placed_at : (m n : Affine) (wind : Point → ℤ) (p q : Point) (k w : ℤ) → m ≡ n → q ≡ taken_back m p → true ≡ in_field q.x → true ≡ in_field q.y → k ≡ sign m → w ≡ wind q
    → k *ℤ w ≡ placed_wind n wind p
placed_at m n wind p q k w e d X Y K W =
    (λ i. K i *ℤ W i)
    ∙ inside (in_field q.x) (in_field q.y) (sign m *ℤ wind q) X Y
    ∙ (λ i. cond (in_field (d i).x && in_field (d i).y) (sign m *ℤ wind (d i)) (pos 0))
    ∙ ap (λ (a : Affine). placed_wind a wind p) e
