-- The size of a float, floats that compare as equal, and which floats are at most a whole number in size. Assumes nothing.
use Rattle.std.proofs.Common.{◌≡◌, ℕ, ◌*◌, ◌<◌, ◌≤◌, Bool, true, false, not, ◌||◌, T, eqb, ℤ, pos, nat_abs, sym, refl, ap, ◌∙◌, subst, mul-pos, zero-mul, arith, le→leb, eqb→eq, leb→le}
use mathlib.Core.Bool.{beq}
use native.Mathlib.Nat.{eq_of_mul-eq-mul_right}
use lib.Signed.{le_z}
use lib.Ieee.{Float, nan, inf, fin, up, down, lt, le, eq, is_nan}
use lib.Ieee.Fits.{down_pos, and_l, and_r}
use lib.Ieee.Exact.{HasValue}
use lib.Ieee.Scale.{finite}
use Rattle.std.specs.Float.{float_zero as zeroF, float_with_sign}
use Rattle.std.proofs.lemmas.Int.{ints}
use Rattle.floats.specs.Value.{signed, Is}
use Rattle.floats.specs.Page.{UpTo}
use Rattle.floats.proofs.Rounded.{abs_signed}
use Rattle.floats.proofs.Compared.{is_le}

-- ---- the size
sized : (x : Float) (s : Bool) (a c : ℕ) → HasValue x s a c → HasValue (float_with_sign false x) false a c
unfolding float_with_sign
sized nan s a c h = h
sized (inf t) s a c h = h
sized (fin t m e) s a c h = (refl, h.1)

pub abs_is : (x : Float) (k : ℤ) (c : ℕ) → Is x k c → Is (float_with_sign false x) (pos (nat_abs k)) c
abs_is x k c v = (false, v.1, sized x v.0 v.1 c v.2, ap pos (ap nat_abs v.3 ∙ abs_signed v.0 v.1))

pub abs_is_back : (x : Float) (k : ℤ) (c : ℕ) → Is (float_with_sign false x) k c → (l : ℤ) × Is x l c × (nat_abs l ≡ nat_abs k)
unfolding float_with_sign
abs_is_back nan k c v = absurd v.2
abs_is_back (inf t) k c v = absurd v.2
abs_is_back (fin t m e) k c v = (signed t v.1, (t, v.1, (refl, v.2.1), refl), abs_signed t v.1 ∙ sym (ap nat_abs v.3 ∙ abs_signed v.0 v.1))

pub abs_from_zero : (x : Float) → T (not (is_nan (float_with_sign false x))) → T (le zeroF (float_with_sign false x))
unfolding float_with_sign is_nan
abs_from_zero nan h = absurd h
abs_from_zero (inf s) h = unfold le lt in tt
abs_from_zero (fin s m e) h =
    subst T (sym (is_le zeroF (fin false m e) (pos 0) (pos (m * up e)) (down e) (down_pos e) (false, 0, (refl, omega arith), refl) (false, m * up e, (refl, refl), refl)))
    (le→leb 0 (m * up e) (omega arith))

pub is_finite : (x : Float) (k : ℤ) (c : ℕ) → Is x k c → T (finite x)
is_finite nan k c v = absurd v.2
is_finite (inf s) k c v = absurd v.2
is_finite (fin s m e) k c v = tt

-- ---- equal floats have one value
zero_signed : (s t : Bool) (a : ℕ) → a ≡ 0 → signed s a ≡ signed t a
zero_signed false false a z = refl
zero_signed false true a z = omega (arith, ints)
zero_signed true false a z = omega (arith, ints)
zero_signed true true a z = refl

one_sign : (s t : Bool) (a b : ℕ) → T (beq s t || eqb b 0) → (b ≡ 0 → a ≡ 0) → signed s a ≡ signed t a
one_sign false false a b h z = refl
one_sign true true a b h z = refl
one_sign false true a b h z = zero_signed false true a (z (eqb→eq b 0 h))
one_sign true false a b h z = zero_signed true false a (z (eqb→eq b 0 h))

no_numerator : (a b : ℕ) → 0 < b → 0 ≡ a * b → a ≡ 0
no_numerator a b B h = eq_of_mul-eq-mul_right b B a 0 (omega arith)

pub eq_is : (x y : Float) (k : ℤ) (c : ℕ) → 0 < c → Is x k c → T (eq x y) → Is y k c
unfolding eq
eq_is nan y k c C v h = absurd v.2
eq_is (inf s) y k c C v h = absurd v.2
eq_is (fin s m e) nan k c C v h = absurd h
eq_is (fin s m e) (inf t) k c C v h = absurd h
eq_is (fin s m e) (fin t n d) k c C v h =
    let a = v.1 in
    let A = m * up e * down d in
    let B = n * up d * down e in
    let same : A ≡ B = eqb→eq A B (and_l (eqb A B) (beq s t || eqb A 0) h) in
    let value : n * up d * c ≡ a * down d =
    eq_of_mul-eq-mul_right (down e) (down_pos e) (n * up d * c) (a * down d) (omega (arith, ap (λ (z : ℕ). z * c) same, ap (λ (z : ℕ). z * down d) v.2.1)) in
    let none : A ≡ 0 → a ≡ 0 = λ z. no_numerator a (down e * down d) (mul-pos (down_pos e) (down_pos d)) (omega (arith, ap (λ (z : ℕ). z * down d) v.2.1, ap (λ (w : ℕ). w * c) z)) in
    (t, a, (refl, value), v.3 ∙ ap (λ (u : Bool). signed u a) (sym v.2.0) ∙ one_sign s t a A (and_r (eqb A B) (beq s t || eqb A 0) h) none)

-- ---- a whole number, over any denominator
scaled : (y : Float) (s : Bool) (a c : ℕ) → HasValue y s a 1 → HasValue y s (a * c) c
scaled nan s a c h = h
scaled (inf t) s a c h = h
scaled (fin t m e) s a c h = (h.0, omega (arith, ap (λ (z : ℕ). z * c) h.1))

scaled_sign : (s : Bool) (n a c : ℕ) → pos n ≡ signed s a → pos (n * c) ≡ signed s (a * c)
scaled_sign false n a c h = let e : n ≡ a = omega (arith, ints) in ap (λ (z : ℕ). pos (z * c)) e
scaled_sign true n a c h =
    let p : n ≡ 0 = omega (arith, ints) in
    let q : a ≡ 0 = omega (arith, ints) in
    ap (λ (z : ℕ). pos (z * c)) p ∙ ap pos (zero-mul c) ∙ sym (ap (λ (z : ℕ). signed true (z * c)) q ∙ ap (signed true) (zero-mul c))

pub whole_is : (y : Float) (n c : ℕ) → Is y (pos n) 1 → Is y (pos (n * c)) c
whole_is y n c v = (v.0, v.1 * c, scaled y v.0 v.1 c v.2, scaled_sign v.0 n v.1 c v.3)

-- ---- at most n in size
pub up_to_only : (x y : Float) (n : ℕ) → Is y (pos n) 1 → T (le (float_with_sign false x) y) → UpTo n x
unfolding float_with_sign
up_to_only nan y n v h = absurd (unfold le lt eq in h)
up_to_only (inf s) nan n v h = absurd (unfold le lt eq in h)
up_to_only (inf s) (inf t) n v h = absurd v.2
up_to_only (inf s) (fin t m e) n v h = absurd (unfold le lt eq in h)
up_to_only (fin s m e) y n v h =
    let D = down_pos e in
    let t : T (le_z (pos (m * up e)) (pos (n * down e))) =
    subst T (is_le (fin false m e) y (pos (m * up e)) (pos (n * down e)) (down e) D (false, m * up e, (refl, refl), refl) (whole_is y n (down e) v)) h in
    (signed s (m * up e), down e, D, (s, m * up e, (refl, refl), refl), subst (λ (z : ℕ). z ≤ n * down e) (sym (abs_signed s (m * up e))) (leb→le (m * up e) (n * down e) t))

pub up_to_every : (x y : Float) (n : ℕ) → Is y (pos n) 1 → UpTo n x → T (le (float_with_sign false x) y)
up_to_every x y n v u =
    subst T (sym (is_le (float_with_sign false x) y (pos (nat_abs u.0)) (pos (n * u.1)) u.1 u.2 (abs_is x u.0 u.1 u.3) (whole_is y n u.1 v)))
    (le→leb (nat_abs u.0) (n * u.1) u.4)
