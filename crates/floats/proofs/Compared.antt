-- Comparisons of floats whose values are fractions over one power of two are those of the numerators. Assumes nothing.
use Rattle.std.proofs.Common.{◌≡◌, ℕ, zero, suc, ◌+◌, ◌*◌, ◌^◌, ◌<◌, ◌≤◌, Bool, true, false, ◌&&◌, ◌||◌, eqb, ltb, ℤ, pos, ◌*ℤ◌, sym, refl, ap, ◌∙◌, inl, inr, mul-le-mul_right, eq-zero-or-pos, lt_of_mul-lt-mul_right, mul-lt-mul_of_pos_right, mul-pos, le_of_mul-le-mul_right, arith, pow-add, le-ltb, lt-ltb, eq-eqb, ne_eqb}
use mathlib.Core.Bool.{beq}
use native.Mathlib.Nat.{eq_of_mul-eq-mul_right}
use lib.Dec.{leb-suc-suc, leb-suc-zero}
use lib.Signed.{lt_z, le_z}
use lib.Ieee.{Float, nan, inf, fin, unlike, up, down, below, level, lt, le, eq}
use lib.Ieee.Fits.{down_pos}
use lib.Ieee.Exact.{HasValue}
use Rattle.std.proofs.lemmas.Int.{ints, by_lt_z}
use Rattle.floats.specs.Value.{signed, Is, Val}
use Rattle.floats.proofs.Rounded.{order, mul_signed}

-- ---- fractions over c and over D
same_ltb : (A B a b c D : ℕ) → 0 < c → 0 < D → A * c ≡ a * D → B * c ≡ b * D → ltb A B ≡ ltb a b
same_ltb A B a b c D C P p q = elim (order a b) [
  | inl l ↦ lt-ltb A B (lt_of_mul-lt-mul_right c (omega (arith, mul-lt-mul_of_pos_right l P))) ∙ sym (lt-ltb a b l)
  | inr o ↦
      let l : b ≤ a = elim o [ inl e ↦ omega arith | inr g ↦ omega arith ] in
      le-ltb A B (le_of_mul-le-mul_right (omega (arith, mul-le-mul_right D l)) C) ∙ sym (le-ltb a b l)
]

same_below : (s t : Bool) (A B a b c D : ℕ) → 0 < c → 0 < D → A * c ≡ a * D → B * c ≡ b * D → below s A t B ≡ below s a t b
same_below false false A B a b c D C P p q = same_ltb A B a b c D C P p q
same_below false true A B a b c D C P p q = refl
same_below true false A B a b c D C P p q = same_ltb 0 (A + B) 0 (a + b) c D C P (omega arith) (omega arith)
same_below true true A B a b c D C P p q = same_ltb B A b a c D C P q p

below_is : (s t : Bool) (a b : ℕ) → below s a t b ≡ lt_z (signed s a) (signed t b)
below_is false false a b = refl
below_is false true a zero = sym (leb-suc-zero a)
below_is false true a (suc b) = refl
below_is true false zero b = ap (ltb 0) (omega arith)
below_is true false (suc a) b = lt-ltb 0 (suc a + b) (omega arith)
below_is true true zero zero = refl
below_is true true zero (suc b) = leb-suc-zero (suc b)
below_is true true (suc a) zero = lt-ltb 0 (suc a) (omega arith)
below_is true true (suc a) (suc b) = leb-suc-suc (suc b) a

lt_at : (x y : Float) (s t : Bool) (a b c : ℕ) → 0 < c → HasValue x s a c → HasValue y t b c → lt x y ≡ below s a t b
unfolding lt
lt_at nan y s t a b c C h k = absurd h
lt_at (inf u) y s t a b c C h k = absurd h
lt_at (fin u m e) nan s t a b c C h k = absurd k
lt_at (fin u m e) (inf v) s t a b c C h k = absurd k
lt_at (fin u m e) (fin v n d) s t a b c C h k =
    (λ i. below (h.0 i) (m * up e * down d) (k.0 i) (n * up d * down e))
    ∙ same_below s t (m * up e * down d) (n * up d * down e) a b c (down e * down d) C (mul-pos (down_pos e) (down_pos d))
    (omega (arith, ap (λ (z : ℕ). z * down d) h.1)) (omega (arith, ap (λ (z : ℕ). z * down e) k.1))

pub is_lt : (x y : Float) (k l : ℤ) (c : ℕ) → 0 < c → Is x k c → Is y l c → lt x y ≡ lt_z k l
is_lt x y k l c C v w = lt_at x y v.0 w.0 v.1 w.1 c C v.2 w.2 ∙ below_is v.0 w.0 v.1 w.1 ∙ sym (λ j. lt_z (v.3 j) (w.3 j))

-- ---- equality
same_eqb : (A B a b c D : ℕ) → 0 < c → 0 < D → A * c ≡ a * D → B * c ≡ b * D → eqb A B ≡ eqb a b
same_eqb A B a b c D C P p q = elim (order a b) [
  | inl l ↦ ne_eqb A B (λ g. omega (arith, mul-lt-mul_of_pos_right l P, ap (λ (z : ℕ). z * c) g)) ∙ sym (ne_eqb a b (λ g. omega arith))
  | inr o ↦ elim o [
    | inl e ↦ eq-eqb A B (eq_of_mul-eq-mul_right c C A B (omega (arith, ap (λ (z : ℕ). z * D) e))) ∙ sym (eq-eqb a b e)
    | inr l ↦ ne_eqb A B (λ g. omega (arith, mul-lt-mul_of_pos_right l P, ap (λ (z : ℕ). z * c) g)) ∙ sym (ne_eqb a b (λ g. omega arith))
  ]
]

same_level : (s t : Bool) (A B a b c D : ℕ) → 0 < c → 0 < D → A * c ≡ a * D → B * c ≡ b * D → level s A t B ≡ level s a t b
same_level s t A B a b c D C P p q = λ i. same_eqb A B a b c D C P p q i && (beq s t || same_eqb A 0 a 0 c D C P p (omega arith) i)

eq_at : (x y : Float) (s t : Bool) (a b c : ℕ) → 0 < c → HasValue x s a c → HasValue y t b c → eq x y ≡ level s a t b
unfolding eq
eq_at nan y s t a b c C h k = absurd h
eq_at (inf u) y s t a b c C h k = absurd h
eq_at (fin u m e) nan s t a b c C h k = absurd k
eq_at (fin u m e) (inf v) s t a b c C h k = absurd k
eq_at (fin u m e) (fin v n d) s t a b c C h k =
    (λ i. level (h.0 i) (m * up e * down d) (k.0 i) (n * up d * down e))
    ∙ same_level s t (m * up e * down d) (n * up d * down e) a b c (down e * down d) C (mul-pos (down_pos e) (down_pos d))
    (omega (arith, ap (λ (z : ℕ). z * down d) h.1)) (omega (arith, ap (λ (z : ℕ). z * down e) k.1))

both : (p q : Bool) → p ≡ true → q ≡ true → p && q ≡ true
both p q a b = λ i. a i && b i

second : (p q : Bool) → q ≡ false → p && q ≡ false
second true q e = e
second false q e = refl

level_yes : (s t : Bool) (a b : ℕ) → signed s a ≡ signed t b → level s a t b ≡ true
level_yes false false a b e = rw (eq-eqb a b (omega (arith, ints)))
level_yes true true a b e = rw (eq-eqb a b (omega (arith, ints)))
level_yes false true a b e = rw (eq-eqb a b (omega (arith, ints)), eq-eqb a 0 (omega (arith, ints)))
level_yes true false a b e = rw (eq-eqb a b (omega (arith, ints)), eq-eqb a 0 (omega (arith, ints)))

level_no : (s t : Bool) (a b : ℕ) → (signed s a ≡ signed t b → ⊥) → level s a t b ≡ false
level_no false false a b n = rw (ne_eqb a b (λ e. n (ap pos e)))
level_no true true a b n = rw (ne_eqb a b (λ e. n (ap (signed true) e)))
level_no false true a b n = elim (eq-zero-or-pos a) [
  | inl z ↦ rw (ne_eqb a b (λ e. n (omega (arith, ints))))
  | inr p ↦ second (eqb a b) (eqb a 0) (ne_eqb a 0 (λ e. omega arith))
]
level_no true false a b n = elim (eq-zero-or-pos a) [
  | inl z ↦ rw (ne_eqb a b (λ e. n (omega (arith, ints))))
  | inr p ↦ second (eqb a b) (eqb a 0) (ne_eqb a 0 (λ e. omega arith))
]

pub is_eq : (x y : Float) (k l : ℤ) (c : ℕ) → 0 < c → Is x k c → Is y l c → k ≡ l → eq x y ≡ true
is_eq x y k l c C v w e = eq_at x y v.0 w.0 v.1 w.1 c C v.2 w.2 ∙ level_yes v.0 w.0 v.1 w.1 (sym v.3 ∙ e ∙ w.3)

pub is_ne : (x y : Float) (k l : ℤ) (c : ℕ) → 0 < c → Is x k c → Is y l c → (k ≡ l → ⊥) → eq x y ≡ false
is_ne x y k l c C v w n = eq_at x y v.0 w.0 v.1 w.1 c C v.2 w.2 ∙ level_no v.0 w.0 v.1 w.1 (λ e. n (v.3 ∙ e ∙ sym w.3))

-- the test on the numerators
abbrev pub eqZ : ℤ → ℤ → Bool
eqZ k l = le_z k l && le_z l k

pub is_eq_test : (x y : Float) (k l : ℤ) (c : ℕ) → 0 < c → Is x k c → Is y l c → eq x y ≡ eqZ k l
is_eq_test x y k l c C v w =
    by_lt_z k l
    (λ h. let q : eqZ k l ≡ false = grind (arith, ints) in is_ne x y k l c C v w (λ e. omega (arith, ints)) ∙ sym q)
    (λ h.
    by_lt_z l k
    (λ g. let q : eqZ k l ≡ false = grind (arith, ints) in is_ne x y k l c C v w (λ e. omega (arith, ints)) ∙ sym q)
    (λ g. let q : eqZ k l ≡ true = grind (arith, ints) in is_eq x y k l c C v w (omega (arith, ints)) ∙ sym q))

pub is_le : (x y : Float) (k l : ℤ) (c : ℕ) → 0 < c → Is x k c → Is y l c → le x y ≡ le_z k l
unfolding le
is_le x y k l c C v w =
    let t : lt x y ≡ lt_z k l = is_lt x y k l c C v w in
    by_lt_z k l
    (λ h. let p : lt_z k l ≡ true = grind (arith, ints) in let q : le_z k l ≡ true = grind (arith, ints) in (λ j. (t ∙ p) j || eq x y) ∙ sym q)
    (λ h.
    let p : lt_z k l ≡ false = grind (arith, ints) in
    by_lt_z l k
    (λ g. let q : le_z k l ≡ false = grind (arith, ints) in (λ j. (t ∙ p) j || is_ne x y k l c C v w (λ e. omega (arith, ints)) j) ∙ sym q)
    (λ g. let q : le_z k l ≡ true = grind (arith, ints) in (λ j. (t ∙ p) j || is_eq x y k l c C v w (omega (arith, ints)) j) ∙ sym q))

-- ---- over a larger power of two
pub val_finer : (x : Float) (k : ℤ) (i j : ℕ) → Val x k i → Val x (k *ℤ pos (2 ^ j)) (i + j)
val_finer x k i j v = (v.0, v.1 * 2 ^ j, finer x v.0 v.1 v.2, ap (λ (z : ℤ). z *ℤ pos (2 ^ j)) v.3 ∙ scaled v.0 v.1)
  where
    finer : (y : Float) (s : Bool) (a : ℕ) → HasValue y s a (2 ^ i) → HasValue y s (a * 2 ^ j) (2 ^ (i + j))
    finer nan s a h = h
    finer (inf t) s a h = h
    finer (fin t m e) s a h = (h.0, ap (λ (z : ℕ). m * up e * z) (pow-add 2 i j) ∙ omega (arith, ap (λ (z : ℕ). z * 2 ^ j) h.1))

    alike : (s : Bool) → unlike s false ≡ s
    alike true = refl
    alike false = refl

    scaled : (s : Bool) (a : ℕ) → signed s a *ℤ pos (2 ^ j) ≡ signed s (a * 2 ^ j)
    scaled s a = mul_signed s false a (2 ^ j) ∙ ap (λ (u : Bool). signed u (a * 2 ^ j)) (alike s)
