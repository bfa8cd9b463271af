-- An operation's result is its exact value, rounded once: whatever fractions the operands are given as. Assumes nothing.
use Rattle.std.proofs.Common.{◌≡◌, ℕ, zero, suc, ◌+◌, ◌-◌, ◌*◌, ◌<◌, Bool, true, false, not, ◌⊎◌, ℤ, pos, ◌+ℤ◌, ◌-ℤ◌, ◌*ℤ◌, neg_ℤ, nat_abs, refl, ap, ◌∙◌, inl, inr, eq-zero-or-pos, mul-pos, arith}
use mathlib.Core.Bool.{beq}
use lib.IntN.{neg_ℤ-neg_ℤ, pos-*ℤ-negsuc, negsuc-*ℤ-pos, negsuc-*ℤ-negsuc}
use lib.Ieee.{Float, nan, inf, fin, Format, unlike, up, down, round, sum, add, sub, mul, neg}
use lib.Ieee.Fits.{down_pos}
use lib.Ieee.Exact.{HasValue}
use lib.Ieee.Scale.{round_same}
use Rattle.std.proofs.num.Values.{sum_same, sum_like, sum_less, sum_more, sum_level}
use Rattle.std.proofs.lemmas.Int.{ints}
use Rattle.floats.specs.Value.{signed, Is, Rounds}

-- ---- the operations see only the values
add_at : (f : Format) (x y : Float) (s t : Bool) (a b c : ℕ) → 0 < c → HasValue x s a c → HasValue y t b c → add f x y ≡ sum f s a t b c
unfolding add
add_at f nan y s t a b c C h k = absurd h
add_at f (inf u) y s t a b c C h k = absurd h
add_at f (fin u m e) nan s t a b c C h k = absurd k
add_at f (fin u m e) (inf v) s t a b c C h k = absurd k
add_at f (fin u m e) (fin v n d) s t a b c C h k =
    (λ i. sum f (h.0 i) (m * up e * down d) (k.0 i) (n * up d * down e) (down e * down d))
    ∙ sum_same f s t (m * up e * down d) (n * up d * down e) (down e * down d) a b c (mul-pos (down_pos e) (down_pos d)) C
    (omega (arith, ap (λ (z : ℕ). z * down d) h.1)) (omega (arith, ap (λ (z : ℕ). z * down e) k.1))

mul_at : (f : Format) (x y : Float) (s t : Bool) (a b c d : ℕ) → 0 < c → 0 < d → HasValue x s a c → HasValue y t b d → mul f x y ≡ round f (unlike s t) (a * b) (c * d)
unfolding mul
mul_at f nan y s t a b c g C G h k = absurd h
mul_at f (inf u) y s t a b c g C G h k = absurd h
mul_at f (fin u m e) nan s t a b c g C G h k = absurd k
mul_at f (fin u m e) (inf v) s t a b c g C G h k = absurd k
mul_at f (fin u m e) (fin v n d) s t a b c g C G h k =
    (λ i. round f (unlike (h.0 i) (k.0 i)) (m * up e * (n * up d)) (down e * down d))
    ∙ round_same f (unlike s t) (m * up e * (n * up d)) (down e * down d) (a * b) (c * g) (mul-pos (down_pos e) (down_pos d)) (mul-pos C G)
    (let p : m * up e * c * (n * up d * g) ≡ a * down e * (b * down d) = λ i. h.1 i * k.1 i in omega arith)

neg_has : (x : Float) (s : Bool) (a c : ℕ) → HasValue x s a c → HasValue (neg x) (not s) a c
unfolding neg
neg_has nan s a c h = absurd h
neg_has (inf t) s a c h = absurd h
neg_has (fin t m e) s a c h = (ap not h.0, h.1)

-- ---- signs
pub neg_signed : (s : Bool) (a : ℕ) → neg_ℤ (signed s a) ≡ signed (not s) a
neg_signed false a = refl
neg_signed true a = neg_ℤ-neg_ℤ (pos a)

pub mul_signed : (s t : Bool) (a b : ℕ) → signed s a *ℤ signed t b ≡ signed (unlike s t) (a * b)
mul_signed false false a b = refl
mul_signed false true a zero = omega (arith, ints)
mul_signed false true a (suc b) = pos-*ℤ-negsuc a b
mul_signed true false zero b = omega (arith, ints)
mul_signed true false (suc a) b = negsuc-*ℤ-pos a b
mul_signed true true zero zero = refl
mul_signed true true zero (suc b) = omega (arith, ints)
mul_signed true true (suc a) zero = omega (arith, ints)
mul_signed true true (suc a) (suc b) = negsuc-*ℤ-negsuc a b

pub abs_signed : (s : Bool) (a : ℕ) → nat_abs (signed s a) ≡ a
abs_signed false a = refl
abs_signed true zero = refl
abs_signed true (suc a) = refl

pub order : (a b : ℕ) → (a < b) ⊎ ((a ≡ b) ⊎ (b < a))
order a b = elim (eq-zero-or-pos (b - a)) [ inl z ↦ inr (elim (eq-zero-or-pos (a - b)) [ inl y ↦ inl (omega arith) | inr p ↦ inr (omega arith) ]) | inr p ↦ inl (omega arith) ]

-- ---- a sum
apart : (f : Format) (s t : Bool) (a b c : ℕ) (k : ℤ) → beq s t ≡ false → (a < b → k ≡ signed t (b - a)) → (b < a → k ≡ signed s (a - b)) → (a ≡ b → k ≡ pos 0) → Rounds f (sum f s a t b c) k c
apart f s t a b c k u p q r = elim (order a b) [
  | inl l ↦ (t, b - a, sum_less f s t a b c u l, p l)
  | inr o ↦ elim o [ inl g ↦ (false, 0, sum_level f s t a b c u g, r g) | inr l ↦ (s, a - b, sum_more f s t a b c u l, q l) ]
]

summed : (f : Format) (s t : Bool) (a b c : ℕ) → Rounds f (sum f s a t b c) (signed s a +ℤ signed t b) c
summed f false false a b c = (false, a + b, sum_like f false a b c, refl)
summed f true true a b c = (true, a + b, sum_like f true a b c, omega (arith, ints))
summed f false true a b c = apart f false true a b c _ refl (λ l. omega (arith, ints)) (λ l. omega (arith, ints)) (λ l. omega (arith, ints))
summed f true false a b c = apart f true false a b c _ refl (λ l. omega (arith, ints)) (λ l. omega (arith, ints)) (λ l. omega (arith, ints))

-- ---- the four operations
pub rounds_add : (f : Format) (x y : Float) (k l : ℤ) (c : ℕ) → 0 < c → Is x k c → Is y l c → Rounds f (add f x y) (k +ℤ l) c
rounds_add f x y k l c C v w =
    let r = summed f v.0 w.0 v.1 w.1 c in
    (r.0, r.1, add_at f x y v.0 w.0 v.1 w.1 c C v.2 w.2 ∙ r.2, (λ j. v.3 j +ℤ w.3 j) ∙ r.3)

pub is_neg : (x : Float) (k : ℤ) (c : ℕ) → Is x k c → Is (neg x) (neg_ℤ k) c
is_neg x k c v = (not v.0, v.1, neg_has x v.0 v.1 c v.2, ap neg_ℤ v.3 ∙ neg_signed v.0 v.1)

pub rounds_sub : (f : Format) (x y : Float) (k l : ℤ) (c : ℕ) → 0 < c → Is x k c → Is y l c → Rounds f (sub f x y) (k -ℤ l) c
unfolding sub
rounds_sub f x y k l c C v w = rounds_add f x (neg y) k (neg_ℤ l) c C v (is_neg y l c w)

pub rounds_mul : (f : Format) (x y : Float) (k l : ℤ) (c d : ℕ) → 0 < c → 0 < d → Is x k c → Is y l d → Rounds f (mul f x y) (k *ℤ l) (c * d)
rounds_mul f x y k l c d C D v w =
    (unlike v.0 w.0, v.1 * w.1, mul_at f x y v.0 w.0 v.1 w.1 c d C D v.2 w.2, (λ q. v.3 q *ℤ w.3 q) ∙ mul_signed v.0 w.0 v.1 w.1)
