-- Bounds by powers of two go through sums, differences, products and quotients, as computed. Assumes nothing.
use Rattle.std.proofs.Common.{◌≡◌, ℕ, zero, suc, ◌+◌, ◌*◌, ◌^◌, ◌<◌, ◌≤◌, Bool, true, false, cond, T, eqb, ltb, leb, ℤ, pos, ◌+ℤ◌, ◌*ℤ◌, neg_ℤ, nat_abs, sym, refl, ap, ◌∙◌, subst, mul-le-mul_right, mul-le-mul, mul-pos, one-mul, arith, le→leb, ltb→lt, lt→ltb, leb→le, pow_mono, pow-add, ne_eqb}
use native.Mathlib.Nat.{pow-succ'}
use lib.Pow.{pow-lt}
use lib.Ieee.{Float, nan, inf, fin, binary64, up, down, unlike, round, add, sub, mul, div, neg, le, fits, of_int}
use lib.Ieee.Fits.{down_pos, up_pos}
use lib.Ieee.Exact.{HasValue}
use lib.Ieee.Scale.{finite}
use Rattle.std.specs.Float.{float_with_sign}
use Rattle.std.proofs.num.FloatSigns.{signed_round}
use Rattle.std.proofs.lemmas.Int.{ints}
use Rattle.floats.specs.Value.{signed, Is, Rounds}
use Rattle.floats.specs.Page.{UpTo}
use Rattle.floats.proofs.Rounded.{abs_signed, rounds_add, rounds_mul, is_neg}
use Rattle.floats.proofs.Bounds.{abs_add, abs_mul, abs_neg_le}
use Rattle.floats.proofs.Monotone.{rounds_mono, rounds_self}
use Rattle.floats.proofs.Compared.{is_le}
use Rattle.floats.proofs.Sums.{common}
use Rattle.floats.proofs.Sizes.{up_to_only, up_to_every, abs_is, is_finite}
use Rattle.floats.proofs.Grids.{whole_float}

-- x is finite, and at most 2 ^ a in size
pub record Most (x : Float) (a : ℕ) : Type 0 where
  pub most : UpTo (2 ^ a) x

pub most_finite : {x : Float} {a : ℕ} → Most x a → T (finite x)
most_finite {x} h = is_finite x h.most.0 h.most.1 h.most.3

pub most_more : {x : Float} {a b : ℕ} → T (leb a b) → Most x a → Most x b
most_more {x} {a} {b} t h =
    let u = h.most in
    let p : 2 ^ a ≤ 2 ^ b = pow_mono (leb→le a b t) in
    record { most = (u.0, u.1, u.2, u.3, omega (arith, mul-le-mul_right u.1 p, u.4)) }

-- ---- a power of two is a float
power_fits : (a : ℕ) → a < 1024 → T (fits binary64 (fin false 1 (pos a)))
unfolding fits
power_fits a h = lt→ltb (1 * 2 ^ a) (2 ^ 1024) (subst (λ (z : ℕ). z < 2 ^ 1024) (sym (one-mul (2 ^ a))) (pow-lt h))

power_is : (a c : ℕ) → Is (fin false 1 (pos a)) (pos (2 ^ a * c)) c
power_is a c = (false, 2 ^ a * c, (refl, omega arith), refl)

-- ---- a number of at most 2 ^ a, rounded
signed_twice : (s : Bool) (y : Float) → float_with_sign false (float_with_sign s y) ≡ float_with_sign false y
unfolding float_with_sign
signed_twice s nan = refl
signed_twice s (inf t) = refl
signed_twice s (fin t m e) = refl

size_rounds : (x : Float) (k : ℤ) (c : ℕ) → Rounds binary64 x k c → Rounds binary64 (float_with_sign false x) (pos (nat_abs k)) c
size_rounds x k c r = (
  false,
  r.1,
  ap (float_with_sign false) (r.2 ∙ sym (signed_round binary64 r.0 r.1 c)) ∙ signed_twice r.0 (round binary64 false r.1 c) ∙ signed_round binary64 false r.1 c,
  ap pos (ap nat_abs r.3 ∙ abs_signed r.0 r.1),
)

power_whole : (a : ℕ) → Is (fin false 1 (pos a)) (pos (2 ^ a)) 1
power_whole a = subst (λ (z : ℕ). Is (fin false 1 (pos a)) (pos z) 1) (omega arith) (power_is a 1)

pub rounds_most : (x : Float) (k : ℤ) (c a : ℕ) → 0 < c → a < 1024 → Rounds binary64 x k c → nat_abs k ≤ 2 ^ a * c → Most x a
rounds_most x k c a C A r h = record {
  most = up_to_only x (fin false 1 (pos a)) (2 ^ a) (power_whole a)
      (rounds_mono binary64 (float_with_sign false x) (fin false 1 (pos a)) (pos (nat_abs k)) (pos (2 ^ a * c)) c C (size_rounds x k c r)
      (rounds_self binary64 (fin false 1 (pos a)) (pos (2 ^ a * c)) c C (power_fits a A) (power_is a c)) (record { le = le→leb (nat_abs k) (2 ^ a * c) h }));
}

-- by the test that x passes
pub most_tested : (x : Float) (a : ℕ) → T (le (float_with_sign false x) (fin false 1 (pos a))) → Most x a
most_tested x a t = record { most = up_to_only x (fin false 1 (pos a)) (2 ^ a) (power_whole a) t }

-- whatever fraction x is given as
pub most_at : (x : Float) (k : ℤ) (c a : ℕ) → 0 < c → Most x a → Is x k c → nat_abs k ≤ 2 ^ a * c
most_at x k c a C h v =
    leb→le (nat_abs k) (2 ^ a * c)
    (subst T (is_le (float_with_sign false x) (fin false 1 (pos a)) (pos (nat_abs k)) (pos (2 ^ a * c)) c C (abs_is x k c v) (power_is a c)) (up_to_every x (fin false 1 (pos a)) (2 ^ a) (power_whole a) h.most))

-- ---- the operations
pub most_mul : {x y : Float} {a b : ℕ} → T (ltb (a + b) 1024) → Most x a → Most y b → Most (mul binary64 x y) (a + b)
most_mul {x} {y} {a} {b} t h g =
    let m = common x y y (most_finite h) (most_finite g) (most_finite g) in
    rounds_most (mul binary64 x y) (m.k *ℤ m.l) (m.c * m.c) (a + b) (mul-pos m.above m.above) (ltb→lt (a + b) 1024 t)
    (rounds_mul binary64 x y m.k m.l m.c m.c m.above m.above m.first m.second)
    (omega (arith, abs_mul m.k m.l (2 ^ a * m.c) (2 ^ b * m.c) (most_at x m.k m.c a m.above h m.first) (most_at y m.l m.c b m.above g m.second), ap (λ (z : ℕ). z * (m.c * m.c)) (pow-add 2 a b)))

pub most_add : {x y : Float} {a : ℕ} → T (ltb (suc a) 1024) → Most x a → Most y a → Most (add binary64 x y) (suc a)
most_add {x} {y} {a} t h g =
    let m = common x y y (most_finite h) (most_finite g) (most_finite g) in
    rounds_most (add binary64 x y) (m.k +ℤ m.l) m.c (suc a) m.above (ltb→lt (suc a) 1024 t)
    (rounds_add binary64 x y m.k m.l m.c m.above m.first m.second)
    (omega (arith, abs_add m.k m.l (2 ^ a * m.c) (2 ^ a * m.c) (most_at x m.k m.c a m.above h m.first) (most_at y m.l m.c a m.above g m.second), ap (λ (z : ℕ). z * m.c) (pow-succ' 2 a)))

pub most_neg : {x : Float} {a : ℕ} → Most x a → Most (neg x) a
most_neg {x} {a} h = let u = h.most in record { most = (neg_ℤ u.0, u.1, u.2, is_neg x u.0 u.1 u.3, abs_neg_le u.0 (2 ^ a * u.1) u.4) }

pub most_sub : {x y : Float} {a : ℕ} → T (ltb (suc a) 1024) → Most x a → Most y a → Most (sub binary64 x y) (suc a)
unfolding sub
most_sub t h g = most_add t h (most_neg g)

-- the sign of a number above 0
positive : (x : Float) (n : ℕ) → 0 < n → Is x (pos n) 1 → HasValue x false n 1
positive x n P v = at v.0 v.1 v.2 v.3
  where
    at : (s : Bool) (a : ℕ) → HasValue x s a 1 → pos n ≡ signed s a → HasValue x false n 1
    at false a w k = let g : n ≡ a = omega (arith, ints) in subst (λ (z : ℕ). HasValue x false z 1) (sym g) w
    at true a w k = absurd (omega (arith, ints))

-- a quotient by a whole number above 0
quotient : (s : Bool) (m : ℕ) (e : ℤ) (a D : ℕ) (y : Float) → a < 1024 → 0 < D → m * up e ≤ 2 ^ a * down e → HasValue y false D 1 → Most (div binary64 (fin s m e) y) a
unfolding div
quotient s m e a D nan A P h v = absurd v
quotient s m e a D (inf t) A P h v = absurd v
quotient s m e a D (fin t zero d) A P h v = absurd (omega (arith, v.1, down_pos d, mul-pos P (down_pos d)))
quotient s m e a D (fin t (suc n) d) A P h v =
    let g : down d ≤ suc n * up d = omega (arith, v.1, mul-le-mul_right (down d) P) in
    let c = suc n * up d * down e in
    let r = round binary64 (unlike s t) (m * up e * down d) c in
    subst (λ (b : Bool). Most (cond b (cond (eqb m 0) nan (inf (unlike s t))) r) a) (sym (ne_eqb (suc n) 0 (λ z. omega arith)))
    (rounds_most r (signed (unlike s t) (m * up e * down d)) c a (mul-pos (mul-pos {m = suc n} (omega arith) (up_pos d)) (down_pos e)) A
    (unlike s t, m * up e * down d, refl, refl)
    (subst (λ (z : ℕ). z ≤ 2 ^ a * c) (sym (abs_signed (unlike s t) (m * up e * down d))) (omega (arith, mul-le-mul h g))))

quotients : (x : Float) (a D : ℕ) → a < 1024 → 0 < D → D < 2 ^ 53 → Most x a → Most (div binary64 x (of_int binary64 (pos D))) a
quotients nan a D A P Q h = absurd h.most.3.2
quotients (inf s) a D A P Q h = absurd h.most.3.2
quotients (fin s m e) a D A P Q h =
    let v = whole_float D Q in
    quotient s m e a D (of_int binary64 (pos D)) A P
    (subst (λ (z : ℕ). z ≤ 2 ^ a * down e) (abs_signed s (m * up e)) (most_at (fin s m e) (signed s (m * up e)) (down e) a (down_pos e) h (s, m * up e, (refl, refl), refl)))
    (positive (of_int binary64 (pos D)) D P v)

pub most_div : {x : Float} {a : ℕ} (D : ℕ) → T (ltb a 1024) → T (ltb 0 D) → T (ltb D (2 ^ 53)) → Most x a → Most (div binary64 x (of_int binary64 (pos D))) a
most_div {x} {a} D t p q h = quotients x a D (ltb→lt a 1024 t) (ltb→lt 0 D p) (ltb→lt D (2 ^ 53) q) h
