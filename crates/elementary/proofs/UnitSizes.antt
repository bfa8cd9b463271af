-- An `f64` from 0 up by its size: at most 53 binary digits and zeros after them, in units of 2 ^ -1074. Its size and its sign are all of it. Assumes nothing.
use Rattle.std.proofs.Common.{◌≡◌, ℕ, zero, suc, ◌+◌, ◌-◌, ◌*◌, ◌/◌, ◌%◌, ◌^◌, ◌<◌, ◌≤◌, Bool, true, false, ◌&&◌, T, eqb, ltb, leb, ℤ, pos, negsuc, sym, refl, ap, ◌∙◌, true≢false, lt_of_lt_of_le, lt_irrefl, zero-lt-suc, mul-pos, lt_of_not-le, mul-div_cancel, arith, ltb→lt, leb→le, pow_pos, pow_mono, pow-add}
use native.Mathlib.Nat.{eq_of_mul-eq-mul_right}
use lib.Ieee.{Float, nan, inf, fin, binary64, up, down, size, lt, fits, to_bits, of_bits}
use lib.Ieee.Fits.{and_l, and_r, down_pos}
use lib.Ieee.Exact.{HasValue}
use lib.Ieee.Bits.{of_bits-to_bits}
use Rattle.std.specs.Float.{float_zero as zeroF, float_is_finite}
use Rattle.floats.proofs.Monotone.{exponents}
use Rattle.elementary.specs.Roots.{Units}

-- ---- values
pub value_same : (x : Float) (s t : Bool) (a b c : ℕ) → HasValue x s a c → HasValue x t b c → a ≡ b
value_same nan s t a b c h k = absurd h
value_same (inf u) s t a b c h k = absurd h
value_same (fin u m e) s t a b c h k = eq_of_mul-eq-mul_right (down e) (down_pos e) a b (sym h.1 ∙ k.1)

-- ---- the digits of an `f64`
pub pow_lt_back : (a b : ℕ) → 2 ^ a < 2 ^ b → a < b
pow_lt_back a b h = lt_of_not-le (λ (g : b ≤ a). lt_irrefl (2 ^ a) (lt_of_lt_of_le h (pow_mono g)))

abbrev pub Digits : Float → Type 0
Digits x = (a : ℕ) × (i : ℕ) × (a < 2 ^ 53) × HasValue x false (a * 2 ^ i) (2 ^ 1074)

carried : (m k P : ℕ) → m * 2 ^ k * P ≡ m * (2 ^ k * P) * 1
carried m k P = omega arith

joined : (m d p P : ℕ) → d * p ≡ P → m * 1 * P ≡ m * d * p
joined m d p P e = omega (arith, ap (λ (z : ℕ). m * z) e)

parted : (k P : ℕ) → suc k ≤ P → P - suc k + suc k ≡ P
parted k P h = omega arith

placed : (m : ℕ) (e : ℤ) → m < 2 ^ 53 → down e ≤ 2 ^ 1074 → Digits (fin false m e)
placed m (pos k) h l = (m, k + 1074, h, (refl, carried m k (2 ^ 1074) ∙ ap (λ (z : ℕ). m * z * 1) (sym (pow-add 2 k 1074))))
placed m (negsuc k) h l =
    let s : suc k ≤ 1074 = exponents (suc k) 1074 l in
    (m, 1074 - suc k, h, (refl, joined m (2 ^ (1074 - suc k)) (2 ^ suc k) (2 ^ 1074) (sym (pow-add 2 (1074 - suc k) (suc k)) ∙ ap (λ (z : ℕ). 2 ^ z) (parted k 1074 s))))

none : (e : ℤ) → 0 * up e * 2 ^ 1074 ≡ 0 * 2 ^ 0 * down e
none e = zeros (up e) (2 ^ 1074) (down e)
  where
    zeros : (u P d : ℕ) → 0 * u * P ≡ 0 * 1 * d
    zeros u P d = omega arith

digits_of : (m : ℕ) (e : ℤ) → T (fits binary64 (fin false m e)) → Digits (fin false m e)
unfolding fits
digits_of zero e t = (0, 0, zero-lt-suc (2 ^ 53 - 1), (refl, none e))
digits_of (suc m) e t =
    let a = eqb (suc m % 2) 1 in
    let b = ltb (suc m) (2 ^ 53) in
    let c = leb (down e) (2 ^ 1074) in
    let d = ltb (suc m * up e) (2 ^ 1024 * down e) in
    placed (suc m) e (ltb→lt (suc m) (2 ^ 53) (and_r a b (and_l (a && b) c (and_l (a && b && c) d t)))) (leb→le (down e) (2 ^ 1074) (and_r (a && b) c (and_l (a && b && c) d t)))

-- every `f64` from 0 up has such digits, and they are its units
pub units_digits : (x : Float) (u : ℕ) → Units x u → (a : ℕ) × (i : ℕ) × (a < 2 ^ 53) × (u ≡ a * 2 ^ i)
units_digits nan u h = absurd h.1
units_digits (inf s) u h = absurd h.1
units_digits (fin true m e) u h = absurd (true≢false h.1.0)
units_digits (fin false m e) u h =
    let d = digits_of m e h.0 in
    (d.0, d.1, d.2, value_same (fin false m e) false false u (d.0 * 2 ^ d.1) (2 ^ 1074) h.1 d.3)

-- a number above 0 has units, one at least
some : (m : ℕ) (e : ℤ) → T (lt zeroF (fin false m e)) → 0 < m * up e
unfolding lt
some m e t = more (down e) (m * up e) (ltb→lt (0 * 1 * down e) (m * up e * 1) t)
  where
    more : (d n : ℕ) → 0 * 1 * d < n * 1 → 0 < n
    more d n h = omega arith

above_none : (u d n P : ℕ) → 0 < n → 0 < P → n * P ≡ u * d → 0 < u
above_none zero d n P N Q h = absurd (no (n * P) d (mul-pos N Q) h)
  where
    no : (z d : ℕ) → 0 < z → z ≡ 0 * d → ⊥
    no z d a b = omega arith
above_none (suc u) d n P N Q h = zero-lt-suc u

pub units_of : (x : Float) → T (fits binary64 x) → T (lt zeroF x) → T (float_is_finite x) → (v : ℕ) × (0 < v) × Units x v
unfolding float_is_finite
units_of nan f p t = absurd t
units_of (inf s) f p t = absurd t
units_of (fin true m e) f p t = absurd (unfold lt in p)
units_of (fin false m e) f p t =
    let d = digits_of m e f in
    let v = d.0 * 2 ^ d.1 in
    (v, above_none v (down e) (m * up e) (2 ^ 1074) (some m e p) (pow_pos 1074) d.3.1, (f, d.3))

-- ---- one size, one float
written : (m : ℕ) (e : ℤ) (u : ℕ) → m * up e * 2 ^ 1074 ≡ u * down e → to_bits binary64 (fin false m e) ≡ 0 + (size u - 53) * 2 ^ 52 + u / 2 ^ (size u - 53)
unfolding to_bits
written m e u h = ap (λ (n : ℕ). 0 + (size n - 53) * 2 ^ 52 + n / 2 ^ (size n - 53)) (ap (λ (z : ℕ). z / down e) h ∙ mul-div_cancel u (down_pos e))

written_of : (x : Float) (u : ℕ) → HasValue x false u (2 ^ 1074) → to_bits binary64 x ≡ 0 + (size u - 53) * 2 ^ 52 + u / 2 ^ (size u - 53)
written_of nan u h = absurd h
written_of (inf s) u h = absurd h
written_of (fin true m e) u h = absurd (true≢false h.0)
written_of (fin false m e) u h = written m e u h.1

pub units_same : (x y : Float) (u : ℕ) → Units x u → Units y u → x ≡ y
units_same x y u h k =
    sym (of_bits-to_bits binary64 x h.0) ∙ ap (of_bits binary64) (written_of x u h.1 ∙ sym (written_of y u k.1)) ∙ of_bits-to_bits binary64 y k.0
