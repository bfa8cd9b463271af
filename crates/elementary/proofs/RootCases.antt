-- The cases of a square root's argument, by comparisons with 0 and the upper infinity. Assumes nothing.
use Rattle.std.proofs.Common.{◌≡◌, ℕ, zero, suc, ◌+◌, ◌*◌, ◌^◌, ◌<◌, Bool, true, false, ◌||◌, T, eqb, sym, refl, ap, subst, true≢false, zero-lt-suc, mul-pos, arith, pow_pos, eqb→eq, ltb→lt, lt→ltb, T_not, inl, inr}
use mathlib.Core.Bool.{beq}
use native.Mathlib.Nat.{pow-succ'}
use lib.IntN.{ℤ, pos, negsuc}
use lib.Ieee.{Float, nan, inf, fin, binary64, up, down, below, level, lt, le, eq, of_bits, fits}
use lib.Ieee.Fits.{and_l, up_pos}
use Rattle.std.specs.Float.{float_zero as zeroF, float_is_finite, sqrt}
use Rattle.std.specs.Bool.{passes, fails}
use Rattle.std.specs.Float.Order.{lt_irrefl, lt_of_lt_of_le, le_of_lt, lt-or-eq, eq_flip}

-- ---- the constants
pub zero_is : of_bits binary64 0 ≡ zeroF
unfolding of_bits
zero_is = refl

pub infinity_is : of_bits binary64 0x7ff0_0000_0000_0000 ≡ inf false
unfolding of_bits
infinity_is = refl

pub nan_is : of_bits binary64 0x7ff8_0000_0000_0000 ≡ nan
unfolding of_bits
nan_is = refl

pub above_zero : (x : Float) → lt (of_bits binary64 0) x ≡ true → T (lt zeroF x)
above_zero x h = passes _ (subst (λ (z : Float). lt z x ≡ true) zero_is h)

pub below_infinity : (x : Float) → lt (of_bits binary64 0) x ≡ true → lt x (of_bits binary64 0x7ff0_0000_0000_0000) ≡ true → T (float_is_finite x)
below_infinity x h k = go x (above_zero x h) (passes _ (subst (λ (z : Float). lt x z ≡ true) infinity_is k))
  where
    go : (x : Float) → T (lt zeroF x) → T (lt x (inf false)) → T (float_is_finite x)
    go nan h k = absurd (unfold lt in h)
    go (inf false) h k = absurd (unfold lt in k)
    go (inf true) h k = absurd (unfold lt in h)
    go (fin s m e) h k = unfold float_is_finite in tt

-- ---- the cases exclude each other
pub not_below : (x : Float) → T (lt zeroF x) → T (lt x zeroF) → ⊥
not_below x h k = lt_irrefl zeroF (lt_of_lt_of_le zeroF x zeroF h (le_of_lt x zeroF k))

or_r : (a b : Bool) → T b → T (a || b)
or_r true b t = tt
or_r false b t = t

le_of_eq : (x y : Float) → T (eq x y) → T (le x y)
unfolding le
le_of_eq x y h = or_r (lt x y) (eq x y) h

pub not_zero : (x : Float) → T (lt zeroF x) → T (eq x zeroF) → ⊥
not_zero x h k = lt_irrefl zeroF (lt_of_lt_of_le zeroF x zeroF h (le_of_eq x zeroF k))

level_below : (s : Bool) (a b : ℕ) → b ≡ 0 → T (level s a false b) → T (below s a false b) → ⊥
level_below false a b z h k =
    let e : a ≡ b = eqb→eq a b (and_l (eqb a b) (true || eqb a 0) h) in
    differ a b e (ltb→lt a b k)
  where
    differ : (a b : ℕ) → a ≡ b → a < b → ⊥
    differ a b e l = omega arith
level_below true a b z h k =
    let e : a ≡ b = eqb→eq a b (and_l (eqb a b) (false || eqb a 0) h) in
    none a b e z (ltb→lt 0 (a + b) k)
  where
    none : (a b : ℕ) → a ≡ b → b ≡ 0 → 0 < a + b → ⊥
    none a b e z l = omega arith

pub zero_not_below : (x : Float) → T (eq x zeroF) → T (lt x zeroF) → ⊥
unfolding eq lt
zero_not_below nan h k = h
zero_not_below (inf s) h k = h
zero_not_below (fin s m e) h k = level_below s (m * up e * 1) (0 * 1 * down e) (nothing (down e)) h k
  where
    nothing : (d : ℕ) → 0 * 1 * d ≡ 0
    nothing d = omega arith

pub nan_not_above : (x : Float) → T (lt zeroF x) → x ≡ nan → ⊥
nan_not_above x h e = unfold lt in subst (λ (z : Float). T (lt zeroF z)) e h

pub infinity_not_finite : (x : Float) → T (float_is_finite x) → x ≡ inf false → ⊥
infinity_not_finite x h e = unfold float_is_finite in subst (λ (z : Float). T (float_is_finite z)) e h

pub finite_below : (x : Float) → T (float_is_finite x) → lt x (of_bits binary64 0x7ff0_0000_0000_0000) ≡ false → ⊥
finite_below x t h = go x t (subst (λ (z : Float). lt x z ≡ false) infinity_is h)
  where
    go : (x : Float) → T (float_is_finite x) → lt x (inf false) ≡ false → ⊥
    go nan t h = unfold float_is_finite in t
    go (inf s) t h = unfold float_is_finite in t
    go (fin s m e) t h = unfold lt in true≢false h

pub infinity_above : (x : Float) → x ≡ inf false → lt (of_bits binary64 0) x ≡ false → ⊥
infinity_above x e h = unfold lt in true≢false (subst (λ (z : Float). lt zeroF z ≡ false) e (subst (λ (z : Float). lt z x ≡ false) zero_is h))

-- ---- the tests that the code makes
pub is_zero : (x : Float) → eq x (of_bits binary64 0) ≡ true → T (eq x zeroF)
is_zero x h = passes _ (subst (λ (z : Float). eq x z ≡ true) zero_is h)

pub is_not_zero : (x : Float) → eq x (of_bits binary64 0) ≡ false → T (eq x zeroF) → ⊥
is_not_zero x h t = T_not _ (fails _ (subst (λ (z : Float). eq x z ≡ false) zero_is h)) t

pub not_above : (x : Float) → lt (of_bits binary64 0) x ≡ false → T (lt zeroF x) → ⊥
not_above x h t = T_not _ (fails _ (subst (λ (z : Float). lt z x ≡ false) zero_is h)) t

pub from_zero : (x : Float) → le (of_bits binary64 0) x ≡ true → T (le zeroF x)
from_zero x h = passes _ (subst (λ (z : Float). le z x ≡ true) zero_is h)

pub not_from_zero : (x : Float) → le (of_bits binary64 0) x ≡ false → T (le zeroF x) → ⊥
not_from_zero x h t = T_not _ (fails _ (subst (λ (z : Float). le z x ≡ false) zero_is h)) t

pub infinity_from_zero : (x : Float) → x ≡ inf false → T (le zeroF x)
infinity_from_zero x e = unfold lt le in subst (λ (z : Float). T (le zeroF z)) (sym e) tt

-- ---- the library's root at these cases
pub infinity_root : (x : Float) → T (lt zeroF x) → lt x (of_bits binary64 0x7ff0_0000_0000_0000) ≡ false → x ≡ sqrt binary64 x
unfolding sqrt
infinity_root nan h k = absurd (unfold lt in h)
infinity_root (inf true) h k = absurd (unfold lt in h)
infinity_root (inf false) h k = refl
infinity_root (fin s m e) h k = absurd (finite_below (fin s m e) (unfold float_is_finite in tt) k)

level_zero : (s : Bool) (a b : ℕ) → a ≡ 0 → b ≡ 0 → T (level s a false b)
level_zero s a b e f = subst (λ (z : ℕ). T (level s z false b)) (sym e) (subst (λ (z : ℕ). T (level s 0 false z)) (sym f) (go s))
  where
    go : (s : Bool) → T (level s 0 false 0)
    go true = tt
    go false = tt

-- a zero is written in the one way
zero_size : (e : ℤ) → T (eqb (up e * down e) 1) → e ≡ pos 0
zero_size (pos zero) h = refl
zero_size (pos (suc k)) h = let p : 2 ^ suc k * 1 ≡ 1 = eqb→eq (2 ^ suc k * 1) 1 h in absurd (omega (arith, pow_pos k, pow-succ' 2 k))
zero_size (negsuc k) h = let p : 1 * 2 ^ suc k ≡ 1 = eqb→eq (1 * 2 ^ suc k) 1 h in absurd (omega (arith, pow_pos k, pow-succ' 2 k))

pub zero_root : (x : Float) → T (fits binary64 x) → T (eq x zeroF) → x ≡ sqrt binary64 x
unfolding sqrt
zero_root nan f h = absurd (unfold eq in h)
zero_root (inf s) f h = absurd (unfold eq in h)
zero_root (fin s zero e) f h = ap (fin s 0) (zero_size e (unfold fits in f))
zero_root (fin s (suc m) e) f h = absurd (unfold eq in none (mul-pos (zero-lt-suc m) (up_pos e)) (down e) (eqb→eq (suc m * up e * 1) (0 * 1 * down e) (and_l (eqb (suc m * up e * 1) (0 * 1 * down e)) (beq s false || eqb (suc m * up e * 1) 0) h)))
  where
    none : {n : ℕ} → 0 < n → (d : ℕ) → n * 1 ≡ 0 * 1 * d → ⊥
    none N d h = omega arith

-- a zero or the upper infinity is its own root
pub own_root : (x : Float) → T (fits binary64 x) → T (le zeroF x) → (T (lt zeroF x) → T (float_is_finite x) → ⊥) → x ≡ sqrt binary64 x
unfolding sqrt
own_root nan f h n = absurd (unfold lt eq le in h)
own_root (inf true) f h n = absurd (unfold lt eq le in h)
own_root (inf false) f h n = refl
own_root (fin s m e) f h n = elim (lt-or-eq zeroF (fin s m e) h) [ inl l ↦ absurd (n l (unfold float_is_finite in tt)) | inr k ↦ zero_root (fin s m e) f (eq_flip zeroF (fin s m e) k) ]

pub no_root : (x : Float) → (T (lt zeroF x) → ⊥) → (T (eq x zeroF) → ⊥) → nan ≡ sqrt binary64 x
unfolding sqrt
no_root nan h k = refl
no_root (inf true) h k = refl
no_root (inf false) h k = absurd (h (unfold lt in tt))
no_root (fin s zero e) h k = absurd (k (unfold eq in level_zero s (0 * up e * 1) (0 * 1 * down e) (none (up e)) (nothing (down e))))
  where
    none : (u : ℕ) → 0 * u * 1 ≡ 0
    none u = omega arith

    nothing : (d : ℕ) → 0 * 1 * d ≡ 0
    nothing d = omega arith
no_root (fin true (suc m) e) h k = refl
no_root (fin false (suc m) e) h k = absurd (h (unfold lt in lt→ltb (0 * 1 * down e) (suc m * up e * 1) (some (down e) (mul-pos (zero-lt-suc m) (up_pos e)))))
  where
    some : (d : ℕ) {n : ℕ} → 0 < n → 0 * 1 * d < n * 1
    some d N = omega arith
