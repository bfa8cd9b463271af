-- The laws of floats that the answers on a page rest on: where arithmetic is exact, that rounding keeps the order, and that a zero's sign is not seen. Assumes nothing.
use Rattle.std.specs.Prelude.{◌≡◌, ℕ, ◌+◌, ◌^◌, ◌<◌, ◌≤◌, false, T, ℤ, ◌+ℤ◌, ◌-ℤ◌, ◌*ℤ◌, neg_ℤ, int_le, int_lt, unsigned_abs, Float}
use Rattle.std.specs.Float.Ieee.{add, sub, mul, neg, lt, le, eq}
use Rattle.std.specs.Float.Ieee.Scale.{finite}
use Rattle.std.specs.Float.{float_zero, float_with_sign, float_min, float_max, binary64}
use Rattle.floats.specs.Value.{Val}
use Rattle.floats.specs.Zeros.{Alike}

-- Numbers k / 2 ^ i: sums, differences, products and negations are exact while the numerator fits 53 bits, and the comparisons are those of the numerators.
pub record Exact : Type 0 where
  pub of_add : (x y : Float) (k l : ℤ) (i : ℕ) → i ≤ 1074 → unsigned_abs (k +ℤ l) < 2 ^ 53 → Val x k i → Val y l i → Val (add binary64 x y) (k +ℤ l) i
  pub of_sub : (x y : Float) (k l : ℤ) (i : ℕ) → i ≤ 1074 → unsigned_abs (k -ℤ l) < 2 ^ 53 → Val x k i → Val y l i → Val (sub binary64 x y) (k -ℤ l) i
  pub of_mul : (x y : Float) (k l : ℤ) (i j : ℕ) → i + j ≤ 1074 → unsigned_abs (k *ℤ l) < 2 ^ 53 → Val x k i → Val y l j → Val (mul binary64 x y) (k *ℤ l) (i + j)
  pub of_neg : (x : Float) (k : ℤ) (i : ℕ) → Val x k i → Val (neg x) (neg_ℤ k) i
  pub of_lt : (x y : Float) (k l : ℤ) (i : ℕ) → Val x k i → Val y l i → lt x y ≡ int_lt k l
  pub of_le : (x y : Float) (k l : ℤ) (i : ℕ) → Val x k i → Val y l i → le x y ≡ int_le k l
  pub of_eq : (x y : Float) (k l : ℤ) (i : ℕ) → Val x k i → Val y l i → (T (eq x y) → k ≡ l) × (k ≡ l → T (eq x y))

-- Rounding keeps the order of finite floats of any size and sign, a result that overflows included.
pub record Ordered : Type 0 where
  pub of_add : (x y e : Float) → T (finite x) → T (finite y) → T (finite e) → T (le x y) → T (le (add binary64 x e) (add binary64 y e))
  pub of_sub : (x y e : Float) → T (finite x) → T (finite y) → T (finite e) → T (le x y) → T (le (sub binary64 x e) (sub binary64 y e))
  pub of_mul : (x y u v : Float) → T (finite x) → T (finite y) → T (finite u) → T (finite v) → T (le float_zero x) → T (le x y) → T (le float_zero u) → T (le u v) → T (le (mul binary64 x u) (mul binary64 y v))

-- No operation and no comparison sees the sign of a zero.
pub record ZerosAgree : Type 0 where
  pub of_add : (x x' y y' : Float) → Alike x x' → Alike y y' → Alike (add binary64 x y) (add binary64 x' y')
  pub of_sub : (x x' y y' : Float) → Alike x x' → Alike y y' → Alike (sub binary64 x y) (sub binary64 x' y')
  pub of_mul : (x x' y y' : Float) → Alike x x' → Alike y y' → Alike (mul binary64 x y) (mul binary64 x' y')
  pub of_neg : (x x' : Float) → Alike x x' → Alike (neg x) (neg x')
  pub of_abs : (x x' : Float) → Alike x x' → Alike (float_with_sign false x) (float_with_sign false x')
  pub of_min : (x x' y y' : Float) → Alike x x' → Alike y y' → Alike (float_min x y) (float_min x' y')
  pub of_max : (x x' y y' : Float) → Alike x x' → Alike y y' → Alike (float_max x y) (float_max x' y')
  pub of_lt : (x x' y y' : Float) → Alike x x' → Alike y y' → lt x y ≡ lt x' y'
  pub of_le : (x x' y y' : Float) → Alike x x' → Alike y y' → le x y ≡ le x' y'
  pub of_eq : (x x' y y' : Float) → Alike x x' → Alike y y' → eq x y ≡ eq x' y'
