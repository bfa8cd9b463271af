-- The laws of exactness and order, gathered from the lemmas. Assumes nothing.
use Rattle.std.proofs.Common.{◌≡◌, ℕ, ◌^◌, T, ℤ, ◌≤ℤ◌, sym, subst, arith, pow_pos}
use lib.Signed.{le_z}
use lib.Ieee.{Float, binary64, eq}
use lib.Ieee.Fits.{and_l, and_r}
use Rattle.std.proofs.lemmas.Int.{ints}
use Rattle.floats.specs.Value.{Val}
use Rattle.floats.specs.Laws.{Exact, Ordered}
use Rattle.floats.proofs.Exactly.{val_add, val_sub, val_mul, val_neg}
use Rattle.floats.proofs.Compared.{is_lt, is_le, is_eq, is_eq_test, eqZ}
use Rattle.floats.proofs.Sums.{add_mono, sub_mono, mul_mono}

pub one_numerator : (k l : ℤ) → T (eqZ k l) → k ≡ l
one_numerator k l t =
    let p : k ≤ℤ l = record { le = and_l (le_z k l) (le_z l k) t } in
    let q : l ≤ℤ k = record { le = and_r (le_z k l) (le_z l k) t } in
    omega (arith, ints)

val_eq : (x y : Float) (k l : ℤ) (i : ℕ) → Val x k i → Val y l i → (T (eq x y) → k ≡ l) × (k ≡ l → T (eq x y))
val_eq x y k l i v w = (
  λ t. one_numerator k l (subst T (is_eq_test x y k l (2 ^ i) (pow_pos i) v w) t),
  λ e. subst T (sym (is_eq x y k l (2 ^ i) (pow_pos i) v w e)) tt,
)

pub exact : Exact
exact = record {
  of_add = val_add binary64;
  of_sub = val_sub binary64;
  of_mul = val_mul binary64;
  of_neg = val_neg;
  of_lt = λ x y k l i v w. is_lt x y k l (2 ^ i) (pow_pos i) v w;
  of_le = λ x y k l i v w. is_le x y k l (2 ^ i) (pow_pos i) v w;
  of_eq = val_eq;
}

pub ordered : Ordered
ordered = record {
  of_add = add_mono binary64;
  of_sub = sub_mono binary64;
  of_mul = mul_mono binary64;
}
