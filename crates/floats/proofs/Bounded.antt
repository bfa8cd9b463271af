-- The operations of `f64` on numbers over a power of two, with a bound on the numerator's size that is a numeral: each side condition is `tt`. Assumes nothing.
use Rattle.std.proofs.Common.{◌≡◌, ℕ, ◌+◌, ◌*◌, ◌^◌, Bool, true, false, cond, ◌||◌, T, ltb, leb, ℤ, pos, ◌+ℤ◌, ◌-ℤ◌, ◌*ℤ◌, neg_ℤ, nat_abs, sym, refl, ◌∙◌, subst, lt_of_le_of_lt, arith, ltb→lt, leb→le, pow_pos}
use lib.Signed.{lt_z, le_z}
use lib.Ieee.{Float, nan, inf, fin, binary64, add, sub, mul, neg, lt, le, eq, is_nan}
use Rattle.std.specs.Float.{float_with_sign, float_min, float_max}
use Rattle.std.specs.Int.{int_min, int_max}
use Rattle.std.proofs.lemmas.Int.{ints, by_lt_z}
use Rattle.floats.specs.Value.{Is, In}
use Rattle.floats.proofs.Exactly.{val_add, val_sub, val_mul, val_neg}
use Rattle.floats.proofs.Bounds.{abs_add, abs_sub, abs_mul, abs_neg_le}
use Rattle.floats.proofs.Compared.{is_lt, is_le, is_eq_test, eqZ}
use Rattle.floats.proofs.Sizes.{abs_is}

pub in_add : {x y : Float} {k l : ℤ} {i m n : ℕ} → T (leb i 1074) → T (ltb (m + n) (2 ^ 53)) → In x k i m → In y l i n → In (add binary64 x y) (k +ℤ l) i (m + n)
in_add {x} {y} {k} {l} {i} {m} {n} I B v w =
    let s = abs_add k l m n v.size w.size in
    record { val = val_add binary64 x y k l i (leb→le i 1074 I) (lt_of_le_of_lt s (ltb→lt (m + n) (2 ^ 53) B)) v.val w.val; size = s }

pub in_sub : {x y : Float} {k l : ℤ} {i m n : ℕ} → T (leb i 1074) → T (ltb (m + n) (2 ^ 53)) → In x k i m → In y l i n → In (sub binary64 x y) (k -ℤ l) i (m + n)
in_sub {x} {y} {k} {l} {i} {m} {n} I B v w =
    let s = abs_sub k l m n v.size w.size in
    record { val = val_sub binary64 x y k l i (leb→le i 1074 I) (lt_of_le_of_lt s (ltb→lt (m + n) (2 ^ 53) B)) v.val w.val; size = s }

pub in_mul : {x y : Float} {k l : ℤ} {i j m n : ℕ} → T (leb (i + j) 1074) → T (ltb (m * n) (2 ^ 53)) → In x k i m → In y l j n → In (mul binary64 x y) (k *ℤ l) (i + j) (m * n)
in_mul {x} {y} {k} {l} {i} {j} {m} {n} I B v w =
    let s = abs_mul k l m n v.size w.size in
    record { val = val_mul binary64 x y k l i j (leb→le (i + j) 1074 I) (lt_of_le_of_lt s (ltb→lt (m * n) (2 ^ 53) B)) v.val w.val; size = s }

pub in_neg : {x : Float} {k : ℤ} {i n : ℕ} → In x k i n → In (neg x) (neg_ℤ k) i n
in_neg {x} {k} {i} {n} v = record { val = val_neg x k i v.val; size = abs_neg_le k n v.size }

pub in_lt : {x y : Float} {k l : ℤ} {i m n : ℕ} → In x k i m → In y l i n → lt x y ≡ lt_z k l
in_lt {x} {y} {k} {l} {i} v w = is_lt x y k l (2 ^ i) (pow_pos i) v.val w.val

pub in_le : {x y : Float} {k l : ℤ} {i m n : ℕ} → In x k i m → In y l i n → le x y ≡ le_z k l
in_le {x} {y} {k} {l} {i} v w = is_le x y k l (2 ^ i) (pow_pos i) v.val w.val

pub in_eq : {x y : Float} {k l : ℤ} {i m n : ℕ} → In x k i m → In y l i n → eq x y ≡ eqZ k l
in_eq {x} {y} {k} {l} {i} v w = is_eq_test x y k l (2 ^ i) (pow_pos i) v.val w.val

pub in_abs : {x : Float} {k : ℤ} {i n : ℕ} → In x k i n → In (float_with_sign false x) (pos (nat_abs k)) i n
in_abs {x} {k} {i} v = record { val = abs_is x k (2 ^ i) v.val; size = v.size }

-- ---- the lesser and the greater
pub is_number : (x : Float) (k : ℤ) (c : ℕ) → Is x k c → is_nan x ≡ false
unfolding is_nan
is_number nan k c v = absurd v.2
is_number (inf s) k c v = absurd v.2
is_number (fin s m e) k c v = refl

in_chosen : (t : Bool) (x y : Float) (k l : ℤ) (i n : ℕ) → In x k i n → In y l i n → In (cond t x y) (cond t k l) i n
in_chosen true x y k l i n v w = v
in_chosen false x y k l i n v w = w

min_test : (k l : ℤ) → cond (le_z k l) k l ≡ int_min k l
min_test k l = by_lt_z l k
    (λ h. let p : le_z k l ≡ false = grind (arith, ints) in let q : lt_z l k ≡ true = grind (arith, ints) in (λ j. cond (p j) k l) ∙ sym (λ j. cond (q j) l k))
    (λ h. let p : le_z k l ≡ true = grind (arith, ints) in let q : lt_z l k ≡ false = grind (arith, ints) in (λ j. cond (p j) k l) ∙ sym (λ j. cond (q j) l k))

max_test : (k l : ℤ) → cond (le_z l k) k l ≡ int_max k l
max_test k l = by_lt_z l k
    (λ h. let p : le_z l k ≡ true = grind (arith, ints) in let q : lt_z l k ≡ true = grind (arith, ints) in (λ j. cond (p j) k l) ∙ sym (λ j. cond (q j) k l))
    (λ h. by_lt_z k l
    (λ g. let p : le_z l k ≡ false = grind (arith, ints) in let q : lt_z l k ≡ false = grind (arith, ints) in (λ j. cond (p j) k l) ∙ sym (λ j. cond (q j) k l))
    (λ g. let e : k ≡ l = omega (arith, ints) in let p : le_z l k ≡ true = grind (arith, ints) in let q : lt_z l k ≡ false = grind (arith, ints) in (λ j. cond (p j) k l) ∙ e ∙ sym (λ j. cond (q j) k l)))

or_false : (t u : Bool) → u ≡ false → (t || u) ≡ t
or_false true u e = refl
or_false false u e = e

pub in_min : {x y : Float} {k l : ℤ} {i n : ℕ} → In x k i n → In y l i n → In (float_min x y) (int_min k l) i n
in_min {x} {y} {k} {l} {i} {n} v w =
    subst (λ (t : Bool). In (cond t x y) (int_min k l) i n)
    (sym (or_false (le x y) (is_nan y) (is_number y l (2 ^ i) w.val) ∙ in_le v w))
    (subst (λ (z : ℤ). In (cond (le_z k l) x y) z i n) (min_test k l) (in_chosen (le_z k l) x y k l i n v w))

pub in_max : {x y : Float} {k l : ℤ} {i n : ℕ} → In x k i n → In y l i n → In (float_max x y) (int_max k l) i n
in_max {x} {y} {k} {l} {i} {n} v w =
    subst (λ (t : Bool). In (cond t x y) (int_max k l) i n)
    (sym (or_false (le y x) (is_nan y) (is_number y l (2 ^ i) w.val) ∙ in_le w v))
    (subst (λ (z : ℤ). In (cond (le_z l k) x y) z i n) (max_test k l) (in_chosen (le_z l k) x y k l i n v w))
