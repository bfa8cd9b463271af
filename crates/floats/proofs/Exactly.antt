-- Sums, differences and products of floats whose values are fractions over a power of two are exact, as long as the numerator has few enough digits. Assumes nothing.
use Rattle.std.proofs.Common.{◌≡◌, ℕ, suc, ◌+◌, ◌-◌, ◌*◌, ◌^◌, ◌<◌, ◌≤◌, Bool, ℤ, ◌+ℤ◌, ◌-ℤ◌, ◌*ℤ◌, neg_ℤ, nat_abs, sym, ap, ◌∙◌, subst, lt_of_lt_of_le, mul_assoc, arith, pow_pos, pow_mono, pow-add, shl_lt}
use lib.Ieee.{Float, Format, prec, emax, low, round, add, sub, mul, neg}
use lib.Ieee.Fits.{reach}
use lib.Ieee.Exact.{HasValue, round_exact}
use Rattle.floats.specs.Value.{Rounds, Val}
use Rattle.floats.proofs.Rounded.{abs_signed, rounds_add, rounds_sub, rounds_mul, is_neg}

room : (f : Format) (i : ℕ) → prec f + (low f - i) ≤ low f + suc (emax f)
room f i = omega (arith, reach f)

rest : (l i : ℕ) → i ≤ l → l - i + i ≡ l
rest l i h = omega arith

round_grid : (f : Format) (s : Bool) (a i : ℕ) → a < 2 ^ prec f → i ≤ low f → HasValue (round f s a (2 ^ i)) s a (2 ^ i)
round_grid f s a i h k =
    let j = low f - i in
    round_exact f s a (2 ^ i) a j (pow_pos i) h
    (lt_of_lt_of_le (shl_lt (prec f) j h) (pow_mono (room f i)))
    (ap (λ (z : ℕ). a * 2 ^ z) (sym (rest (low f) i k)) ∙ ap (λ (z : ℕ). a * z) (pow-add 2 j i) ∙ sym (mul_assoc a (2 ^ j) (2 ^ i)))

-- the rounding changes nothing
pub exact : (f : Format) (x : Float) (k : ℤ) (i : ℕ) → i ≤ low f → nat_abs k < 2 ^ prec f → Rounds f x k (2 ^ i) → Val x k i
exact f x k i I B r =
    (r.0, r.1, subst (λ (z : Float). HasValue z r.0 r.1 (2 ^ i)) (sym r.2) (round_grid f r.0 r.1 i (subst (λ (n : ℕ). n < 2 ^ prec f) (ap nat_abs r.3 ∙ abs_signed r.0 r.1) B) I), r.3)

pub val_add : (f : Format) (x y : Float) (k l : ℤ) (i : ℕ) → i ≤ low f → nat_abs (k +ℤ l) < 2 ^ prec f → Val x k i → Val y l i → Val (add f x y) (k +ℤ l) i
val_add f x y k l i I B v w = exact f (add f x y) (k +ℤ l) i I B (rounds_add f x y k l (2 ^ i) (pow_pos i) v w)

pub val_sub : (f : Format) (x y : Float) (k l : ℤ) (i : ℕ) → i ≤ low f → nat_abs (k -ℤ l) < 2 ^ prec f → Val x k i → Val y l i → Val (sub f x y) (k -ℤ l) i
val_sub f x y k l i I B v w = exact f (sub f x y) (k -ℤ l) i I B (rounds_sub f x y k l (2 ^ i) (pow_pos i) v w)

pub val_mul : (f : Format) (x y : Float) (k l : ℤ) (i j : ℕ) → i + j ≤ low f → nat_abs (k *ℤ l) < 2 ^ prec f → Val x k i → Val y l j → Val (mul f x y) (k *ℤ l) (i + j)
val_mul f x y k l i j I B v w =
    exact f (mul f x y) (k *ℤ l) (i + j) I B (subst (λ (c : ℕ). Rounds f (mul f x y) (k *ℤ l) c) (sym (pow-add 2 i j)) (rounds_mul f x y k l (2 ^ i) (2 ^ j) (pow_pos i) (pow_pos j) v w))

pub val_neg : (x : Float) (k : ℤ) (i : ℕ) → Val x k i → Val (neg x) (neg_ℤ k) i
val_neg x k i v = is_neg x k (2 ^ i) v
