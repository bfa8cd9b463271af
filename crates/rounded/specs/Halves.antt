-- Half of a float: a division by 2 is a product with 1/2. It is exact on numbers over a power of two, and keeps what is at least 0. Assumes nothing.
use Rattle.std.specs.Prelude.{◌≡◌, ℕ, ◌+◌, ◌*◌, ◌^◌, true, false, not, T, ℤ, pos, ◌*ℤ◌, nat_le, nat_lt, refl, Float}
use Rattle.std.proofs.Common.{sym, subst, arith, lit≤}
use Rattle.std.specs.Float.Ieee.{unlike, up, down, of_bits, round, mul, div, lt, le, eq, is_nan}
use Rattle.std.specs.Float.Ieee.Scale.{finite}
use Rattle.std.specs.Float.{float_zero as zeroF, nan, inf, fin, binary64}
use Rattle.std.proofs.lemmas.Int.{ints}
use Rattle.floats.specs.Value.{Val, In}
use Rattle.floats.proofs.Bounded.{in_mul}
use Rattle.floats.proofs.Compared.{val_finer}
use Rattle.floats.proofs.Sums.{mul_mono}
use Rattle.rounded.specs.Roundings.{zero, half, two}
use Rattle.rounded.specs.Shrunk.{twice}

pub zero_is : zero ≡ zeroF
unfolding of_bits
zero_is = refl

pub halved : (x : Float) → div binary64 x two ≡ mul binary64 x half
unfolding of_bits div mul
halved nan = refl
halved (inf s) = refl
halved (fin s m e) = λ i. round binary64 (unlike s false) (above i) (below i)
  where
    above : m * up e * 1 ≡ m * up e * (1 * 1)
    above = refl

    below : 2 * down e ≡ down e * 2
    below = omega arith

-- ---- exact on numbers over a power of two
pub zero_in : (n : ℕ) → In zero (pos 0) 9 n
unfolding of_bits
zero_in n = record { val = (false, 0, (refl, refl), refl); size = omega arith }

pub half_in : In half (pos 1) 1 1
unfolding of_bits
half_in = record { val = (false, 1, (refl, refl), refl); size = lit≤ tt }

pub in_half : {x : Float} {k : ℤ} {i n : ℕ} → T (nat_le (i + 1) 1074) → T (nat_lt (n * 1) (2 ^ 53)) → In x k i n → In (div binary64 x two) k (i + 1) n
in_half {x} {k} {i} {n} I N v = record {
  val = subst (λ (z : Float). Val z k (i + 1)) (sym (halved x)) (subst (λ (z : ℤ). Val (mul binary64 x half) z (i + 1)) (times_one k) (in_mul I N v half_in).val);
  size = v.size;
}
  where
    times_one : (z : ℤ) → z *ℤ pos 1 ≡ z
    times_one z = omega (arith, ints)

-- a grid number in units of 1/512
pub in_fine : {x : Float} {k : ℤ} → In x k 8 8388608 → In x (twice k) 9 16777216
in_fine {x} {k} v = record {
  val = subst (λ (z : ℤ). Val x z 9) (times_two k) (val_finer x k 8 1 v.val);
  size = omega (arith, ints);
}
  where
    times_two : (z : ℤ) → z *ℤ pos 2 ≡ twice z
    times_two z = omega (arith, ints)

-- ---- for all floats
nothing_halved : mul binary64 zeroF half ≡ zeroF
unfolding of_bits mul round
nothing_halved = refl

half_above_zero : T (finite half) × T (le zeroF half) × T (le half half) × T (le zeroF zeroF)
unfolding of_bits le lt eq
half_above_zero = (tt, tt, tt, tt)

pub half_above : (x : Float) → T (le zeroF x) → T (le zeroF (div binary64 x two))
half_above nan h = absurd (unfold le in h)
half_above (inf true) h = absurd (unfold le in h)
half_above (inf false) h = unfold of_bits div le in tt
half_above (fin s m e) h =
    let H = half_above_zero in
    subst (λ (z : Float). T (le zeroF z)) (sym (halved (fin s m e)))
    (subst (λ (z : Float). T (le z (mul binary64 (fin s m e) half))) nothing_halved (mul_mono binary64 zeroF (fin s m e) half half tt tt H.0 H.0 H.3 h H.1 H.2))

pub half_of_number : (x : Float) → T (not (is_nan (div binary64 x two))) → T (not (is_nan x))
half_of_number nan h = absurd (unfold div is_nan in h)
half_of_number (inf s) h = unfold is_nan in tt
half_of_number (fin s m e) h = unfold is_nan in tt
