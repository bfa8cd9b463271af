-- What the bits of a number above 0 are read as, by the exponent's field and the digits' field. Assumes nothing.
use Rattle.std.proofs.Common.{◌≡◌, ℕ, zero, suc, ◌+◌, ◌-◌, ◌*◌, ◌/◌, ◌%◌, ◌^◌, ◌<◌, ◌≤◌, Bool, true, false, cond, T, eqb, leb, sym, refl, ap, ◌∙◌, subst, inl, inr, le_trans, le_of_eq, lt_of_lt_of_le, lt_of_le_of_lt, mul-le-mul_right, mod-eq_of_lt, mul-lt-mul_of_pos_right, arith, le→leb, eqb→eq, pow_pos, pow-add}
use lib.Dec.{not_T}
use lib.Arith.{lt→nleb}
use lib.Count.{count_leading_zeros, leading_top}
use lib.Ieee.{Float, nan, inf, binary64, odd, lt, fits, of_fields, of_bits, to_bits}
use lib.Ieee.Exact.{HasValue, odd_sign}
use lib.Ieee.Bits.{is_true, is_false, cond_no, of_bits-to_bits}
use Rattle.std.specs.Float.{float_zero as zeroF, float_is_finite}
use Rattle.std.proofs.lemmas.Bool.{cases_lt}
use Rattle.floats.proofs.Monotone.{rescale}
use Rattle.elementary.proofs.UnitSizes.{pow_lt_back}

-- ---- the fields
read : (b : ℕ) → b < 2 ^ 63 → of_bits binary64 b ≡ of_fields binary64 false (b / 2 ^ 52) (b % 2 ^ 52)
unfolding of_bits
read b h =
    ap (λ (s : Bool). of_fields binary64 s (b % 2 ^ 63 / 2 ^ 52) (b % 2 ^ 52)) (is_false (leb (2 ^ 63) b) (lt→nleb (2 ^ 63) b h))
    ∙ ap (λ (z : ℕ). of_fields binary64 false (z / 2 ^ 52) (b % 2 ^ 52)) (mod-eq_of_lt h)

normal : (x t : ℕ) → suc x < 2047 → of_fields binary64 false (suc x) t ≡ odd 53 false (2 ^ 52 + t) x 1074
unfolding of_fields
normal x t h = cond_no (eqb (suc x) 2047) (cond (eqb t 0) (inf false) nan) (odd 53 false (2 ^ 52 + t) x 1074) (not_T (eqb (suc x) 2047) (λ e. apart (eqb→eq (suc x) 2047 e)))
  where
    apart : suc x ≡ 2047 → ⊥
    apart e = omega arith

-- a field x + 1, below the infinity's, and the digits t
pub normal_value : (b x t : ℕ) → b / 2 ^ 52 ≡ suc x → b % 2 ^ 52 ≡ t → suc x < 2047 → HasValue (of_bits binary64 b) false ((2 ^ 52 + t) * 2 ^ x) (2 ^ 1074)
normal_value b x t p q h =
    subst (λ (z : Float). HasValue z false ((2 ^ 52 + t) * 2 ^ x) (2 ^ 1074))
    (sym (read b (omega arith) ∙ ap (λ (z : ℕ). of_fields binary64 false z (b % 2 ^ 52)) p ∙ ap (of_fields binary64 false (suc x)) q ∙ normal x t h))
    (odd_sign 53 false (2 ^ 52 + t) x 1074)

subnormal : (t : ℕ) → of_fields binary64 false 0 t ≡ odd 53 false t 0 1074
unfolding of_fields
subnormal t = refl

-- a field of 0
pub subnormal_value : (b : ℕ) → b < 2 ^ 52 → HasValue (of_bits binary64 b) false (b * 2 ^ 0) (2 ^ 1074)
subnormal_value b h =
    subst (λ (z : Float). HasValue z false (b * 2 ^ 0) (2 ^ 1074))
    (sym (read b (omega arith) ∙ ap (λ (z : ℕ). of_fields binary64 false z (b % 2 ^ 52)) none ∙ ap (of_fields binary64 false 0) (mod-eq_of_lt h) ∙ subnormal b))
    (odd_sign 53 false b 0 1074)
  where
    none : b / 2 ^ 52 ≡ 0
    none = omega arith

-- ---- the bits of a number above 0: neither 0, nor with the infinity's field, nor with a sign
odd_negative : (q k : ℕ) → T (lt zeroF (odd 53 true q k 1074)) → ⊥
unfolding odd lt
odd_negative zero k t = t
odd_negative (suc q) k t = t

field_negative : (x t : ℕ) → T (lt zeroF (of_fields binary64 true x t)) → ⊥
unfolding of_fields
field_negative zero t p = odd_negative t 0 p
field_negative (suc x) t p = go (eqb (suc x) 2047) (eqb t 0) p
  where
    go : (a b : Bool) → T (lt zeroF (cond a (cond b (inf true) nan) (odd 53 true (2 ^ 52 + t) x 1074))) → ⊥
    go true true p = unfold lt in p
    go true false p = unfold lt in p
    go false b p = odd_negative (2 ^ 52 + t) x p

negative : (b : ℕ) → 2 ^ 63 ≤ b → T (lt zeroF (of_bits binary64 b)) → ⊥
unfolding of_bits
negative b h p =
    field_negative (b % 2 ^ 63 / 2 ^ 52) (b % 2 ^ 52)
    (subst (λ (s : Bool). T (lt zeroF (of_fields binary64 s (b % 2 ^ 63 / 2 ^ 52) (b % 2 ^ 52)))) (is_true (leb (2 ^ 63) b) (le→leb (2 ^ 63) b h)) p)

top_field : (t : ℕ) → T (float_is_finite (of_fields binary64 false 2047 t)) → ⊥
unfolding of_fields float_is_finite
top_field t = go (eqb t 0)
  where
    go : (a : Bool) → T (float_is_finite (cond a (inf false) nan)) → ⊥
    go true p = p
    go false p = p

infinite : (b : ℕ) → b < 2 ^ 63 → 0x7ff0_0000_0000_0000 ≤ b → T (float_is_finite (of_bits binary64 b)) → ⊥
infinite b h l t =
    let e : b / 2 ^ 52 ≡ 2047 = omega arith in
    top_field (b % 2 ^ 52) (subst (λ (z : Float). T (float_is_finite z)) (read b h ∙ ap (λ (z : ℕ). of_fields binary64 false z (b % 2 ^ 52)) e) t)

zero_bits : T (lt zeroF (of_bits binary64 0)) → ⊥
unfolding of_bits lt
zero_bits t = t

bits_between : (b : ℕ) → T (lt zeroF (of_bits binary64 b)) → T (float_is_finite (of_bits binary64 b)) → (0 < b) × (b < 0x7ff0_0000_0000_0000)
bits_between zero p t = absurd (zero_bits p)
bits_between (suc b) p t = (
  omega arith,
  elim (cases_lt (suc b) (2 ^ 63)) [
    | inr h ↦ absurd (negative (suc b) h p)
    | inl h ↦ elim (cases_lt (suc b) 0x7ff0_0000_0000_0000) [ inl l ↦ l | inr l ↦ absurd (infinite (suc b) h l t) ]
  ],
)

pub positive_bits : (x : Float) → T (fits binary64 x) → T (lt zeroF x) → T (float_is_finite x) → (0 < to_bits binary64 x) × (to_bits binary64 x < 0x7ff0_0000_0000_0000)
positive_bits x f p t =
    let e = sym (of_bits-to_bits binary64 x f) in
    bits_between (to_bits binary64 x) (subst (λ (z : Float). T (lt zeroF z)) e p) (subst (λ (z : Float). T (float_is_finite z)) e t)

-- ---- 53 digits, over 2 ^ 1126
lead_up : (x t L P : ℕ) → (L + t) * x * (P * L) ≡ (t + L) * (x * L) * P
lead_up x t L P = omega arith

pub normal_scaled : (b : ℕ) → b < 0x7ff0_0000_0000_0000 → (b / 2 ^ 52 ≡ 0 → ⊥) → HasValue (of_bits binary64 b) false ((b % 2 ^ 52 + 2 ^ 52) * 2 ^ (b / 2 ^ 52 + 51)) (2 ^ 1126)
normal_scaled b h n =
    let x = b / 2 ^ 52 - 1 in
    let t = b % 2 ^ 52 in
    let e : b / 2 ^ 52 ≡ suc x = omega arith in
    let k : b / 2 ^ 52 + 51 ≡ x + 52 = omega arith in
    rescale (of_bits binary64 b) false ((2 ^ 52 + t) * 2 ^ x) (2 ^ 1074) ((t + 2 ^ 52) * 2 ^ (b / 2 ^ 52 + 51)) (2 ^ 1126) (pow_pos 1074)
    (lead_up (2 ^ x) t (2 ^ 52) (2 ^ 1074) ∙ ap (λ (z : ℕ). (t + 2 ^ 52) * z * 2 ^ 1074) (sym (ap (λ (z : ℕ). 2 ^ z) k ∙ pow-add 2 x 52)))
    (normal_value b x t e refl (omega arith))

-- A subnormal number, shifted by its leading zeros but for h: the h places above, and the 53 of the digits, make 64.
module _ (b h : ℕ) (some : 0 < b) (small : b < 2 ^ 52) (places : h + 53 ≡ 64) where
  pub shift_fits : (h ≤ count_leading_zeros 64 b) × (count_leading_zeros 64 b - h ≤ 52) × (2 ^ 52 ≤ b * 2 ^ (count_leading_zeros 64 b - h)) × (b * 2 ^ (count_leading_zeros 64 b - h) < 2 ^ 53)
  shift_fits =
      let l = leading_top 64 b some (omega arith) in
      let j = l.0 in
      let s = count_leading_zeros 64 b - h in
      let J : j < 52 = pow_lt_back j 52 (lt_of_le_of_lt l.2 small) in
      let k : 52 ≡ j + s = omega (arith, l.1) in
      let k' : 53 ≡ suc j + s = omega arith in (
        omega (arith, l.1),
        omega arith,
        le_trans (le_of_eq (ap (λ (y : ℕ). 2 ^ y) k ∙ pow-add 2 j s)) (mul-le-mul_right (2 ^ s) l.2),
        lt_of_lt_of_le (mul-lt-mul_of_pos_right l.3 (pow_pos s)) (le_of_eq (sym (ap (λ (y : ℕ). 2 ^ y) k' ∙ pow-add 2 (suc j) s))),
      )

  kept : (b * 2 ^ (count_leading_zeros 64 b - h)) % 2 ^ 64 ≡ b * 2 ^ (count_leading_zeros 64 b - h)
  kept = let l = shift_fits.3 in mod-eq_of_lt (omega arith)

  pub shift_room : h ≤ count_leading_zeros 64 b
  shift_room = shift_fits.0

  pub shift_low : 2 ^ 52 ≤ (b * 2 ^ (count_leading_zeros 64 b - h)) % 2 ^ 64
  shift_low = subst (λ (y : ℕ). 2 ^ 52 ≤ y) (sym kept) shift_fits.2

  pub shift_high : (b * 2 ^ (count_leading_zeros 64 b - h)) % 2 ^ 64 < 2 ^ 53
  shift_high = subst (λ (y : ℕ). y < 2 ^ 53) (sym kept) shift_fits.3

  pub shift_value : HasValue (of_bits binary64 b) false ((b * 2 ^ (count_leading_zeros 64 b - h)) % 2 ^ 64 * 2 ^ (52 - (count_leading_zeros 64 b - h))) (2 ^ 1126)
  shift_value =
      let s = count_leading_zeros 64 b - h in
      let r : 52 ≡ s + (52 - s) = omega (arith, shift_fits.1) in
      rescale (of_bits binary64 b) false (b * 2 ^ 0) (2 ^ 1074) ((b * 2 ^ s) % 2 ^ 64 * 2 ^ (52 - s)) (2 ^ 1126) (pow_pos 1074)
      (sym (ap (λ (y : ℕ). y * 2 ^ (52 - s) * 2 ^ 1074) kept ∙ whole b (2 ^ s) (2 ^ (52 - s)) (2 ^ 1074) (2 ^ 52) (sym (ap (λ (y : ℕ). 2 ^ y) r ∙ pow-add 2 s (52 - s)))))
      (subnormal_value b small)
    where
      whole : (b S R P L : ℕ) → S * R ≡ L → b * S * R * P ≡ b * 1 * (P * L)
      whole b S R P L e = omega (arith, ap (λ (y : ℕ). b * y * P) e)
