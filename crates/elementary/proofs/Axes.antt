-- The angle of a vector along an axis is the constant. Assumes nothing.
use Rattle.std.proofs.Common.{◌≡◌, ℕ, zero, suc, ◌*◌, ◌<◌, Bool, true, false, cond, ◌||◌, T, ℤ, pos, nat_abs, sym, refl, ap, ◌∙◌, subst, mul-pos, zero-mul, arith, ltb→lt, lt→ltb, le-ltb, ne_eqb}
use lib.Signed.{lt_z}
use lib.Ieee.{Float, nan, inf, fin, binary64, up, down, of_bits, of_int, round, add, sub, mul, div, neg, lt, le, eq, is_nan, to_signed}
use lib.Ieee.Bits.{is_true}
use lib.Ieee.Fits.{down_pos, up_pos}
use Rattle.std.specs.Float.{float_with_sign, is_sign_negative, float_is_infinite, round_with}
use Rattle.std.proofs.num.Values.{round-zero}
use Rattle.floats.specs.Value.{signed}
use Rattle.floats.proofs.Compared.{is_lt, is_ne}
use Rattle.elementary.specs.Angles.{one, not_a_number, pi, half_pi, sin_cos, slope, nearer, small_angle, first_quarter, first_half, angle}
use Rattle.elementary.specs.Laws.{zero as nought}

abbrev Z : Float
Z = fin false 0 (pos 0)

-- ---- at 0, by computation
pub at_nought : sin_cos nought ≡ (nought, one)
unfolding sin_cos float_with_sign le lt eq mul round_with to_signed sub add div neg of_bits of_int round
at_nought = refl

small_nought : small_angle Z ≡ Z
unfolding small_angle nearer sin_cos float_with_sign le lt eq mul round_with to_signed sub add div neg of_bits of_int round
small_nought = refl

nought_is : nought ≡ Z
unfolding of_bits
nought_is = refl

quarter_turn : sub binary64 half_pi Z ≡ half_pi
unfolding sub add neg of_bits round
quarter_turn = refl

-- ---- a number above 0
above_parts : (n : ℕ) (e : ℤ) → T (lt Z (fin false n e)) → 0 < n * up e
above_parts n e h = ltb→lt 0 (n * up e) (subst T (is_lt Z (fin false n e) (pos 0) (pos (n * up e)) (down e) (down_pos e) (false, 0, (refl, omega arith), refl) (false, n * up e, (refl, refl), refl)) h)

nought_over : (n : ℕ) (e : ℤ) → div binary64 Z (fin false (suc n) e) ≡ Z
unfolding div
nought_over n e =
    ap (λ (b : Bool). cond b nan (round binary64 false (0 * 1 * down e) (suc n * up e * 1))) (ne_eqb (suc n) 0 (λ z. omega arith))
    ∙ ap (λ (z : ℕ). round binary64 false z (suc n * up e * 1)) (zero-mul (down e))
    ∙ round-zero binary64 false (suc n * up e * 1) (mul-pos (mul-pos {m = suc n} (omega arith) (up_pos e)) (omega arith))

no_slope : (y : Float) → T (lt Z y) → slope Z y ≡ Z
unfolding float_is_infinite
no_slope nan h = absurd (unfold lt in h)
no_slope (inf true) h = absurd (unfold lt in h)
no_slope (inf false) h = unfold eq div of_bits in refl
no_slope (fin true n e) h = absurd (unfold lt in h)
no_slope (fin false zero e) h = absurd (omega (arith, above_parts 0 e h))
no_slope (fin false (suc n) e) h =
    let p = above_parts (suc n) e h in
    let differs : eq (fin false (suc n) e) nought ≡ false =
    ap (eq (fin false (suc n) e)) nought_is ∙ is_ne (fin false (suc n) e) Z (pos (suc n * up e)) (pos 0) (down e) (down_pos e) (false, suc n * up e, (refl, refl), refl) (false, 0, (refl, omega arith), refl)
    (λ q. let z : suc n * up e ≡ 0 = ap nat_abs q in omega arith) in
    ap (λ (b : Bool). cond b nought (div binary64 Z (fin false (suc n) e))) differs ∙ nought_over n e

not_below : (y : Float) → T (lt Z y) → lt y Z ≡ false
not_below nan h = absurd (unfold lt in h)
not_below (inf true) h = absurd (unfold lt in h)
not_below (inf false) h = unfold lt in refl
not_below (fin true n e) h = absurd (unfold lt in h)
not_below (fin false n e) h =
    is_lt (fin false n e) Z (pos (n * up e)) (pos 0) (down e) (down_pos e) (false, n * up e, (refl, refl), refl) (false, 0, (refl, omega arith), refl) ∙ le-ltb (n * up e) 0 (omega arith)

-- ---- the first quarter
up_there : (y : Float) → T (lt Z y) → first_quarter Z y ≡ half_pi
up_there y h =
    ap (λ (b : Bool). cond b (sub binary64 half_pi (small_angle (slope Z y))) (small_angle (slope y Z))) (is_true (lt Z y) h)
    ∙ ap (λ (z : Float). sub binary64 half_pi z) (ap small_angle (no_slope y h) ∙ small_nought)
    ∙ quarter_turn

level : (x : Float) → T (lt Z x) → first_quarter x Z ≡ Z
level x h =
    ap (λ (b : Bool). cond b (sub binary64 half_pi (small_angle (slope x Z))) (small_angle (slope Z x))) (not_below x h)
    ∙ ap small_angle (no_slope x h)
    ∙ small_nought

-- ---- numbers above and below 0
pub record Side (s : Bool) (y : Float) : Type 0 where
  pub sign : is_sign_negative y ≡ s
  pub number : is_nan y ≡ false
  pub size : T (lt Z (float_with_sign false y))

above_side : (y : Float) → T (lt Z y) → Side false y
unfolding is_sign_negative is_nan float_with_sign
above_side nan h = absurd (unfold lt in h)
above_side (inf true) h = absurd (unfold lt in h)
above_side (inf false) h = record { sign = refl; number = refl; size = h }
above_side (fin true n e) h = absurd (unfold lt in h)
above_side (fin false n e) h = record { sign = refl; number = refl; size = h }

size_above : (x : ℕ) → T (lt_z (signed true x) (pos 0)) → 0 < x
size_above zero t = absurd t
size_above (suc x) t = omega arith

turned_up : (n : ℕ) (e : ℤ) → T (lt (fin true n e) Z) → T (lt Z (fin false n e))
turned_up n e h =
    let p = size_above (n * up e) (subst T (is_lt (fin true n e) Z (signed true (n * up e)) (pos 0) (down e) (down_pos e) (true, n * up e, (refl, refl), refl) (false, 0, (refl, omega arith), refl)) h) in
    subst T (sym (is_lt Z (fin false n e) (pos 0) (pos (n * up e)) (down e) (down_pos e) (false, 0, (refl, omega arith), refl) (false, n * up e, (refl, refl), refl))) (lt→ltb 0 (n * up e) p)

below_side : (y : Float) → T (lt y Z) → Side true y
unfolding is_sign_negative is_nan float_with_sign
below_side nan h = absurd (unfold lt in h)
below_side (inf true) h = record { sign = refl; number = refl; size = unfold lt in tt }
below_side (inf false) h = absurd (unfold lt in h)
below_side (fin true n e) h = record { sign = refl; number = refl; size = turned_up n e h }
below_side (fin false n e) h =
    absurd (omega (arith, ltb→lt (n * up e) 0 (subst T (is_lt (fin false n e) Z (pos (n * up e)) (pos 0) (down e) (down_pos e) (false, n * up e, (refl, refl), refl) (false, 0, (refl, omega arith), refl)) h)))

-- ---- the axes
angle_y : (y : Float) (s : Bool) → Side s y → angle y Z ≡ float_with_sign s half_pi
unfolding float_with_sign is_sign_negative is_nan
angle_y y s d =
    (λ i. cond (d.number i) not_a_number (float_with_sign (d.sign i) (first_quarter Z (float_with_sign false y)))) ∙ ap (float_with_sign s) (up_there (float_with_sign false y) d.size)

angle_x : (x : Float) (s : Bool) → Side s x → angle Z x ≡ float_with_sign false (first_half s Z)
unfolding float_with_sign is_sign_negative is_nan
angle_x x s d =
    (λ i. cond (or_false (d.number i)) not_a_number (float_with_sign false (first_half (d.sign i) (first_quarter (float_with_sign false x) Z)))) ∙ ap (λ (z : Float). float_with_sign false (first_half s z)) (level (float_with_sign false x) d.size)
  where
    or_false : Bool → Bool
    or_false b = b || false

-- ---- with the zero that the code writes
half_pi_below : float_with_sign true half_pi ≡ neg half_pi
unfolding float_with_sign neg of_bits
half_pi_below = refl

half_pi_above : float_with_sign false half_pi ≡ half_pi
unfolding float_with_sign of_bits
half_pi_above = refl

pi_above : float_with_sign false (sub binary64 pi Z) ≡ pi
unfolding float_with_sign sub add neg of_bits round
pi_above = refl

from_nought : (x : Float) → T (lt nought x) → T (lt Z x)
from_nought x h = subst (λ (z : Float). T (lt z x)) nought_is h

to_nought : (x : Float) → T (lt x nought) → T (lt x Z)
to_nought x h = subst (λ (z : Float). T (lt x z)) nought_is h

pub right : (x : Float) → T (lt nought x) → angle nought x ≡ nought
unfolding float_with_sign
right x h = ap (λ (z : Float). angle z x) nought_is ∙ angle_x x false (above_side x (from_nought x h)) ∙ sym nought_is

pub above : (y : Float) → T (lt nought y) → angle y nought ≡ half_pi
above y h = ap (angle y) nought_is ∙ angle_y y false (above_side y (from_nought y h)) ∙ half_pi_above

pub left : (x : Float) → T (lt x nought) → angle nought x ≡ pi
left x h = ap (λ (z : Float). angle z x) nought_is ∙ angle_x x true (below_side x (to_nought x h)) ∙ pi_above

pub below : (y : Float) → T (lt y nought) → angle y nought ≡ neg half_pi
below y h = ap (angle y) nought_is ∙ angle_y y true (below_side y (to_nought y h)) ∙ half_pi_below
