-- Sine, cosine, tangent and the angle of a vector: by which steps they are computed. Assumes nothing.
use Rattle.std.specs.Prelude.{ℕ, Bool, false, cond, ◌||◌, List, [], ◌∷◌, fold, pos, ◌==◌, from_bits, is_nan, unsigned_abs, Float}
use Rattle.std.specs.Float.Ieee.{of_int, add, sub, mul, div, neg, lt, le, eq, to_signed}
use Rattle.std.specs.Float.{float_with_sign, is_sign_negative, float_is_infinite, round_ties_even, binary64}
use Rattle.std.specs.Int.{int_rem_euclid}

-- ---- constants, as bits: `Constants` says which decimals they are nearest to
abbrev pub one : Float
one = from_bits binary64 0x3ff0_0000_0000_0000

abbrev pub three : Float
three = from_bits binary64 0x4008_0000_0000_0000

-- π, π / 2, π / 4 and 2 / π
abbrev pub pi : Float
pi = from_bits binary64 0x4009_21fb_5444_2d18

abbrev pub half_pi : Float
half_pi = from_bits binary64 0x3ff9_21fb_5444_2d18

abbrev pub quarter_pi : Float
quarter_pi = from_bits binary64 0x3fe9_21fb_5444_2d18

abbrev pub two_over_pi : Float
two_over_pi = from_bits binary64 0x3fe4_5f30_6dc9_c883

-- what π / 2 is more than the float nearest to it
abbrev pub half_pi_rest : Float
half_pi_rest = from_bits binary64 0x3c91_a626_3314_5c07

-- 2 ^ 20: larger angles are not taken
abbrev pub largest_angle : Float
largest_angle = from_bits binary64 0x4130_0000_0000_0000

abbrev pub not_a_number : Float
not_a_number = from_bits binary64 0x7ff8_0000_0000_0000

-- ---- the turn to the first quarter
-- how many quarter turns th is nearest to, halves to even: a whole number, whose 0 has no sign
abbrev pub quarters : Float → Float
quarters th = add binary64 (round_ties_even binary64 (mul binary64 th two_over_pi)) (from_bits binary64 0)

-- what is left of th after k quarter turns
abbrev pub left_over : Float → Float → Float
left_over th k = sub binary64 (sub binary64 th (mul binary64 k half_pi)) (mul binary64 k half_pi_rest)

-- ---- the series
-- 1 - (q / d) × p
abbrev pub folded : Float → Float → ℕ → Float
folded q p d = sub binary64 one (mul binary64 (div binary64 q (of_int binary64 (pos d))) p)

-- that step for each divisor in turn, from p on
abbrev pub series : Float → Float → List ℕ → Float
series q p ds = fold (folded q) p ds

-- the sine and the cosine of r, whose square is q
abbrev pub near_sine : Float → Float
near_sine r = mul binary64 r (series (mul binary64 r r) one (210 ∷ 156 ∷ 110 ∷ 72 ∷ 42 ∷ 20 ∷ 6 ∷ []))

abbrev pub near_cosine : Float → Float
near_cosine r = series (mul binary64 r r) one (240 ∷ 182 ∷ 132 ∷ 90 ∷ 56 ∷ 30 ∷ 12 ∷ 2 ∷ [])

-- ---- sine and cosine
-- (s, c) turned by n quarters
abbrev pub turned : ℕ → Float → Float → Float × Float
turned n s c = cond (n == 0) (s, c) (cond (n == 1) (c, neg s) (cond (n == 2) (neg s, neg c) (neg c, s)))

-- k as a whole number, of which the rest by 4 counts
abbrev pub quarter : Float → ℕ
quarter k = unsigned_abs (int_rem_euclid (to_signed 63 k) (pos 4))

-- the sine and the cosine of th
unfoldable pub sin_cos : Float → Float × Float
sin_cos th =
    cond (le (float_with_sign false th) largest_angle)
    (turned (quarter (quarters th)) (near_sine (left_over th (quarters th))) (near_cosine (left_over th (quarters th))))
    (not_a_number, not_a_number)

abbrev pub tangent : Float → Float
tangent th = div binary64 (sin_cos th).0 (sin_cos th).1

-- ---- the angle of the vector (x, y)
-- the smaller size over the larger: 1 if both are infinite, 0 if both are zero
abbrev pub slope : Float → Float → Float
slope small large = cond (float_is_infinite small) one (cond (eq large (from_bits binary64 0)) (from_bits binary64 0) (div binary64 small large))

-- a, moved nearer to the angle whose tangent is t
abbrev pub correction : Float → Float
correction d = sub binary64 d (div binary64 (mul binary64 (mul binary64 d d) d) three)

abbrev pub distance : Float → Float → Float → Float
distance t s c = div binary64 (sub binary64 (mul binary64 t c) s) (add binary64 c (mul binary64 t s))

unfoldable pub nearer : Float → Float → Float
nearer t a = add binary64 a (correction (distance t (sin_cos a).0 (sin_cos a).1))

-- the angle, up to a quarter of π, whose tangent is t
unfoldable pub small_angle : Float → Float
small_angle t = nearer t (nearer t (mul binary64 t quarter_pi))

-- the angle in the first quarter, and in the first half, of a vector
abbrev pub first_quarter : Float → Float → Float
first_quarter ax ay = cond (lt ax ay) (sub binary64 half_pi (small_angle (slope ax ay))) (small_angle (slope ay ax))

abbrev pub first_half : Bool → Float → Float
first_half t a = cond t (sub binary64 pi a) a

abbrev pub angle : Float → Float → Float
angle y x =
    cond (is_nan x || is_nan y) not_a_number
    (float_with_sign (is_sign_negative y) (first_half (is_sign_negative x) (first_quarter (float_with_sign false x) (float_with_sign false y))))
