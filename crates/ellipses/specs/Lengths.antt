-- The length of an ellipse by its radii, within an accuracy and an allowance of steps, in the order of operations in which it is computed. Assumes nothing.
use Rattle.std.specs.Prelude.{◌≡◌, ℕ, zero, suc, ◌+◌, ◌<◌, min, Bool, true, false, cond, ◌&&◌, ◌||◌, Ok, Err, Result, from_bits, Float}
use Rattle.std.specs.Float.Ieee.{add, sub, mul, div, le, eq}
use Rattle.std.specs.Float.{float_is_finite, float_max, sqrt, binary64}
use Rattle.elementary.specs.Angles.{pi, not_a_number}
use Rattle.elementary.specs.Powers.{square, seventh}
use Rattle.plane.specs.declared.fault.ShapeFault.{ShapeFault}
use Rattle.plane.specs.declared.fault.ShapeFault.TheVariants.{Steps}
use Rattle.plane.specs.declared.vec2.Vec2.{Vec2}
use Rattle.plane.specs.Affines.{nought, half, one, two}
use Rattle.plane.specs.Vectors.{vec2}
use Rattle.ellipses.specs.declared.length.Means.{Means}

-- a length and the steps that it took, or why there is none
abbrev pub Length : Type 0
Length = Result (Float × ℕ) ShapeFault

-- ---- by a series, where the radii differ little
-- the square of (x - y) / (x + y)
abbrev pub unlikeness : Vec2 → Float
unlikeness r = square (div binary64 (sub binary64 r.x r.y) (add binary64 r.x r.y))

-- π × k / l
abbrev pub share : Float → Float → Float
share k l = div binary64 (mul binary64 pi k) l

-- s + h × t
abbrev pub plus : Float → Float → Float → Float
plus s h t = add binary64 s (mul binary64 h t)

abbrev pub four : Float
four = from_bits binary64 0x4010_0000_0000_0000

-- π (1 + h/4 + h²/64 + h³/256 + 25 h⁴/16384 + 49 h⁵/65536 + 441 h⁶/1048576), where p, q, r, s and t are the powers of h from the second on
abbrev pub powers : Float → Float → Float → Float → Float → Float → Float
powers h p q r s t =
    plus (plus (plus (plus (plus (plus pi
    h (div binary64 pi four))
    p (div binary64 pi (from_bits binary64 0x4050_0000_0000_0000)))
    q (div binary64 pi (from_bits binary64 0x4070_0000_0000_0000)))
    r (share (from_bits binary64 0x4039_0000_0000_0000) (from_bits binary64 0x40d0_0000_0000_0000)))
    s (share (from_bits binary64 0x4048_8000_0000_0000) (from_bits binary64 0x40f0_0000_0000_0000)))
    t (share (from_bits binary64 0x407b_9000_0000_0000) (from_bits binary64 0x4130_0000_0000_0000))

-- h to the power 2 + n, from the right
abbrev pub power : Float → ℕ → Float
power h zero = mul binary64 h h
power h (suc n) = mul binary64 (power h n) h

abbrev pub series : Float → Float
series h = powers h (power h 0) (power h 1) (power h 2) (power h 3) (power h 4)

-- the sum of the series: not above the length
abbrev pub series_length : Vec2 → Float
series_length r = mul binary64 (add binary64 r.x r.y) (series (unlikeness r))

-- 4/π less the sum of the series' factors: 0.00101416479131503
abbrev pub remainder : Float
remainder = from_bits binary64 0x3f50_9db7_2722_0a95

-- what the sum may be below the length
abbrev pub series_range : Vec2 → Float
series_range r = mul binary64 (mul binary64 (mul binary64 pi remainder) (seventh (unlikeness r))) (add binary64 r.x r.y)

-- ---- by the arithmetic-geometric mean
-- the term of the turn: it is taken from the sum
abbrev pub term : Means → Float
term s = mul binary64 s.weight (square s.c)

-- the turn is the last: what is still to come is within the tolerance t
abbrev pub last : Float → Means → Bool
last t s = le (term s) (mul binary64 t s.g)

-- one turn
abbrev pub next : Means → Means
next s = record {
  sum = sub binary64 s.sum (term s);
  a = div binary64 (add binary64 s.a s.g) two;
  g = sqrt binary64 (mul binary64 s.a s.g);
  c = div binary64 (sub binary64 s.a s.g) two;
  weight = mul binary64 s.weight two;
}

-- 2 π x
abbrev pub round_length : Float → Float
round_length x = mul binary64 (mul binary64 two pi) x

-- the length after the last turn, which takes its term from the sum twice
abbrev pub total : Float → Means → Float
total x s = mul binary64 (div binary64 (round_length x) s.a) (sub binary64 (sub binary64 s.sum (term s)) (term s))

-- with this many turns left, and this many made
unfoldable pub runs : ℕ → ℕ → Float → Float → Means → Length
runs zero made x t s = Err Steps
runs (suc left) made x t s = cond (last t s) (Ok (total x s, made + 1)) (runs left (made + 1) x t (next s))

-- after k turns
abbrev pub after : ℕ → Means → Means
after zero s = s
after (suc k) s = after k (next s)

-- What n turns give: the length after the first turn that is the last, and how many turns that were; or STEPS, if none of them is.
pub record FirstLast : Type 0 where
  pub ended : (n k : ℕ) (x t : Float) (s : Means) → k < n → last t (after k s) ≡ true → ((j : ℕ) → j < k → last t (after j s) ≡ false) → runs n 0 x t s ≡ Ok (total x (after k s), k + 1)
  pub spent : (n : ℕ) (x t : Float) (s : Means) → ((k : ℕ) → k < n → last t (after k s) ≡ false) → runs n 0 x t s ≡ Err Steps

-- before the first turn, where the radii are as 1 to g
abbrev pub first : Float → Means
first g = record { sum = one; a = one; g = g; c = sqrt binary64 (sub binary64 one (square g)); weight = half }

-- the greater radius first
abbrev pub ordered : Vec2 → Vec2
ordered r = cond (le r.y r.x) r (vec2 r.y r.x)

abbrev pub mean_length : Vec2 → Float → ℕ → Length
mean_length r accuracy allowance = runs allowance 0 r.x (div binary64 accuracy (round_length r.x)) (first (div binary64 r.y r.x))

-- ---- the length
-- Radii that are not finite have no length, and with a radius of 0 it is four times the other. Of the allowance 64 steps count.
abbrev pub length_of : Vec2 → Float → ℕ → Length
length_of r accuracy allowance =
    cond (float_is_finite r.x && float_is_finite r.y)
    (cond (eq r.x nought || eq r.y nought) (Ok (mul binary64 four (float_max r.x r.y), 0))
    (cond (le (series_range r) accuracy) (Ok (series_length r, 0)) (mean_length (ordered r) accuracy (min allowance 64))))
    (Ok (not_a_number, 0))
