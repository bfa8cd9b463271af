-- What the elementary functions mean beyond the steps by which they are computed. Assumes nothing.
use Rattle.std.specs.Prelude.{◌≡◌, ℕ, ◌*◌, ◌^◌, ◌<◌, ◌≤◌, false, T, ℤ, pos, ◌-ℤ◌, ◌*ℤ◌, from_bits, unsigned_abs, Float}
use Rattle.std.specs.Float.Ieee.{round, mul, neg, lt, le, to_signed}
use Rattle.std.specs.Float.Ieee.Scale.{finite}
use Rattle.std.specs.Float.{float_with_sign, nan, binary64}
use Rattle.floats.specs.Value.{Is}
use Rattle.elementary.specs.SixthRoots.{LeastSixth}
use Rattle.elementary.specs.Angles.{one, pi, half_pi, quarter_pi, two_over_pi, half_pi_rest, not_a_number, largest_angle, quarters, sin_cos, angle}

-- n / 10 ^ k, rounded once
abbrev pub decimal : ℕ → ℕ → Float
decimal n k = round binary64 false n (10 ^ k)

-- The constants are the floats nearest to these decimals.
pub record Constants : Type 0 where
  pub of_pi : pi ≡ decimal 314159265358979323846264338327950288 35
  pub of_half_pi : half_pi ≡ decimal 157079632679489661923132169163975144 35
  pub of_quarter_pi : quarter_pi ≡ decimal 785398163397448309615660845819875721 36
  pub of_two_over_pi : two_over_pi ≡ decimal 636619772367581343075535053490057448 36
  pub of_half_pi_rest : half_pi_rest ≡ decimal 6123233995736766 32
  pub of_not_a_number : not_a_number ≡ nan

abbrev pub zero : Float
zero = from_bits binary64 0

-- |th| is at most 2 ^ 20
abbrev pub Taken : Float → Type 0
Taken th = T (le (float_with_sign false th) largest_angle)

-- The number of quarter turns of an angle that is taken, n / c as computed, is a nearest whole number, and fits its type.
pub record NearestWhole (th : Float) (n : ℤ) (c : ℕ) : Type 0 where
  pub k : ℤ
  pub value : Is (quarters th) k 1
  pub fits_type : to_signed 63 (quarters th) ≡ k
  pub near : 2 * unsigned_abs (n -ℤ k *ℤ pos c) ≤ c

pub record Angles : Type 0 where
  pub nearest : (th : Float) (n : ℤ) (c : ℕ) → 0 < c → Taken th → Is (mul binary64 th two_over_pi) n c → NearestWhole th n c
  pub finite_sine : (th : Float) → Taken th → T (finite (sin_cos th).0)
  pub finite_cosine : (th : Float) → Taken th → T (finite (sin_cos th).1)
  pub at_zero : sin_cos zero ≡ (zero, one)
  -- the axes, from the right round to the left and down
  pub right : (x : Float) → T (lt zero x) → angle zero x ≡ zero
  pub above : (y : Float) → T (lt zero y) → angle y zero ≡ half_pi
  pub left : (x : Float) → T (lt x zero) → angle zero x ≡ pi
  pub below : (y : Float) → T (lt y zero) → angle y zero ≡ neg half_pi

-- The sixth root is one number, keeps the order, and of 4096 and 4097 it is 64 and 65 sixteenths. (That its sixth power is at least the number is part of its definition.)
pub record SixthRoots : Type 0 where
  pub keeps_order : (n c m d j k : ℕ) → n * d ≤ m * c → LeastSixth n c j → LeastSixth m d k → 0 < c → 0 < d → j ≤ k
  pub unique : (n c j k : ℕ) → 0 < c → LeastSixth n c j → LeastSixth n c k → j ≡ k
  pub of_4096 : LeastSixth 4096 1 64
  pub of_4097 : LeastSixth 4097 1 65
