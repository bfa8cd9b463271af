-- Floats and points by whole numbers and fractions. Assumes nothing.
use Rattle.std.specs.Prelude.{ℕ, pos, ◌-ℤ◌, Float}
use Rattle.std.specs.Float.{binary64}
use Rattle.std.specs.Float.Ieee.{of_int, div}
use Rattle.plane.specs.declared.point.Point.{Point}
use Rattle.plane.specs.Vectors.{point}

-- the float of n, and of -n
abbrev pub number : ℕ → Float
number n = of_int binary64 (pos n)

abbrev pub minus : ℕ → Float
minus n = of_int binary64 (pos 0 -ℤ pos n)

-- the float of k / n, and of -k / n
abbrev pub fraction : ℕ → ℕ → Float
fraction k n = div binary64 (number k) (number n)

abbrev pub minus_fraction : ℕ → ℕ → Float
minus_fraction k n = div binary64 (minus k) (number n)

abbrev pub at : ℕ → ℕ → Point
at x y = point (number x) (number y)
