-- The correctly rounded square root of an `f64`, said by squares of whole numbers alone. Assumes nothing.
use Rattle.std.specs.Prelude.{◌≡◌, ℕ, ◌+◌, ◌-◌, ◌*◌, ◌^◌, ◌<◌, ◌≤◌, false, T, from_bits, Float}
use Rattle.std.specs.Float.{binary64}
use Rattle.std.specs.Float.Ieee.{fits, le}
use Rattle.std.specs.Float.Ieee.Exact.{HasValue}

-- x is an `f64` from 0 up, of u units: the unit is 2 ^ -1074, of which every finite `f64` is a whole number
abbrev pub Units : Float → ℕ → Type 0
Units x u = T (fits binary64 x) × HasValue x false u (2 ^ 1074)

-- r is the `f64` nearest to the root of x, for an x above 0. In units x is v and r is w, so the root is that of v * 2 ^ 1074.
-- Whatever other `f64` z is, of u units, the root lies on r's side of (w + u) / 2, the middle between r and z.
-- It never lies on the middle: no tie arises.
pub record NearestRoot (x r : Float) : Type 0 where
  pub v : ℕ
  pub w : ℕ
  pub root_of : Units x v
  pub root_is : Units r w
  pub positive : 0 < w
  pub above : (z : Float) (u : ℕ) → Units z u → w < u → 4 * (v * 2 ^ 1074) < (w + u) * (w + u)
  pub below : (z : Float) (u : ℕ) → Units z u → u < w → (w + u) * (w + u) < 4 * (v * 2 ^ 1074)

-- No number has two such roots, where an `f64` is the root exactly it is such a root, and a larger number has no smaller one.
pub record RootLaws : Type 0 where
  pub unique : (x r t : Float) → NearestRoot x r → NearestRoot x t → r ≡ t
  pub exact : (x r : Float) (v w : ℕ) → Units x v → Units r w → 0 < w → w * w ≡ v * 2 ^ 1074 → NearestRoot x r
  pub ordered : (x y r t : Float) → NearestRoot x r → NearestRoot y t → T (le x y) → T (le r t)

abbrev bits : ℕ → Float
bits n = from_bits binary64 n

-- Roots by their bit patterns. Those of the largest number below 1 and of the largest number come nearest to a tie.
pub record RootSpecimens : Type 0 where
  pub of_quarter : NearestRoot (bits 0x3fd0_0000_0000_0000) (bits 0x3fe0_0000_0000_0000)
  pub of_four : NearestRoot (bits 0x4010_0000_0000_0000) (bits 0x4000_0000_0000_0000)
  pub of_nine : NearestRoot (bits 0x4022_0000_0000_0000) (bits 0x4008_0000_0000_0000)
  pub of_144 : NearestRoot (bits 0x4062_0000_0000_0000) (bits 0x4028_0000_0000_0000)
  -- 2 ^ -1074, and its root 2 ^ -537
  pub of_least : NearestRoot (bits 1) (bits 0x1e60_0000_0000_0000)
  pub of_two : NearestRoot (bits 0x4000_0000_0000_0000) (bits 0x3ff6_a09e_667f_3bcd)
  pub of_below_one : NearestRoot (bits 0x3fef_ffff_ffff_ffff) (bits 0x3fef_ffff_ffff_ffff)
  -- the square of 1 + 2 ^ -52, rounded, and 1 + 2 ^ -52
  pub of_square : NearestRoot (bits 0x3ff0_0000_0000_0002) (bits 0x3ff0_0000_0000_0001)
  pub of_largest : NearestRoot (bits 0x7fef_ffff_ffff_ffff) (bits 0x5fef_ffff_ffff_ffff)

-- ---- whole roots, on the way

-- the root of each n from high * 128 to high * 128 + 127 is r or one less, cut to a whole number
pub record Guess (high r : ℕ) : Type 0 where
  pub low : (r - 1) * (r - 1) ≤ high * 128
  pub up : high * 128 + 127 < (r + 1) * (r + 1)
  pub some : 0 < r
  pub small : r < 128

-- q is the whole number nearest to the root of n: n lies between the squares of q - 1/2 and q + 1/2
abbrev pub NearestWhole : ℕ → ℕ → Type 0
NearestWhole n q = (q * q < n + q) × (n ≤ q * q + q)
