-- The rule of a rounded rectangle on the grid, over whole numbers in one unit, in terms of its box shrunk by a radius. Assumes nothing.
use Rattle.std.specs.Prelude.{cond, ℤ, pos, ◌+ℤ◌, ◌-ℤ◌, ◌*ℤ◌, ◌≤ℤ◌, int_le, unsigned_abs}
use Rattle.std.specs.Int.{int_min}
use Rattle.plane.specs.Winding.{Gives}

-- from units of 1/256 to units of 1/512, in which a centre lies too
abbrev pub twice : ℤ → ℤ
twice z = z +ℤ z

-- the shorter side of the box (a, b)–(c, d)
abbrev pub shorter : ℤ → ℤ → ℤ → ℤ → ℤ
shorter a b c d = int_min (c -ℤ a) (d -ℤ b)

-- the radius p / 256 by its size, up to half the side m / 256, in units of 1/512
abbrev pub limited : ℤ → ℤ → ℤ
limited m p = int_min (twice (pos (unsigned_abs p))) m

-- (x, y) lies in the closed box (a, b)–(c, d)
pub record Inside (a b c d x y : ℤ) : Type 0 where
  pub left : a ≤ℤ x
  pub right : x ≤ℤ c
  pub above : b ≤ℤ y
  pub below : y ≤ℤ d

-- (u, v) lies within q of the box (a, b)–(c, d) shrunk by q on all sides: no farther than q from some point (x, y) of that
pub record NearShrunk (a b c d q u v : ℤ) : Type 0 where
  pub x : ℤ
  pub y : ℤ
  pub there : Inside (a +ℤ q) (b +ℤ q) (c -ℤ q) (d -ℤ q) x y
  pub near : ((u -ℤ x) *ℤ (u -ℤ x) +ℤ (v -ℤ y) *ℤ (v -ℤ y)) ≤ℤ (q *ℤ q)

-- the radius of the corner in whose quarter of the box (u, v) lies, of p, q, r and t from the top left on: on a line between two quarters, of the one with the larger x or y
abbrev pub corner_radius : ℤ → ℤ → ℤ → ℤ → ℤ → ℤ → ℤ → ℤ → ℤ → ℤ → ℤ
corner_radius a b c d p q r t u v = cond (int_le (b +ℤ d) (twice v)) (cond (int_le (a +ℤ c) (twice u)) r t) (cond (int_le (a +ℤ c) (twice u)) q p)

-- A rounded rectangle holds the points of its closed box that lie within the radius of the box shrunk by the radius.
-- A radius of 0 shrinks nothing: then all of that quarter is held, its edges too.
abbrev pub RuleOfRounded : ℤ → ℤ → ℤ → ℤ → ℤ → ℤ → ℤ → ℤ → ℤ → ℤ → ℤ → Type 0
RuleOfRounded a b c d p q r t u v w = Gives (Inside a b c d u v × NearShrunk a b c d (corner_radius a b c d p q r t u v) u v) (pos 1) w
