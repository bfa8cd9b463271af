-- Points and vectors, and the products of vectors, in the order of operations in which they are computed. Assumes nothing.
use Rattle.std.specs.Prelude.{Bool, ◌&&◌, Float}
use Rattle.std.specs.Float.Ieee.{add, sub, mul}
use Rattle.std.specs.Float.{sqrt, float_is_finite, binary64}
use Rattle.plane.specs.declared.point.Point.{Point}
use Rattle.plane.specs.declared.vec2.Vec2.{Vec2}

abbrev pub point : Float → Float → Point
point x y = record { x = x; y = y }

abbrev pub vec2 : Float → Float → Vec2
vec2 x y = record { x = x; y = y }

-- the vector from p to q
abbrev pub from_to : Point → Point → Vec2
from_to p q = vec2 (sub binary64 q.x p.x) (sub binary64 q.y p.y)

abbrev pub dot : Vec2 → Vec2 → Float
dot v w = add binary64 (mul binary64 v.x w.x) (mul binary64 v.y w.y)

abbrev pub cross : Vec2 → Vec2 → Float
cross v w = sub binary64 (mul binary64 v.x w.y) (mul binary64 v.y w.x)

-- the length
abbrev pub long : Vec2 → Float
long v = sqrt binary64 (dot v v)

abbrev pub finite_point : Point → Bool
finite_point p = float_is_finite p.x && float_is_finite p.y
