-- Ellipses: the map that makes one of a circle, and its parts, box and winding as computed, for all floats. Assumes nothing.
use Rattle.std.specs.Prelude.{Bool, false, cond, ℤ, pos, Float}
use Rattle.std.specs.Float.Ieee.{add, sub, mul, lt}
use Rattle.std.specs.Float.{float_with_sign, binary64}
use Rattle.elementary.specs.Angles.{pi}
use Rattle.plane.specs.declared.affine.Affine.{Affine}
use Rattle.plane.specs.declared.point.Point.{Point}
use Rattle.plane.specs.declared.rect.Rect.{Rect}
use Rattle.plane.specs.declared.vec2.Vec2.{Vec2}
use Rattle.plane.specs.Affines.{one, shifting, turning, stretching, product, image, det, back, root_of_squares}
use Rattle.plane.specs.Rects.{rect, closed}
use Rattle.plane.specs.Vectors.{point, vec2, dot}
use Rattle.ellipses.specs.declared.ellipse.Ellipse.{Ellipse}

-- what m sends the circle about the origin with radius 1 to
abbrev pub ellipse : Affine → Ellipse
ellipse m = record { inner = m }

-- that circle, stretched by the sizes of the radii, turned by th, and moved to the centre p
abbrev pub placed : Point → Vec2 → Float → Affine
placed p r th = product (product (shifting (vec2 p.x p.y)) (turning th)) (stretching (float_with_sign false r.x) (float_with_sign false r.y))

abbrev pub center_of : Ellipse → Point
center_of l = point l.inner.e l.inner.f

-- π times the size of the determinant
abbrev pub area_of : Ellipse → Float
area_of l = mul binary64 pi (float_with_sign false (det l.inner))

-- the box about (x, y) that reaches s to the left and right, and t down and up
abbrev pub about : Float → Float → Float → Float → Rect
about x y s t = rect (sub binary64 x s) (sub binary64 y t) (add binary64 x s) (add binary64 y t)

abbrev pub box_of : Affine → Rect
box_of m = about m.e m.f (root_of_squares m.a m.c) (root_of_squares m.b m.d)

abbrev pub box : Ellipse → Rect
box l = box_of l.inner

-- p is nearer to the origin than 1
abbrev pub in_unit_circle : Point → Bool
in_unit_circle p = lt (dot (vec2 p.x p.y) (vec2 p.x p.y)) one

-- 1 in the closed box, where the map back leads into the circle, and else 0
abbrev pub wind : Ellipse → Point → ℤ
wind l p = cond (closed (box l) p) (cond (in_unit_circle (image (back l.inner) p)) (pos 1) (pos 0)) (pos 0)
