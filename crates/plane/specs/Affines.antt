-- Affine maps of the plane: what they send points and boxes to, and what they are made of, in the order of operations in which it is computed. Assumes nothing.
use Rattle.std.specs.Prelude.{Bool, false, ◌&&◌, from_bits, Float}
use Rattle.std.specs.Float.Ieee.{add, sub, mul, div, neg}
use Rattle.std.specs.Float.{float_with_sign, float_is_finite, sqrt, binary64}
use Rattle.elementary.specs.Angles.{sin_cos, angle}
use Rattle.plane.specs.declared.affine.Affine.{Affine}
use Rattle.plane.specs.declared.bezpath.PathEl.{PathEl}
use Rattle.plane.specs.declared.bezpath.PathEl.TheVariants.{MoveTo, LineTo, QuadTo, CurveTo, ClosePath}
use Rattle.plane.specs.declared.point.Point.{Point}
use Rattle.plane.specs.declared.rect.Rect.{Rect}
use Rattle.plane.specs.declared.vec2.Vec2.{Vec2}
use Rattle.plane.specs.Rects.{rect, box, joined}
use Rattle.plane.specs.Vectors.{point, vec2}

abbrev pub affine : Float → Float → Float → Float → Float → Float → Affine
affine a b c d e f = record { a = a; b = b; c = c; d = d; e = e; f = f }

-- ---- constants
abbrev pub nought : Float
nought = from_bits binary64 0

abbrev pub half : Float
half = from_bits binary64 0x3fe0_0000_0000_0000

abbrev pub one : Float
one = from_bits binary64 0x3ff0_0000_0000_0000

abbrev pub two : Float
two = from_bits binary64 0x4000_0000_0000_0000

-- ---- maps
-- by the vector v
abbrev pub shifting : Vec2 → Affine
shifting v = affine one nought nought one v.x v.y

-- about the origin, by the angle whose sine and cosine are s and c
abbrev pub turned : Float × Float → Affine
turned t = affine t.1 t.0 (neg t.0) t.1 nought nought

abbrev pub turning : Float → Affine
turning th = turned (sin_cos th)

-- x by the first factor, y by the second
abbrev pub stretching : Float → Float → Affine
stretching s t = affine s nought nought t nought nought

-- ---- products
-- s x + t y
abbrev pub blend : Float → Float → Float → Float → Float
blend s x t y = add binary64 (mul binary64 s x) (mul binary64 t y)

-- first n, then m
abbrev pub product : Affine → Affine → Affine
product m n =
    affine (blend m.a n.a m.c n.b) (blend m.b n.a m.d n.b)
    (blend m.a n.c m.c n.d) (blend m.b n.c m.d n.d)
    (add binary64 (blend m.a n.e m.c n.f) m.e) (add binary64 (blend m.b n.e m.d n.f) m.f)

-- where m sends p
abbrev pub image : Affine → Point → Point
image m p =
    point (add binary64 (blend m.a p.x m.c p.y) m.e)
    (add binary64 (blend m.b p.x m.d p.y) m.f)

-- an element of a path, each of its points sent by m
abbrev pub image_el : Affine → PathEl → PathEl
image_el m (MoveTo p) = MoveTo (image m p)
image_el m (LineTo p) = LineTo (image m p)
image_el m (QuadTo p q) = QuadTo (image m p) (image m q)
image_el m (CurveTo p q r) = CurveTo (image m p) (image m q) (image m r)
image_el m ClosePath = ClosePath

-- ---- the map back
-- s x - t y
abbrev pub differ : Float → Float → Float → Float → Float
differ s x t y = sub binary64 (mul binary64 s x) (mul binary64 t y)

abbrev pub det : Affine → Float
det m = differ m.a m.d m.b m.c

-- by one over the determinant
abbrev pub back_by : Float → Affine → Affine
back_by i m =
    affine (mul binary64 i m.d) (mul binary64 (neg i) m.b) (mul binary64 (neg i) m.c) (mul binary64 i m.a)
    (mul binary64 i (differ m.c m.f m.d m.e)) (mul binary64 i (differ m.b m.e m.a m.f))

abbrev pub back : Affine → Affine
back m = back_by (div binary64 one (det m)) m

-- ---- boxes
-- the box with the opposite corners p and q
abbrev pub spanned : Point → Point → Rect
spanned p q = box (rect p.x p.y q.x q.y)

-- the box of the four corners of r, sent by m
abbrev pub image_box : Affine → Rect → Rect
image_box m r =
    joined (spanned (image m (point r.x0 r.y0)) (image m (point r.x0 r.y1)))
    (spanned (image m (point r.x1 r.y0)) (image m (point r.x1 r.y1)))

-- ---- the ellipse that the circle about the origin with radius 1 is sent to
abbrev pub root_of_squares : Float → Float → Float
root_of_squares x y = sqrt binary64 (blend x x y y)

-- half the sum and half the distance of s and t
abbrev pub halves : Float → Float → Vec2
halves s t = vec2 (mul binary64 half (add binary64 s t)) (mul binary64 half (float_with_sign false (sub binary64 s t)))

-- its radii, the greater first
abbrev pub radii_of : Affine → Vec2
radii_of m =
    halves (root_of_squares (add binary64 m.a m.d) (sub binary64 m.b m.c))
    (root_of_squares (sub binary64 m.a m.d) (add binary64 m.b m.c))

-- ((a² - b²) + c²) - d²
abbrev pub lean : Float → Float → Float → Float → Float
lean a b c d = sub binary64 (add binary64 (differ a a b b) (mul binary64 c c)) (mul binary64 d d)

-- the angle of its greater radius
abbrev pub tilt_of : Affine → Float
tilt_of m = mul binary64 half (angle (mul binary64 two (blend m.a m.b m.c m.d)) (lean m.a m.b m.c m.d))

-- ---- parts
abbrev pub shift_of : Affine → Vec2
shift_of m = vec2 m.e m.f

-- no number of m is an infinity or not-a-number
abbrev pub all_finite : Affine → Bool
all_finite m = float_is_finite m.a && (float_is_finite m.b && (float_is_finite m.c && (float_is_finite m.d && (float_is_finite m.e && float_is_finite m.f))))
