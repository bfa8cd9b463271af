-- Triangles: their box and winding as computed, for all floats. Assumes nothing.
use Rattle.std.specs.Prelude.{Bool, cond, ◌&&◌, List, [], ◌∷◌, ℤ, pos, negsuc, Ok, from_bits, Float}
use Rattle.std.specs.Float.Ieee.{add, lt, le, eq}
use Rattle.std.specs.Float.{float_min, float_max, binary64}
use Rattle.plane.specs.declared.point.Point.{Point}
use Rattle.plane.specs.declared.rect.Rect.{Rect}
use Rattle.plane.specs.Points.{GridPoint}
use Rattle.plane.specs.Rects.{rect, closed}
use Rattle.plane.specs.declared.bezpath.PathEl.{PathEl}
use Rattle.plane.specs.Outlines.{outline}
use Rattle.plane.specs.Paths.{Drawn, checked}
use Rattle.plane.specs.Vectors.{from_to, cross, long, finite_point}
use Rattle.shapes.specs.declared.triangle.Triangle.{Triangle}

abbrev pub triangle : Point → Point → Point → Triangle
triangle a b c = record { a = a; b = b; c = c }

abbrev pub zero : Float
zero = from_bits binary64 0

abbrev pub half : Float
half = from_bits binary64 0x3fe0_0000_0000_0000

-- twice the area: (b - a) × (c - a)
abbrev pub area2 : Triangle → Float
area2 t = cross (from_to t.a t.b) (from_to t.a t.c)

abbrev pub box : Triangle → Rect
box t =
    rect (float_min t.a.x (float_min t.b.x t.c.x)) (float_min t.a.y (float_min t.b.y t.c.y))
    (float_max t.a.x (float_max t.b.x t.c.x)) (float_max t.a.y (float_max t.b.y t.c.y))

-- on which side of the line from p to q the point r lies
abbrev pub side : Point → Point → Point → Float
side p q r = cross (from_to p q) (from_to p r)

-- 1 if no side is negative, -1 if all are, else 0. A zero counts as positive, whichever its sign.
abbrev pub agreed : Float → Float → Float → ℤ
agreed s t u =
    cond (le zero s && (le zero t && le zero u)) (pos 1)
    (cond (lt s zero && (lt t zero && lt u zero)) (negsuc 0) (pos 0))

-- 0 without an area and outside the closed box
abbrev pub wind : Triangle → Point → ℤ
wind t p =
    cond (eq (area2 t) zero) (pos 0)
    (cond (closed (box t) p) (agreed (side t.a t.b p) (side t.b t.c p) (side t.c t.a p)) (pos 0))

-- ---- length and path
abbrev pub length_of : Triangle → Float
length_of t = add binary64 (add binary64 (long (from_to t.b t.a)) (long (from_to t.c t.b))) (long (from_to t.a t.c))

abbrev pub all_finite : Triangle → Bool
all_finite t = finite_point t.a && (finite_point t.b && finite_point t.c)

abbrev pub path : Triangle → List PathEl
path t = outline (t.a ∷ t.b ∷ t.c ∷ [])

abbrev pub drawn : Triangle → Float → Drawn
drawn t e = checked e (all_finite t) (Ok (path t))

-- ---- on the grid
-- the corners are (a, b), (c, d) and (e, f) in units of 1/256, and lie in the field
pub record GridTriangle (t : Triangle) (a b c d e f : ℤ) : Type 0 where
  pub at_a : GridPoint t.a a b
  pub at_b : GridPoint t.b c d
  pub at_c : GridPoint t.c e f
