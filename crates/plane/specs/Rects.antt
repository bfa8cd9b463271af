-- Rectangles: their box and winding as computed, for all floats; and the rule on the grid, over whole numbers. Assumes nothing.
use Rattle.std.specs.Prelude.{Bool, false, cond, not, ◌&&◌, List, [], ◌∷◌, ℤ, pos, negsuc, ◌≤ℤ◌, ◌<ℤ◌, Ok, from_bits, int_lt, Float}
use Rattle.std.specs.Bool.{beq}
use Rattle.std.specs.Float.Ieee.{add, sub, mul, lt, le}
use Rattle.std.specs.Float.{float_with_sign, float_is_finite, float_min, float_max, binary64}
use Rattle.std.specs.Int.{int_min, int_max}
use Rattle.floats.specs.Value.{Val}
use Rattle.floats.specs.Page.{Grid}
use Rattle.plane.specs.declared.point.Point.{Point}
use Rattle.plane.specs.declared.rect.Rect.{Rect}
use Rattle.plane.specs.declared.bezpath.PathEl.{PathEl}
use Rattle.plane.specs.Vectors.{point}
use Rattle.plane.specs.Outlines.{outline}
use Rattle.plane.specs.Paths.{Drawn, checked}
use Rattle.plane.specs.Winding.{Gives}

abbrev pub rect : Float → Float → Float → Float → Rect
rect a b c d = record { x0 = a; y0 = b; x1 = c; y1 = d }

-- ---- as computed
-- width times height
abbrev pub area_of : Rect → Float
area_of r = mul binary64 (sub binary64 r.x1 r.x0) (sub binary64 r.y1 r.y0)

-- the lesser and the greater side on each axis
abbrev pub box : Rect → Rect
box r = rect (float_min r.x0 r.x1) (float_min r.y0 r.y1) (float_max r.x0 r.x1) (float_max r.y0 r.y1)

-- the least box that holds b and c
abbrev pub joined : Rect → Rect → Rect
joined b c = rect (float_min b.x0 c.x0) (float_min b.y0 c.y0) (float_max b.x1 c.x1) (float_max b.y1 c.y1)

-- p lies in b without its far sides
abbrev pub half_open : Rect → Point → Bool
half_open b p = le b.x0 p.x && (lt p.x b.x1 && (le b.y0 p.y && lt p.y b.y1))

-- p lies in b, its sides included
abbrev pub closed : Rect → Point → Bool
closed b p = le b.x0 p.x && (le p.x b.x1 && (le b.y0 p.y && le p.y b.y1))

abbrev pub unlike : Bool → Bool → Bool
unlike s t = not (beq s t)

abbrev pub wind : Rect → Point → ℤ
wind r p = cond (half_open (box r) p) (cond (unlike (lt r.x0 r.x1) (lt r.y0 r.y1)) (negsuc 0) (pos 1)) (pos 0)

-- ---- length and path
-- twice the sizes of width and height
abbrev pub length_of : Rect → Float
length_of r = mul binary64 (from_bits binary64 0x4000_0000_0000_0000) (add binary64 (float_with_sign false (sub binary64 r.x1 r.x0)) (float_with_sign false (sub binary64 r.y1 r.y0)))

abbrev pub finite_sides : Rect → Bool
finite_sides r = float_is_finite r.x0 && (float_is_finite r.y0 && (float_is_finite r.x1 && float_is_finite r.y1))

-- from the first corner along the first side
abbrev pub corners : Rect → List Point
corners r = point r.x0 r.y0 ∷ point r.x1 r.y0 ∷ point r.x1 r.y1 ∷ point r.x0 r.y1 ∷ []

abbrev pub path : Rect → List PathEl
path r = outline (corners r)

abbrev pub drawn : Rect → Float → Drawn
drawn r t = checked t (finite_sides r) (Ok (path r))

-- ---- on the grid
-- r's corners are (a / 256, b / 256) and (c / 256, d / 256), and lie in the field
pub record GridRect (r : Rect) (a b c d : ℤ) : Type 0 where
  pub x0 : Grid r.x0 a
  pub y0 : Grid r.y0 b
  pub x1 : Grid r.x1 c
  pub y1 : Grid r.y1 d

-- r's sides are a / 256, b / 256, c / 256 and d / 256, wherever they lie
pub record Sides (r : Rect) (a b c d : ℤ) : Type 0 where
  pub x0 : Val r.x0 a 8
  pub y0 : Val r.y0 b 8
  pub x1 : Val r.x1 c 8
  pub y1 : Val r.y1 d 8

-- u lies between a and c: from the lesser on, and before the greater
abbrev pub Between : ℤ → ℤ → ℤ → Type 0
Between a c u = (int_min a c ≤ℤ u) × (u <ℤ int_max a c)

-- 1, or -1 if exactly one axis is reversed
abbrev pub turn : ℤ → ℤ → ℤ → ℤ → ℤ
turn a b c d = cond (unlike (int_lt c a) (int_lt d b)) (negsuc 0) (pos 1)

-- A rectangle holds its half-open box.
abbrev pub RuleOfRect : ℤ → ℤ → ℤ → ℤ → ℤ → ℤ → ℤ → Type 0
RuleOfRect a b c d u v w = Gives (Between a c u × Between b d v) (turn a b c d) w
