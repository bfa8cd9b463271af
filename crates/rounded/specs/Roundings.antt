-- Rounded rectangles: how they are made, their area, length and winding as computed, for all floats; which are sound; and those on the grid. Assumes nothing.
use Rattle.std.specs.Prelude.{Bool, false, cond, not, T, ℤ, pos, from_bits, is_nan, Float}
use Rattle.std.specs.Float.Ieee.{add, sub, mul, div, neg, le}
use Rattle.std.specs.Float.{float_with_sign, float_min, float_max, binary64}
use Rattle.std.specs.Int.{int_min, int_max}
use Rattle.floats.specs.Value.{In}
use Rattle.plane.specs.declared.point.Point.{Point}
use Rattle.plane.specs.declared.rect.Rect.{Rect}
use Rattle.plane.specs.declared.vec2.Vec2.{Vec2}
use Rattle.plane.specs.Rects.{box, closed, GridRect}
use Rattle.plane.specs.Rects as Rects
use Rattle.plane.specs.Vectors.{point, from_to}
use Rattle.rounded.specs.declared.rounded_rect.RoundedRect.{RoundedRect}
use Rattle.rounded.specs.declared.rounded_rect_radii.RoundedRectRadii.{RoundedRectRadii}
use Rattle.rounded.specs.Radii.{sizes, at_most}
use Rattle.rounded.specs.Shrunk.{shorter, limited}

-- ---- the numbers in the code
abbrev pub zero : Float
zero = from_bits binary64 0

abbrev pub minus_zero : Float
minus_zero = neg (from_bits binary64 0)

abbrev pub half : Float
half = from_bits binary64 0x3fe0_0000_0000_0000

abbrev pub one : Float
one = from_bits binary64 0x3ff0_0000_0000_0000

abbrev pub two : Float
two = from_bits binary64 0x4000_0000_0000_0000

abbrev pub minus_two : Float
minus_two = neg (from_bits binary64 0x4000_0000_0000_0000)

-- the floats nearest to a quarter and to half of π
abbrev pub π/4 : Float
π/4 = from_bits binary64 0x3fe9_21fb_5444_2d18

abbrev pub π/2 : Float
π/2 = from_bits binary64 0x3ff9_21fb_5444_2d18

-- ---- how one is made
abbrev pub rounded : Rect → RoundedRectRadii → RoundedRect
rounded b k = record { rect = b; radii = k }

abbrev pub width : Rect → Float
width b = sub binary64 b.x1 b.x0

abbrev pub height : Rect → Float
height b = sub binary64 b.y1 b.y0

-- half the shorter side. Not-a-number counts as the longer.
abbrev pub half_side : Rect → Float
half_side b = div binary64 (float_min (width b) (height b)) two

-- no side reversed, and each radius by its size, up to half the shorter side
abbrev pub made_of : Rect → RoundedRectRadii → RoundedRect
made_of r k = rounded (box r) (at_most (half_side (box r)) (sizes k))

-- ---- which are sound
-- a radius from 0 to half the shorter side of b
pub record SoundRadius (b : Rect) (r : Float) : Type 0 where
  pub from : T (le zero r)
  pub to : T (le r (half_side b))

pub record SoundRadii (b : Rect) (k : RoundedRectRadii) : Type 0 where
  pub top_left : SoundRadius b k.top_left
  pub top_right : SoundRadius b k.top_right
  pub bottom_right : SoundRadius b k.bottom_right
  pub bottom_left : SoundRadius b k.bottom_left

-- No side is reversed, and each radius lies from 0 to half the shorter side, as that is computed.
pub record Sound (s : RoundedRect) : Type 0 where
  pub across : T (le s.rect.x0 s.rect.x1)
  pub down : T (le s.rect.y0 s.rect.y1)
  pub radii : SoundRadii s.rect s.radii

-- What holds of each that is made, whatever it is made of: infinities and not-a-number may stay, and all else is sound.
-- A radius that is not a number becomes half the shorter side.
pub record Repaired (s : RoundedRect) : Type 0 where
  pub across : T (not (is_nan s.rect.x0)) → T (le s.rect.x0 s.rect.x1)
  pub down : T (not (is_nan s.rect.y0)) → T (le s.rect.y0 s.rect.y1)
  pub radii : T (not (is_nan (half_side s.rect))) → SoundRadii s.rect s.radii

-- ---- the centre, the area and the length
abbrev pub middle : Rect → Point
middle b = point (mul binary64 half (add binary64 b.x0 b.x1)) (mul binary64 half (add binary64 b.y0 b.y1))

-- the sum for the corners in their order, from -0 on
abbrev pub total : (Float → Float) → RoundedRectRadii → Float
total f k = add binary64 (add binary64 (add binary64 (add binary64 minus_zero (f k.top_left)) (f k.top_right)) (f k.bottom_right)) (f k.bottom_left)

-- a quarter circle less its square
abbrev pub corner_area : Float → Float
corner_area r = mul binary64 (mul binary64 (sub binary64 π/4 one) r) r

-- a quarter of a circle's length less two sides of its square
abbrev pub corner_length : Float → Float
corner_length r = mul binary64 (add binary64 minus_two π/2) r

abbrev pub area_of : RoundedRect → Float
area_of s = add binary64 (Rects.area_of s.rect) (total corner_area s.radii)

abbrev pub length_of : RoundedRect → Float
length_of s =
    add binary64 (mul binary64 two (add binary64 (float_with_sign false (width s.rect)) (float_with_sign false (height s.rect)))) (total corner_length s.radii)

-- ---- the winding
-- the radius of the corner towards which v leads from the centre
abbrev pub radius_at : RoundedRectRadii → Vec2 → Float
radius_at k v = cond (le zero v.y) (cond (le zero v.x) k.bottom_right k.bottom_left) (cond (le zero v.x) k.top_right k.top_left)

-- how far x, counted from the centre, lies past a circle's centre: h is half the side and r the circle's radius
abbrev pub past : Float → Float → Float → Float
past h r x = float_max (sub binary64 (float_with_sign false x) (float_max (sub binary64 h r) zero)) zero

-- the point that v leads to from the centre of b lies within r of the box between the circles
abbrev pub reaches : Rect → Float → Vec2 → Bool
reaches b r v =
    le (add binary64 (mul binary64 (past (div binary64 (width b) two) r v.x) (past (div binary64 (width b) two) r v.x))
    (mul binary64 (past (div binary64 (height b) two) r v.y) (past (div binary64 (height b) two) r v.y))) (mul binary64 r r)

abbrev pub reached : RoundedRect → Point → Bool
reached s p = reaches s.rect (radius_at s.radii (from_to (middle s.rect) p)) (from_to (middle s.rect) p)

-- 0 outside the closed box, else 1 where it is reached
abbrev pub wind : RoundedRect → Point → ℤ
wind s p = cond (closed (box s.rect) p) (cond (reached s p) (pos 1) (pos 0)) (pos 0)

-- ---- on the grid
-- the sides of s are a, b, c and d in units of 1/256, and its radii p, q, r and t in units of 1/512, from the top left on: half an odd side is a radius too
pub record GridRounded (s : RoundedRect) (a b c d p q r t : ℤ) : Type 0 where
  pub sides : GridRect s.rect a b c d
  pub top_left : In s.radii.top_left p 9 16777216
  pub top_right : In s.radii.top_right q 9 16777216
  pub bottom_right : In s.radii.bottom_right r 9 16777216
  pub bottom_left : In s.radii.bottom_left t 9 16777216

-- made of sides a, b, c and d and radii p, q, r and t in units of 1/256, in any order and of any sign
abbrev pub MadeOnGrid : RoundedRect → ℤ → ℤ → ℤ → ℤ → ℤ → ℤ → ℤ → ℤ → Type 0
MadeOnGrid s a b c d p q r t =
    let m = shorter (int_min a c) (int_min b d) (int_max a c) (int_max b d) in
    GridRounded s (int_min a c) (int_min b d) (int_max a c) (int_max b d) (limited m p) (limited m q) (limited m r) (limited m t)
