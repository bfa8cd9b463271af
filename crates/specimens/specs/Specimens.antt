-- Nine examples, worked out by hand from the rules. Assumes nothing.
use Rattle.std.specs.Prelude.{◌≡◌, T, List, [], ◌∷◌, pos, negsuc}
use Rattle.elementary.specs.SixthRoots.{LeastSixth, sixth_root_of}
use Rattle.plane.specs.declared.affine.Affine.{Affine}
use Rattle.plane.specs.declared.rect.Rect.{Rect}
use Rattle.plane.specs.Affines.{affine, product}
use Rattle.plane.specs.Rects.{rect}
use Rattle.plane.specs.Rects as Rects
use Rattle.plane.specs.Vectors.{point}
use Rattle.shapes.specs.Circles.{circle}
use Rattle.shapes.specs.Circles as Circles
use Rattle.shapes.specs.Triangles.{triangle}
use Rattle.shapes.specs.Triangles as Triangles
use Rattle.rounded.specs.declared.rounded_rect.RoundedRect.{RoundedRect}
use Rattle.rounded.specs.Radii.{radii}
use Rattle.rounded.specs.Roundings.{made_of}
use Rattle.rounded.specs.Roundings as Roundings
use Rattle.layers.specs.Moves.{is_move, SameMap}
use Rattle.sheets.specs.declared.order.Order.{Order}
use Rattle.sheets.specs.declared.order.Order.TheVariants.{Put, Shift, Winding}
use Rattle.sheets.specs.declared.order.Answer.{Answer}
use Rattle.sheets.specs.declared.order.Answer.TheVariants as said
use Rattle.sheets.specs.Book.{Marks}
use Rattle.sheets.specs.Runs.{replies}
use Rattle.specimens.specs.Numbers.{number, minus, fraction, minus_fraction, at}
use Rattle.specimens.specs.Mirrors.{identity, mirror}

-- ---- what is asked about
-- the rectangle (0, 0)–(2, 1)
abbrev pub oblong : Rect
oblong = rect (number 0) (number 0) (number 2) (number 1)

-- the rectangle (0, 0)–(4, 2), rounded by 5
abbrev pub capsule : RoundedRect
capsule = made_of (rect (number 0) (number 0) (number 4) (number 2)) (radii (number 5) (number 5) (number 5) (number 5))

-- a quarter turn, and then one along x
abbrev pub quarter : Affine
quarter = affine (number 0) (number 1) (minus 1) (number 0) (number 1) (number 0)

-- a half turn, and then one along x and one along y
abbrev pub half_turn : Affine
half_turn = affine (minus 1) (number 0) (number 0) (minus 1) (number 1) (number 1)

-- what a rectangle means as a mark
abbrev pub rectangles : Marks Rect
rectangles = record { wind = Rects.wind; frame = Rects.box; drawn = Rects.drawn }

-- put the oblong as it is; shift it by the mirror; ask at (1, -1/2), and at (1, 1/2)
abbrev pub orders : List (Order Rect)
orders = Put oblong identity ∷ Shift 0 mirror ∷ Winding (point (number 1) (minus_fraction 1 2)) ∷ Winding (point (number 1) (fraction 1 2)) ∷ []

-- it lies at position 0, and stays there; the mirror gives -1, and where the oblong was is nothing
abbrev pub answers : List Answer
answers = said.Position 0 ∷ said.Position 0 ∷ said.Winding (negsuc 0) ∷ said.Winding (pos 0) ∷ []

-- ---- what holds
pub record Specimens : Type 0 where
  -- 1. The rectangle (2, 0)–(0, 1), reversed in x alone, gives -1 at (1, 1/2).
  pub reversed : Rects.wind (rect (number 2) (number 0) (number 0) (number 1)) (point (number 1) (fraction 1 2)) ≡ negsuc 0
  -- 2. The rectangle (0, 0)–(2, 1) has its near corner,
  pub near_corner : Rects.wind oblong (at 0 0) ≡ pos 1
  -- and not its far edge.
  pub far_edge : Rects.wind oblong (point (number 2) (fraction 1 2)) ≡ pos 0
  -- 3. The circle about (0, 0) with the radius 1 lacks (1, 0), on its rim,
  pub rim : Circles.wind (circle (at 0 0) (number 1)) (at 1 0) ≡ pos 0
  -- and has (255/256, 0), the next grid point within.
  pub within_rim : Circles.wind (circle (at 0 0) (number 1)) (point (fraction 255 256) (number 0)) ≡ pos 1
  -- 4. A triangle without an area holds nothing, on its line neither.
  pub flat : Triangles.wind (triangle (at 0 0) (at 1 1) (at 2 2)) (at 100 100) ≡ pos 0
  -- 5. A triangle of positive area holds its corners.
  pub own_corner : Triangles.wind (triangle (at 2 0) (at 0 0) (point (number 0) (minus 2))) (at 2 0) ≡ pos 1
  -- 6. The radii 5 of a rounded rectangle become 1, half its shorter side;
  pub radius : capsule.radii ≡ radii (number 1) (number 1) (number 1) (number 1)
  -- its corner is cut off,
  pub cut_corner : Roundings.wind capsule (at 0 0) ≡ pos 0
  -- and the middle of its side is not.
  pub side : Roundings.wind capsule (at 0 1) ≡ pos 1
  -- 7. The sixth root of 4096, as it is computed, is 4,
  pub root_of_4096 : sixth_root_of (number 4096) ≡ number 4
  -- and that of 4097 is 65/16,
  pub root_of_4097 : sixth_root_of (number 4097) ≡ fraction 65 16
  -- since the least sixteenths whose sixth powers are enough are 64/16
  pub least_of_4096 : LeastSixth 4096 1 64
  -- and 65/16.
  pub least_of_4097 : LeastSixth 4097 1 65
  -- 8. A quarter turn with the offset (1, 0) is a move;
  pub once : T (is_move quarter)
  -- taken twice, it is one too,
  pub twice : T (is_move (product quarter quarter))
  -- the half turn with the offset (1, 1), but for the signs of zeros.
  pub same : SameMap (product quarter quarter) half_turn
  -- 9. A book without a row, over a table of one entry and without a buffer, gives these answers to the orders.
  pub mirrored : replies rectangles 1 0 [] orders ≡ answers
