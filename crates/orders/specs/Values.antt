-- What the words and numbers of a line make. Assumes nothing.
use Rattle.std.specs.Prelude.{ℕ, ◌^◌, cond, ◌&&◌, List, length, get_or, Option, Some, None, Result, Ok, Err, nat_lt, nat_le, codes, Float}
use Rattle.std.specs.Str.{all_ascii_digits}
use Rattle.std.specs.Str.Parse.{without_leading_plus, digits_value}
use Rattle.plane.specs.declared.affine.Affine.{Affine}
use Rattle.plane.specs.declared.point.Point.{Point}
use Rattle.plane.specs.declared.rect.Rect.{Rect}
use Rattle.plane.specs.Affines.{affine, nought}
use Rattle.plane.specs.Vectors.{point, vec2}
use Rattle.plane.specs.Rects.{rect}
use Rattle.shapes.specs.declared.circle.Circle.{Circle}
use Rattle.shapes.specs.declared.triangle.Triangle.{Triangle}
use Rattle.shapes.specs.Circles.{circle}
use Rattle.shapes.specs.Triangles.{triangle}
use Rattle.rounded.specs.declared.rounded_rect.RoundedRect.{RoundedRect}
use Rattle.rounded.specs.Radii.{radii}
use Rattle.rounded.specs.Roundings.{made_of as rounded_rect}
use Rattle.ellipses.specs.declared.ellipse.Ellipse.{Ellipse}
use Rattle.ellipses.specs.Ellipses.{ellipse, placed}
use Rattle.layers.specs.declared.fault.MoveFault.{MoveFault}
use Rattle.layers.specs.declared.placing.Placing.{Placing}
use Rattle.layers.specs.Moves.{refusal}
use Rattle.marks.specs.declared.mark.Mark.{Mark}
use Rattle.marks.specs.declared.mark.Mark.TheVariants as marks
use Rattle.pieces.specs.declared.piece.Piece.{Piece}
use Rattle.pieces.specs.Pieces.{covered}
use Rattle.orders.specs.declared.kinds.Kind.{Kind}
use Rattle.orders.specs.declared.kinds.Kind.TheVariants as kinds
use Rattle.orders.specs.declared.line.Line.{Line}
use Rattle.orders.specs.declared.line.Line.TheVariants as lines
use Rattle.orders.specs.declared.order.CoverQuery.{CoverQuery}
use Rattle.orders.specs.declared.order.PageOrder.{PageOrder}
use Rattle.orders.specs.declared.order.PageOrder.TheVariants.{NoMove}
use Rattle.orders.specs.declared.order.Question.{Question}
use Rattle.orders.specs.Words.{Text}

-- ---- whole numbers
-- the number of at most k bits that decimal digits write, a plus before them or none
abbrev pub whole : ℕ → Text → Option ℕ
whole k w =
    let ds = without_leading_plus w in
    cond (nat_lt 0 (length ds) && (all_ascii_digits ds && nat_lt (digits_value 10 ds) (2 ^ k))) (Some (digits_value 10 ds)) None

-- n, if it is no more than most
abbrev pub up_to : ℕ → Option ℕ → Option ℕ
up_to most None = None
up_to most (Some n) = cond (nat_le n most) (Some n) None

-- ---- numbers
-- the number at a place
abbrev pub at : List Float → ℕ → Float
at xs i = get_or xs i nought

-- the six of a move
abbrev pub map_of : List Float → Affine
map_of xs = affine (at xs 0) (at xs 1) (at xs 2) (at xs 3) (at xs 4) (at xs 5)

-- the two of a point
abbrev pub point_of : List Float → Point
point_of xs = point (at xs 0) (at xs 1)

-- ---- shapes
abbrev pub name : Kind → Text
name kinds.Rect = codes "rect"
name kinds.Circle = codes "circle"
name kinds.Triangle = codes "triangle"
name kinds.RoundedRect = codes "rounded"
name kinds.Ellipse = codes "ellipse"

-- how many numbers a shape has
unfoldable pub count : Kind → ℕ
count kinds.Rect = 4
count kinds.Circle = 3
count kinds.Triangle = 6
count kinds.RoundedRect = 8
count kinds.Ellipse = 5

-- two opposite corners
abbrev pub rect_of : List Float → Rect
rect_of xs = rect (at xs 0) (at xs 1) (at xs 2) (at xs 3)

-- the centre, and the radius
abbrev pub circle_of : List Float → Circle
circle_of xs = circle (point (at xs 0) (at xs 1)) (at xs 2)

-- the corners
abbrev pub triangle_of : List Float → Triangle
triangle_of xs = triangle (point (at xs 0) (at xs 1)) (point (at xs 2) (at xs 3)) (point (at xs 4) (at xs 5))

-- two opposite corners, and the radii from the top left one on
abbrev pub rounded_of : List Float → RoundedRect
rounded_of xs = rounded_rect (rect_of xs) (radii (at xs 4) (at xs 5) (at xs 6) (at xs 7))

-- the centre, the radii and the rotation
abbrev pub ellipse_of : List Float → Ellipse
ellipse_of xs = ellipse (placed (point (at xs 0) (at xs 1)) (vec2 (at xs 2) (at xs 3)) (at xs 4))

-- the shape with these numbers
abbrev pub shape_of : Kind → List Float → Mark
shape_of kinds.Rect xs = marks.Rect (rect_of xs)
shape_of kinds.Circle xs = marks.Circle (circle_of xs)
shape_of kinds.Triangle xs = marks.Triangle (triangle_of xs)
shape_of kinds.RoundedRect xs = marks.RoundedRect (rounded_of xs)
shape_of kinds.Ellipse xs = marks.Ellipse (ellipse_of xs)

-- ---- orders
-- f of what was made
abbrev pub on_ok : {A B : Type 0} → (A → B) → Result A MoveFault → Result B MoveFault
on_ok f (Ok x) = Ok (f x)
on_ok f (Err e) = Err e

-- a mark with the numbers of its move
abbrev pub placing : Mark → Affine → Placing Mark
placing s m = record { numbers = m; below = s }

-- one placed mark over another, unless the numbers of a move make none, the upper's before the lower's
abbrev pub over_unless : Option MoveFault → Option MoveFault → Piece → Result Piece MoveFault
over_unless (Some f) g p = Err f
over_unless None (Some f) p = Err f
over_unless None None p = Ok p

unfoldable pub covering : Mark → Affine → Mark → Affine → Result Piece MoveFault
covering u m l n = over_unless (refusal m) (refusal n) (covered (placing u m) (placing l n))

-- the question about it
abbrev pub query : Question → Result Piece MoveFault → Result CoverQuery MoveFault
query q r = on_ok (λ p. record { piece = p; question = q }) r

-- the order that was made, or that the numbers of a move make none
abbrev pub or_no_move : {A : Type 0} → (A → PageOrder) → Result A MoveFault → Line
or_no_move f (Ok x) = lines.Order (f x)
or_no_move f (Err e) = lines.Order (NoMove e)
