-- How a list writes its cases. Assumes nothing.
use Rattle.std.specs.Prelude.{◌≡◌, ℕ, ◌⊎◌, List, [], ◌∷◌, ◌++◌, codes, map, Float}
use Rattle.std.specs.Float.{float_to_unsigned}
use Rattle.std.specs.Int.{w32}
use Rattle.cases.specs.Texts.{written}
use Rattle.plane.specs.declared.affine.Affine.{Affine}
use Rattle.plane.specs.declared.point.Point.{Point}
use Rattle.plane.specs.declared.rect.Rect.{Rect}
use Rattle.plane.specs.declared.vec2.Vec2.{Vec2}
use Rattle.shapes.specs.declared.circle.Circle.{Circle}
use Rattle.shapes.specs.declared.triangle.Triangle.{Triangle}
use Rattle.rounded.specs.declared.rounded_rect.RoundedRect.{RoundedRect}
use Rattle.rounded.specs.declared.rounded_rect_radii.RoundedRectRadii.{RoundedRectRadii}
use Rattle.rounded.specs.Roundings.{made_of}
use Rattle.ellipses.specs.declared.ellipse.Ellipse.{Ellipse}
use Rattle.ellipses.specs.Ellipses.{ellipse, placed}
use Rattle.questions.specs.declared.question.Ask.{Ask}
use Rattle.questions.specs.declared.question.Ask.TheVariants as Asked
use Rattle.questions.specs.declared.question.EllipseAsk.{EllipseAsk}
use Rattle.questions.specs.declared.question.EllipseAsk.TheVariants as OfEllipse
use Rattle.questions.specs.declared.question.MapAsk.{MapAsk}
use Rattle.questions.specs.declared.question.MapAsk.TheVariants as OfMap
use Rattle.questions.specs.declared.question.Question.{Question}
use Rattle.questions.specs.declared.question.Question.TheVariants as Questions
use Rattle.questions.specs.declared.question.ShapeAsk.{ShapeAsk}
use Rattle.questions.specs.declared.question.ShapeAsk.TheVariants as OfShape
use Rattle.questions.specs.declared.question.What.{What}
use Rattle.questions.specs.declared.question.What.TheVariants as Whats
use Rattle.questions.specs.Names.{name_of, word_of, kind_of}
use Rattle.comparison.specs.Words.{HasWords}

-- ---- the numbers of what is asked about
abbrev pub of_point : Point → List Float
of_point p = p.x ∷ p.y ∷ []

abbrev pub of_vector : Vec2 → List Float
of_vector v = v.x ∷ v.y ∷ []

abbrev pub of_rect : Rect → List Float
of_rect r = r.x0 ∷ r.y0 ∷ r.x1 ∷ r.y1 ∷ []

abbrev pub of_circle : Circle → List Float
of_circle c = of_point c.center ++ (c.radius ∷ [])

abbrev pub of_triangle : Triangle → List Float
of_triangle t = of_point t.a ++ (of_point t.b ++ of_point t.c)

abbrev pub of_radii : RoundedRectRadii → List Float
of_radii k = k.top_left ∷ k.top_right ∷ k.bottom_right ∷ k.bottom_left ∷ []

abbrev pub of_map : Affine → List Float
of_map m = m.a ∷ m.b ∷ m.c ∷ m.d ∷ m.e ∷ m.f ∷ []

-- the rectangle and the radii that a rounded rectangle is made of
abbrev pub OfRounded : RoundedRect → List Float → Type 0
OfRounded s xs = (r : Rect) × (k : RoundedRectRadii) × (s ≡ made_of r k) × (xs ≡ of_rect r ++ of_radii k)

-- ---- what is asked, and the numbers that it is asked with
abbrev pub AsksShape : ShapeAsk → What → List Float → Type 0
AsksShape OfShape.Area w xs = (w ≡ Whats.Area) × (xs ≡ [])
AsksShape OfShape.Frame w xs = (w ≡ Whats.Box) × (xs ≡ [])
AsksShape (OfShape.Winding p) w xs = (w ≡ Whats.Winding) × (xs ≡ of_point p)
AsksShape (OfShape.Contains p) w xs = (w ≡ Whats.Contains) × (xs ≡ of_point p)
AsksShape (OfShape.Path t) w xs = (w ≡ Whats.Path) × (xs ≡ t ∷ [])

abbrev pub Asks : Ask → What → List Float → Type 0
Asks Asked.Perimeter w xs = (w ≡ Whats.Perimeter) × (xs ≡ [])
Asks (Asked.Shape k) w xs = AsksShape k w xs

-- an allowance counts as the nearest that there is
abbrev pub AsksEllipse : EllipseAsk → What → List Float → Type 0
AsksEllipse (OfEllipse.Length accuracy allowance) w xs =
    (n : Float) × (allowance ≡ float_to_unsigned w32 n) × (w ≡ Whats.Perimeter) × (xs ≡ accuracy ∷ n ∷ [])
AsksEllipse OfEllipse.Radii w xs = (w ≡ Whats.Radii) × (xs ≡ [])
AsksEllipse OfEllipse.Map w xs = ⊥
AsksEllipse (OfEllipse.Shape k) w xs = AsksShape k w xs

abbrev pub AsksMap : MapAsk → What → List Float → Type 0
AsksMap (OfMap.Image p) w xs = (w ≡ Whats.Point) × (xs ≡ of_point p)
AsksMap (OfMap.Product m) w xs = (w ≡ Whats.Mul) × (xs ≡ of_map m)
AsksMap OfMap.Inverse w xs = (w ≡ Whats.Inverse) × (xs ≡ [])
AsksMap OfMap.Determinant w xs = (w ≡ Whats.Determinant) × (xs ≡ [])
AsksMap (OfMap.Frame r) w xs = (w ≡ Whats.Bbox) × (xs ≡ of_rect r)

-- the map of an ellipse that is made of a centre, radii and an angle
abbrev pub AsksMade : Ellipse → EllipseAsk → What → List Float → Type 0
AsksMade l k w xs =
    (p : Point) × (v : Vec2) × (th : Float)
    × (l ≡ ellipse (placed p v th)) × (k ≡ OfEllipse.Map) × (w ≡ Whats.New) × (xs ≡ of_point p ++ (of_vector v ++ (th ∷ [])))

-- what a case asks of an ellipse by its map
abbrev pub AsksMapped : Ellipse → EllipseAsk → What → List Float → Type 0
AsksMapped l k w xs = (m : Affine) × (ys : List Float) × (l ≡ ellipse m) × AsksEllipse k w ys × (xs ≡ of_map m ++ ys)

-- the numbers of the subject, and then those that it is asked with
abbrev pub Says : Question → What → List Float → Type 0
Says (Questions.Rect r k) w xs = (ys : List Float) × Asks k w ys × (xs ≡ of_rect r ++ ys)
Says (Questions.Circle c k) w xs = (ys : List Float) × Asks k w ys × (xs ≡ of_circle c ++ ys)
Says (Questions.Triangle t k) w xs = (ys : List Float) × Asks k w ys × (xs ≡ of_triangle t ++ ys)
Says (Questions.Rounded s k) w xs = (zs ys : List Float) × OfRounded s zs × Asks k w ys × (xs ≡ zs ++ ys)
Says (Questions.Corners s) w xs = OfRounded s xs × (w ≡ Whats.Radii)
Says (Questions.Ellipse l k) w xs = AsksMade l k w xs ⊎ AsksMapped l k w xs
Says (Questions.Affine m k) w xs = (ys : List Float) × AsksMap k w ys × (xs ≡ of_map m ++ ys)

-- The text has this question before its first arrow, and behind it what should be answered.
abbrev pub CaseOf : List ℕ → Question → List ℕ → Type 0
CaseOf bs q expected =
    (asked : List ℕ) × (w : What) × (xs : List Float)
    × (bs ≡ asked ++ (codes " -> " ++ expected))
    × HasWords asked (name_of (kind_of q) ∷ word_of w ∷ map written xs)
    × Says q w xs
