-- What each question should be answered: what the definitions of the shapes and the maps say. Assumes nothing.
use Rattle.std.specs.Prelude.{◌≡◌, ℕ, ℤ, Some, None, Ok, Err, vec_items, Option, Result, Float}
use Rattle.std.specs.Float.{binary64}
use Rattle.std.specs.Float.Ieee.{mul}
use Rattle.plane.specs.declared.affine.Affine.{Affine}
use Rattle.plane.specs.declared.fault.ShapeFault.{ShapeFault}
use Rattle.plane.specs.declared.point.Point.{Point}
use Rattle.plane.specs.declared.rect.Rect.{Rect}
use Rattle.plane.specs.Affines.{product, image, det, back, image_box, radii_of, tilt_of}
use Rattle.plane.specs.Paths.{Drawn}
use Rattle.plane.specs.Rects as Rects
use Rattle.plane.specs.Winding.{nonzero}
use Rattle.shapes.specs.declared.circle.Circle.{Circle}
use Rattle.shapes.specs.declared.triangle.Triangle.{Triangle}
use Rattle.shapes.specs.Circles as Circles
use Rattle.shapes.specs.Triangles as Triangles
use Rattle.rounded.specs.declared.rounded_rect.RoundedRect.{RoundedRect}
use Rattle.rounded.specs.Outlines as Outlines
use Rattle.rounded.specs.Roundings as Roundings
use Rattle.ellipses.specs.declared.ellipse.Ellipse.{Ellipse}
use Rattle.ellipses.specs.Ellipses as Ellipses
use Rattle.ellipses.specs.Lengths as Lengths
use Rattle.ellipses.specs.Ovals as Ovals
use Rattle.questions.specs.declared.answer.Answer.{Answer}
use Rattle.questions.specs.declared.answer.Answer.TheVariants as Given
use Rattle.questions.specs.declared.question.ShapeAsk.{ShapeAsk}
use Rattle.questions.specs.declared.question.ShapeAsk.TheVariants as OfShape
use Rattle.questions.specs.declared.question.Ask.{Ask}
use Rattle.questions.specs.declared.question.Ask.TheVariants as Asked
use Rattle.questions.specs.declared.question.EllipseAsk.{EllipseAsk}
use Rattle.questions.specs.declared.question.EllipseAsk.TheVariants as OfEllipse
use Rattle.questions.specs.declared.question.MapAsk.{MapAsk}
use Rattle.questions.specs.declared.question.MapAsk.TheVariants as OfMap
use Rattle.questions.specs.declared.question.Question.{Question}
use Rattle.questions.specs.declared.question.Question.TheVariants as Questions

-- what every shape is, as far as it is asked
pub record Shown : Type 0 where
  pub area : Float
  pub frame : Rect
  pub wind : Point → ℤ
  pub drawn : Float → Drawn

-- by its area, its box, its winding and its path
abbrev pub shown : {S : Type 0} → (S → Float) → (S → Rect) → (S → Point → ℤ) → (S → Float → Drawn) → S → Shown
shown {S} area frame wind drawn s = record { area = area s; frame = frame s; wind = wind s; drawn = drawn s }

abbrev pub of_rect : Rect → Shown
of_rect = shown Rects.area_of Rects.box Rects.wind Rects.drawn

abbrev pub of_circle : Circle → Shown
of_circle = shown (λ c. mul binary64 Circles.π (mul binary64 c.radius c.radius)) Circles.box Circles.wind Circles.drawn

abbrev pub of_triangle : Triangle → Shown
of_triangle = shown (λ t. mul binary64 Triangles.half (Triangles.area2 t)) Triangles.box Triangles.wind Triangles.drawn

abbrev pub of_rounded : RoundedRect → Shown
of_rounded = shown Roundings.area_of (λ s. Rects.box s.rect) Roundings.wind Outlines.drawn

abbrev pub of_ellipse : Ellipse → Shown
of_ellipse = shown Ellipses.area_of Ellipses.box Ellipses.wind Ovals.drawn

-- the path that an answer has, or the refusal that it is
abbrev pub drawing : Answer → Option Drawn
drawing (Given.Number x) = None
drawing (Given.Length x n) = None
drawing (Given.Frame r) = None
drawing (Given.Winding w) = None
drawing (Given.Holds b) = None
drawing (Given.Point p) = None
drawing (Given.Map m) = None
drawing (Given.Radii r th) = None
drawing (Given.Corners r k) = None
drawing (Given.Path v) = Some (Ok (vec_items v))
drawing (Given.Refused e) = Some (Err e)

abbrev pub ShapeAnswers : Shown → ShapeAsk → Answer → Type 0
ShapeAnswers s OfShape.Area a = a ≡ Given.Number s.area
ShapeAnswers s OfShape.Frame a = a ≡ Given.Frame s.frame
ShapeAnswers s (OfShape.Winding p) a = a ≡ Given.Winding (s.wind p)
ShapeAnswers s (OfShape.Contains p) a = a ≡ Given.Holds (nonzero (s.wind p))
ShapeAnswers s (OfShape.Path t) a = drawing a ≡ Some (s.drawn t)

-- of a shape with a boundary of this length
abbrev pub Answers : Float → Shown → Ask → Answer → Type 0
Answers length s Asked.Perimeter a = a ≡ Given.Number length
Answers length s (Asked.Shape k) a = ShapeAnswers s k a

-- a length and its steps, or the refusal
abbrev pub measured : Result (Float × ℕ) ShapeFault → Answer
measured (Ok r) = Given.Length r.0 r.1
measured (Err e) = Given.Refused e

abbrev pub EllipseAnswers : Ellipse → EllipseAsk → Answer → Type 0
EllipseAnswers l (OfEllipse.Length accuracy allowance) a = a ≡ measured (Lengths.length_of (radii_of l.inner) accuracy allowance)
EllipseAnswers l OfEllipse.Radii a = a ≡ Given.Radii (radii_of l.inner) (tilt_of l.inner)
EllipseAnswers l OfEllipse.Map a = a ≡ Given.Map l.inner
EllipseAnswers l (OfEllipse.Shape k) a = ShapeAnswers (of_ellipse l) k a

abbrev pub map_answer : Affine → MapAsk → Answer
map_answer m (OfMap.Image p) = Given.Point (image m p)
map_answer m (OfMap.Product n) = Given.Map (product m n)
map_answer m OfMap.Inverse = Given.Map (back m)
map_answer m OfMap.Determinant = Given.Number (det m)
map_answer m (OfMap.Frame r) = Given.Frame (image_box m r)

-- the answer is the right one
abbrev pub RightTo : Question → Answer → Type 0
RightTo (Questions.Rect r k) a = Answers (Rects.length_of r) (of_rect r) k a
RightTo (Questions.Circle c k) a = Answers (Circles.length_of c) (of_circle c) k a
RightTo (Questions.Triangle t k) a = Answers (Triangles.length_of t) (of_triangle t) k a
RightTo (Questions.Rounded s k) a = Answers (Roundings.length_of s) (of_rounded s) k a
RightTo (Questions.Corners s) a = a ≡ Given.Corners s.rect s.radii
RightTo (Questions.Ellipse l k) a = EllipseAnswers l k a
RightTo (Questions.Affine m k) a = a ≡ map_answer m k
