-- Which answers need memory: a path alone. Assumes nothing.
use Rattle.std.specs.Prelude.{Bool, true, false}
use Rattle.questions.specs.declared.question.ShapeAsk.{ShapeAsk}
use Rattle.questions.specs.declared.question.ShapeAsk.TheVariants as OfShape
use Rattle.questions.specs.declared.question.Ask.{Ask}
use Rattle.questions.specs.declared.question.Ask.TheVariants as Asked
use Rattle.questions.specs.declared.question.EllipseAsk.{EllipseAsk}
use Rattle.questions.specs.declared.question.EllipseAsk.TheVariants as OfEllipse
use Rattle.questions.specs.declared.question.Question.{Question}
use Rattle.questions.specs.declared.question.Question.TheVariants as Questions

-- whether a shape's path is asked
abbrev pub shape_asks_path : ShapeAsk → Bool
shape_asks_path OfShape.Area = false
shape_asks_path OfShape.Frame = false
shape_asks_path (OfShape.Winding p) = false
shape_asks_path (OfShape.Contains p) = false
shape_asks_path (OfShape.Path t) = true

abbrev pub asks_path : Ask → Bool
asks_path Asked.Perimeter = false
asks_path (Asked.Shape k) = shape_asks_path k

abbrev pub ellipse_asks_path : EllipseAsk → Bool
ellipse_asks_path (OfEllipse.Length accuracy allowance) = false
ellipse_asks_path OfEllipse.Radii = false
ellipse_asks_path OfEllipse.Map = false
ellipse_asks_path (OfEllipse.Shape k) = shape_asks_path k

abbrev pub wants_memory : Question → Bool
wants_memory (Questions.Rect r k) = asks_path k
wants_memory (Questions.Circle c k) = asks_path k
wants_memory (Questions.Triangle t k) = asks_path k
wants_memory (Questions.Rounded s k) = asks_path k
wants_memory (Questions.Corners s) = false
wants_memory (Questions.Ellipse l k) = ellipse_asks_path k
wants_memory (Questions.Affine m k) = false
