-- The laws of a mark: each is that of the shape. Assumes nothing.
use Rattle.std.specs.Prelude.{◌≡◌, pos, ◌≢◌, Float}
use Rattle.plane.specs.declared.point.Point.{Point}
use Rattle.plane.specs.Paths.{WellDrawn}
use Rattle.plane.specs.Points.{FieldPoint, Same, FiniteBox, InBox}
use Rattle.plane.specs.Winding.{IsWinding}
use Rattle.plane.specs.Rectangles.{rect_lawful, rect_formed}
use Rattle.shapes.specs.Round.{circle_lawful, circle_formed}
use Rattle.shapes.specs.Threecornered.{triangle_lawful, triangle_formed}
use Rattle.rounded.specs.Corners.{rounded_lawful}
use Rattle.rounded.specs.Outlined.{rounded_formed}
use Rattle.ellipses.specs.Oval.{ellipse_lawful, ellipse_formed}
use Rattle.marks.specs.declared.mark.Mark.{Mark}
use Rattle.marks.specs.declared.mark.Mark.TheVariants.{Rect, Circle, Triangle, RoundedRect, Ellipse}
use Rattle.marks.specs.Marks.{wind, box, drawn}

pub mark_small : (s : Mark) (p : Point) → IsWinding (wind s p)
mark_small (Rect s) p = (rect_lawful s p).small
mark_small (Circle s) p = (circle_lawful s p).small
mark_small (Triangle s) p = (triangle_lawful s p).small
mark_small (RoundedRect s) p = (rounded_lawful s p).small
mark_small (Ellipse s) p = (ellipse_lawful s p).small

pub mark_same : (s : Mark) (p q : Point) → Same p q → wind s q ≡ wind s p
mark_same (Rect s) p q e = (rect_lawful s p).same q e
mark_same (Circle s) p q e = (circle_lawful s p).same q e
mark_same (Triangle s) p q e = (triangle_lawful s p).same q e
mark_same (RoundedRect s) p q e = (rounded_lawful s p).same q e
mark_same (Ellipse s) p q e = (ellipse_lawful s p).same q e

pub mark_boxed : (s : Mark) (p : Point) → FiniteBox (box s) → FieldPoint p → (wind s p ≢ pos 0) → InBox (box s) p
mark_boxed (Rect s) p f g n = (rect_lawful s p).boxed f g n
mark_boxed (Circle s) p f g n = (circle_lawful s p).boxed f g n
mark_boxed (Triangle s) p f g n = (triangle_lawful s p).boxed f g n
mark_boxed (RoundedRect s) p f g n = (rounded_lawful s p).boxed f g n
mark_boxed (Ellipse s) p f g n = (ellipse_lawful s p).boxed f g n

pub mark_formed : (s : Mark) (t : Float) → WellDrawn (drawn s t)
mark_formed (Rect s) t = rect_formed s t
mark_formed (Circle s) t = circle_formed s t
mark_formed (Triangle s) t = triangle_formed s t
mark_formed (RoundedRect s) t = rounded_formed s t
mark_formed (Ellipse s) t = ellipse_formed s t
