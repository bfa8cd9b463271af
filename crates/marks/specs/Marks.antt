-- Marks: the winding, the box and the path of any one of the shapes. Assumes nothing.
use Rattle.std.specs.Prelude.{List, ℤ, Float}
use Rattle.plane.specs.declared.point.Point.{Point}
use Rattle.plane.specs.declared.rect.Rect.{Rect as Rectangle}
use Rattle.plane.specs.declared.bezpath.PathEl.{PathEl}
use Rattle.plane.specs.Paths.{Drawn}
use Rattle.plane.specs.Outlines as Outlines
use Rattle.plane.specs.Rects as Rects
use Rattle.shapes.specs.Circles as Circles
use Rattle.shapes.specs.Triangles as Triangles
use Rattle.rounded.specs.Roundings as Roundings
use Rattle.rounded.specs.Outlines as Rounded
use Rattle.ellipses.specs.Ellipses as Ellipses
use Rattle.ellipses.specs.Ovals as Ovals
use Rattle.marks.specs.declared.mark.Mark.{Mark}
use Rattle.marks.specs.declared.mark.Mark.TheVariants.{Rect, Circle, Triangle, RoundedRect, Ellipse}
use Rattle.marks.specs.declared.mark.MarkPath.{MarkPath}
use Rattle.marks.specs.declared.mark.MarkPath.TheVariants as On

abbrev pub wind : Mark → Point → ℤ
wind (Rect s) = Rects.wind s
wind (Circle s) = Circles.wind s
wind (Triangle s) = Triangles.wind s
wind (RoundedRect s) = Roundings.wind s
wind (Ellipse s) = Ellipses.wind s

abbrev pub box : Mark → Rectangle
box (Rect s) = Rects.box s
box (Circle s) = Circles.box s
box (Triangle s) = Triangles.box s
box (RoundedRect s) = Rounded.frame s
box (Ellipse s) = Ellipses.box s

abbrev pub drawn : Mark → Float → Drawn
drawn (Rect s) = Rects.drawn s
drawn (Circle s) = Circles.drawn s
drawn (Triangle s) = Triangles.drawn s
drawn (RoundedRect s) = Rounded.drawn s
drawn (Ellipse s) = Ovals.drawn s

-- what a cursor has still to give
abbrev pub rest : MarkPath → List PathEl
rest (On.Rect c) = Outlines.rest c
rest (On.Circle c) = Circles.rest c
rest (On.Triangle c) = Outlines.rest c
rest (On.RoundedRect c) = Rounded.rest c
rest (On.Ellipse c) = Ovals.rest c
