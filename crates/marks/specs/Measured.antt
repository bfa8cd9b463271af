-- The area, the length and the box of a mark. Assumes nothing.
use Rattle.std.specs.Prelude.{ℕ, Some, None, Ok, Err, Result, Float}
use Rattle.std.specs.Float.{binary64}
use Rattle.std.specs.Float.Ieee.{mul}
use Rattle.plane.specs.declared.fault.ShapeFault.{ShapeFault}
use Rattle.plane.specs.declared.rect.Rect.{Rect as Rectangle}
use Rattle.plane.specs.Affines.{radii_of}
use Rattle.plane.specs.Rects as Rects
use Rattle.shapes.specs.Circles as Circles
use Rattle.shapes.specs.Triangles as Triangles
use Rattle.rounded.specs.Roundings as Roundings
use Rattle.ellipses.specs.declared.ellipse.Ellipse.{Ellipse as Oval}
use Rattle.ellipses.specs.Ellipses as Ellipses
use Rattle.ellipses.specs.Lengths as Lengths
use Rattle.marks.specs.declared.mark.Mark.{Mark}
use Rattle.marks.specs.declared.mark.Mark.TheVariants.{Rect, Circle, Triangle, RoundedRect, Ellipse}
use Rattle.marks.specs.declared.measures.Measures.{Measures}
use Rattle.marks.specs.Marks.{box}

-- measures that take no steps
abbrev pub plain : Float → Float → Rectangle → Measures
plain a l b = record { area = a; perimeter = l; bounding_box = b; steps = None }

-- measures with a length and the steps that it took, or the length's refusal
abbrev pub stepped : Float → Rectangle → Lengths.Length → Result Measures ShapeFault
stepped a b (Ok l) = Ok (record { area = a; perimeter = l.0; bounding_box = b; steps = Some l.1 })
stepped a b (Err e) = Err e

abbrev pub oval_measures : Oval → Float → ℕ → Result Measures ShapeFault
oval_measures s accuracy allowance = stepped (Ellipses.area_of s) (Ellipses.box s) (Lengths.length_of (radii_of s.inner) accuracy allowance)

-- The box is the mark's. The area is signed where the shape's is. Only the length of an ellipse is found within an accuracy and an allowance of steps.
abbrev pub measures_of : Mark → Float → ℕ → Result Measures ShapeFault
measures_of (Rect s) accuracy allowance = Ok (plain (Rects.area_of s) (Rects.length_of s) (box (Rect s)))
measures_of (Circle s) accuracy allowance = Ok (plain (mul binary64 Circles.π (mul binary64 s.radius s.radius)) (Circles.length_of s) (box (Circle s)))
measures_of (Triangle s) accuracy allowance = Ok (plain (mul binary64 Triangles.half (Triangles.area2 s)) (Triangles.length_of s) (box (Triangle s)))
measures_of (RoundedRect s) accuracy allowance = Ok (plain (Roundings.area_of s) (Roundings.length_of s) (box (RoundedRect s)))
measures_of (Ellipse s) accuracy allowance = oval_measures s accuracy allowance
