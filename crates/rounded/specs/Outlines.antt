-- The path of a rounded rectangle: each corner's curves, and the sides between them. Assumes nothing.
use Rattle.std.specs.Prelude.{◌≡◌, ℕ, Bool, cond, not, ◌&&◌, T, List, [], ◌∷◌, ◌++◌, pos, Some, Ok, Err, Result, from_bits, Float}
use Rattle.std.specs.Float.{binary64}
use Rattle.std.specs.Float.Ieee.{of_int, add, sub, mul}
use Rattle.elementary.specs.Angles.{half_pi}
use Rattle.plane.specs.declared.point.Point.{Point}
use Rattle.plane.specs.declared.rect.Rect.{Rect}
use Rattle.plane.specs.declared.bezpath.PathEl.{PathEl}
use Rattle.plane.specs.declared.bezpath.PathEl.TheVariants.{MoveTo, LineTo, ClosePath}
use Rattle.plane.specs.declared.fault.Corner.{Corner}
use Rattle.plane.specs.declared.fault.Corner.TheVariants.{TopLeft, TopRight, BottomRight, BottomLeft}
use Rattle.plane.specs.declared.fault.CornerFault.{CornerFault}
use Rattle.plane.specs.declared.fault.ShapeFault.TheVariants.{TooFine}
use Rattle.plane.specs.Faults.{place_of}
use Rattle.plane.specs.Paths.{Drawn, checked}
use Rattle.plane.specs.Rects.{box, finite_sides}
use Rattle.plane.specs.Vectors.{point, vec2}
use Rattle.arcs.specs.declared.arc.Arc.{Arc}
use Rattle.arcs.specs.declared.arc.ArcPath.{ArcPath}
use Rattle.arcs.specs.Arcs.{fine_enough}
use Rattle.arcs.specs.Arcs as Arcs
use Rattle.rounded.specs.declared.rounded_rect.RoundedRect.{RoundedRect}
use Rattle.rounded.specs.declared.path.RoundedRectPath.{RoundedRectPath}
use Rattle.rounded.specs.declared.path.Stage.{Stage}
use Rattle.rounded.specs.declared.path.Stage.TheVariants as Stages
use Rattle.rounded.specs.Radii as Radii

abbrev pub frame : RoundedRect → Rect
frame s = box s.rect

abbrev pub all_finite : RoundedRect → Bool
all_finite s = finite_sides s.rect && Radii.all_finite s.radii

-- ---- the corners
-- a quarter of the circle about (x, y) with radius r, from that many quarter turns on
abbrev pub quarter_arc : Float → Float → Float → ℕ → Arc
quarter_arc x y r from = record {
  center = point x y;
  radii = vec2 r r;
  start_angle = mul binary64 half_pi (of_int binary64 (pos from));
  sweep_angle = half_pi;
  x_rotation = from_bits binary64 0;
}

-- the arc that rounds a corner
abbrev pub corner_arc : RoundedRect → Corner → Arc
corner_arc s TopLeft = quarter_arc (add binary64 s.rect.x0 s.radii.top_left) (add binary64 s.rect.y0 s.radii.top_left) s.radii.top_left 2
corner_arc s TopRight = quarter_arc (sub binary64 s.rect.x1 s.radii.top_right) (add binary64 s.rect.y0 s.radii.top_right) s.radii.top_right 3
corner_arc s BottomRight = quarter_arc (sub binary64 s.rect.x1 s.radii.bottom_right) (sub binary64 s.rect.y1 s.radii.bottom_right) s.radii.bottom_right 0
corner_arc s BottomLeft = quarter_arc (add binary64 s.rect.x0 s.radii.bottom_left) (sub binary64 s.rect.y1 s.radii.bottom_left) s.radii.bottom_left 1

-- where it begins, and the side before it ends
abbrev pub corner_start : RoundedRect → Corner → Point
corner_start s TopLeft = point s.rect.x0 (add binary64 s.rect.y0 s.radii.top_left)
corner_start s TopRight = point (sub binary64 s.rect.x1 s.radii.top_right) s.rect.y0
corner_start s BottomRight = point s.rect.x1 (sub binary64 s.rect.y1 s.radii.bottom_right)
corner_start s BottomLeft = point (add binary64 s.rect.x0 s.radii.bottom_left) s.rect.y1

-- a corner's curves, or its fault
abbrev pub Rounds : RoundedRect → Corner → Float → Result ArcPath CornerFault → Type 0
Rounds s corner t (Ok k) = T (fine_enough (corner_arc s corner) t) × (k ≡ Arcs.begun (corner_arc s corner) t)
Rounds s corner t (Err e) = T (not (fine_enough (corner_arc s corner) t)) × (e.corner ≡ place_of corner)

-- ---- the path
-- a corner's curves
abbrev pub curves_at : RoundedRect → Float → Corner → List PathEl
curves_at s t corner = Arcs.rest (Arcs.begun (corner_arc s corner) t)

-- each corner's curves, and the sides between them
abbrev pub path : RoundedRect → Float → List PathEl
path s t =
    MoveTo (corner_start s TopLeft)
    ∷ (curves_at s t TopLeft ++ (LineTo (corner_start s TopRight)
    ∷ (curves_at s t TopRight ++ (LineTo (corner_start s BottomRight)
    ∷ (curves_at s t BottomRight ++ (LineTo (corner_start s BottomLeft)
    ∷ (curves_at s t BottomLeft ++ (ClosePath ∷ []))))))))

-- ---- what a cursor has still to give, from each corner on
abbrev pub from_bottom_left : RoundedRectPath → List PathEl
from_bottom_left k = Arcs.rest k.bottom_left ++ (ClosePath ∷ [])

abbrev pub from_bottom_right : RoundedRectPath → List PathEl
from_bottom_right k = Arcs.rest k.bottom_right ++ (LineTo (corner_start k.of BottomLeft) ∷ from_bottom_left k)

abbrev pub from_top_right : RoundedRectPath → List PathEl
from_top_right k = Arcs.rest k.top_right ++ (LineTo (corner_start k.of BottomRight) ∷ from_bottom_right k)

abbrev pub from_top_left : RoundedRectPath → List PathEl
from_top_left k = Arcs.rest k.top_left ++ (LineTo (corner_start k.of TopRight) ∷ from_top_right k)

abbrev pub rest_at : Stage → RoundedRectPath → List PathEl
rest_at Stages.Start k = MoveTo (corner_start k.of TopLeft) ∷ from_top_left k
rest_at Stages.TopLeft k = from_top_left k
rest_at Stages.TopRight k = from_top_right k
rest_at Stages.BottomRight k = from_bottom_right k
rest_at Stages.BottomLeft k = from_bottom_left k
rest_at Stages.Done k = []

abbrev pub rest : RoundedRectPath → List PathEl
rest k = rest_at k.stage k

-- a cursor before the path
abbrev pub begun : RoundedRect → Float → RoundedRectPath
begun s t = record {
  of = s;
  stage = Stages.Start;
  top_left = Arcs.begun (corner_arc s TopLeft) t;
  top_right = Arcs.begun (corner_arc s TopRight) t;
  bottom_right = Arcs.begun (corner_arc s BottomRight) t;
  bottom_left = Arcs.begun (corner_arc s BottomLeft) t;
}

-- TOO FINE at the first corner whose arc is, or what follows
abbrev pub cornered : RoundedRect → Float → Corner → Drawn → Drawn
cornered s t corner d = cond (fine_enough (corner_arc s corner) t) d (Err (TooFine (Some (place_of corner))))

abbrev pub drawn : RoundedRect → Float → Drawn
drawn s t = checked t (all_finite s) (cornered s t TopLeft (cornered s t TopRight (cornered s t BottomRight (cornered s t BottomLeft (Ok (path s t))))))
