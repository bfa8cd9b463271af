-- The path of an ellipse: a start, and the curves of an arc that goes round it once. Assumes nothing.
use Rattle.std.specs.Prelude.{cond, List, ◌∷◌, None, Ok, Err, from_bits, Float}
use Rattle.std.specs.Float.{binary64}
use Rattle.std.specs.Float.Ieee.{mul}
use Rattle.elementary.specs.Angles.{pi}
use Rattle.plane.specs.declared.bezpath.PathEl.{PathEl}
use Rattle.plane.specs.declared.bezpath.PathEl.TheVariants.{MoveTo}
use Rattle.plane.specs.declared.fault.ShapeFault.TheVariants.{TooFine}
use Rattle.plane.specs.Affines.{radii_of, tilt_of, all_finite}
use Rattle.plane.specs.Paths.{Drawn, checked}
use Rattle.arcs.specs.declared.arc.Arc.{Arc}
use Rattle.arcs.specs.Arcs.{first_point, begun, fine_enough}
use Rattle.arcs.specs.Arcs as Arcs
use Rattle.ellipses.specs.declared.ellipse.Ellipse.{Ellipse}
use Rattle.ellipses.specs.declared.path.EllipsePath.{EllipsePath}
use Rattle.ellipses.specs.declared.path.Stage.{Stage}
use Rattle.ellipses.specs.declared.path.Stage.TheVariants.{Start, Curves}
use Rattle.ellipses.specs.Ellipses.{center_of}

-- from the angle 0 over 2π
abbrev pub whole_arc : Ellipse → Arc
whole_arc l = record {
  center = center_of l;
  radii = radii_of l.inner;
  start_angle = from_bits binary64 0;
  sweep_angle = mul binary64 (from_bits binary64 0x4000_0000_0000_0000) pi;
  x_rotation = tilt_of l.inner;
}

abbrev pub path : Ellipse → Float → List PathEl
path l t = MoveTo (first_point (whole_arc l)) ∷ Arcs.rest (begun (whole_arc l) t)

-- its parameters are its map's six numbers
abbrev pub drawn : Ellipse → Float → Drawn
drawn l t = checked t (all_finite l.inner) (cond (fine_enough (whole_arc l) t) (Ok (path l t)) (Err (TooFine None)))

-- what a cursor has still to give
abbrev pub rest_at : Stage → EllipsePath → List PathEl
rest_at Start k = MoveTo k.start ∷ Arcs.rest k.curves
rest_at Curves k = Arcs.rest k.curves

abbrev pub rest : EllipsePath → List PathEl
rest k = rest_at k.stage k
