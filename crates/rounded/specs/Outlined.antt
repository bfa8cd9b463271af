-- What a rounded rectangle draws, corner by corner, and that its path is well formed. Assumes nothing.
use Rattle.std.specs.Prelude.{Bool, true, false, cond, T, [], ◌∷◌, Some, Ok, Err, Float}
use Rattle.plane.specs.declared.bezpath.PathEl.TheVariants.{LineTo, ClosePath}
use Rattle.plane.specs.declared.fault.Corner.{Corner}
use Rattle.plane.specs.declared.fault.Corner.TheVariants.{TopLeft, TopRight, BottomRight, BottomLeft}
use Rattle.plane.specs.declared.fault.ShapeFault.TheVariants.{TooFine}
use Rattle.plane.specs.Faults.{place_of}
use Rattle.plane.specs.Paths.{Drawn, WellDrawn, formed}
use Rattle.plane.specs.Formed.{checked_well}
use Rattle.arcs.specs.Arcs.{fine_enough}
use Rattle.arcs.proofs.Pieces.{curves_formed}
use Rattle.rounded.specs.declared.path.RoundedRectPath.{RoundedRectPath}
use Rattle.rounded.specs.declared.rounded_rect.RoundedRect.{RoundedRect}
use Rattle.rounded.specs.Outlines.{drawn, path, begun, cornered, all_finite, corner_arc, corner_start, from_bottom_left, from_bottom_right, from_top_right, from_top_left}

cornered_well : (s : RoundedRect) (t : Float) (corner : Corner) (d : Drawn) → WellDrawn d → WellDrawn (cornered s t corner d)
cornered_well s t corner d h = of (fine_enough (corner_arc s corner) t)
  where
    of : (b : Bool) → WellDrawn (cond b d (Err (TooFine (Some (place_of corner)))))
    of true = h
    of false = tt

-- the path from each corner on
formed_bottom_left : (k : RoundedRectPath) → T (formed true (from_bottom_left k))
formed_bottom_left k = curves_formed k.bottom_left.left k.bottom_left (ClosePath ∷ []) tt

formed_bottom_right : (k : RoundedRectPath) → T (formed true (from_bottom_right k))
formed_bottom_right k = curves_formed k.bottom_right.left k.bottom_right (LineTo (corner_start k.of BottomLeft) ∷ from_bottom_left k) (formed_bottom_left k)

formed_top_right : (k : RoundedRectPath) → T (formed true (from_top_right k))
formed_top_right k = curves_formed k.top_right.left k.top_right (LineTo (corner_start k.of BottomRight) ∷ from_bottom_right k) (formed_bottom_right k)

formed_top_left : (k : RoundedRectPath) → T (formed true (from_top_left k))
formed_top_left k = curves_formed k.top_left.left k.top_left (LineTo (corner_start k.of TopRight) ∷ from_top_right k) (formed_top_right k)

pub rounded_formed : (s : RoundedRect) (t : Float) → WellDrawn (drawn s t)
rounded_formed s t =
    checked_well t (all_finite s) _
    (cornered_well s t TopLeft _
    (cornered_well s t TopRight _
    (cornered_well s t BottomRight _
    (cornered_well s t BottomLeft (Ok (path s t)) (formed_top_left (begun s t))))))
