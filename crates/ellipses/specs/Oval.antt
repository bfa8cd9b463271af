-- The winding of an ellipse keeps the laws of windings, and its path is well formed. Assumes nothing.
use Rattle.std.specs.Prelude.{◌≡◌, Bool, true, false, cond, None, Ok, Err, Float}
use Rattle.std.proofs.Common.{sym}
use Rattle.floats.proofs.Alike.{zeros_agree}
use Rattle.plane.specs.declared.affine.Affine.{Affine}
use Rattle.plane.specs.declared.point.Point.{Point}
use Rattle.plane.specs.Affines.{one, image, back, all_finite}
use Rattle.plane.specs.Paths.{WellDrawn}
use Rattle.plane.specs.declared.fault.ShapeFault.TheVariants.{TooFine}
use Rattle.plane.specs.Formed.{checked_well}
use Rattle.arcs.specs.Arcs.{begun, fine_enough}
use Rattle.arcs.proofs.Pieces.{curves_alone}
use Rattle.plane.specs.Points.{Same}
use Rattle.plane.specs.Vectors.{vec2, dot}
use Rattle.plane.specs.Winding.{Lawful}
use Rattle.plane.specs.Enclosed.{enclosed_lawful}
use Rattle.plane.specs.Equals.{SameVec, alike_refl, dot_same}
use Rattle.ellipses.specs.declared.ellipse.Ellipse.{Ellipse}
use Rattle.ellipses.specs.Ovals.{whole_arc, path, drawn}
use Rattle.ellipses.specs.Ellipses.{box, in_unit_circle, wind}

-- ---- at equal points
-- a map sends equal points to equal points
pub same_image : (m : Affine) (p q : Point) → Same p q → Same (image m p) (image m q)
same_image m p q s = record {
  x = zeros_agree.of_add _ _ _ _ (zeros_agree.of_add _ _ _ _ (zeros_agree.of_mul _ _ _ _ (alike_refl m.a) s.x) (zeros_agree.of_mul _ _ _ _ (alike_refl m.c) s.y)) (alike_refl m.e);
  y = zeros_agree.of_add _ _ _ _ (zeros_agree.of_add _ _ _ _ (zeros_agree.of_mul _ _ _ _ (alike_refl m.b) s.x) (zeros_agree.of_mul _ _ _ _ (alike_refl m.d) s.y)) (alike_refl m.f);
}

same_circle : (p q : Point) → Same p q → in_unit_circle p ≡ in_unit_circle q
same_circle p q s =
    let v = vec2 p.x p.y in
    let w = vec2 q.x q.y in
    let S : SameVec v w = record { x = s.x; y = s.y } in
    zeros_agree.of_lt (dot v v) (dot w w) one one (dot_same v w v w S S) (alike_refl one)

-- ---- the laws
same_held : (l : Ellipse) (p q : Point) → Same p q → in_unit_circle (image (back l.inner) q) ≡ in_unit_circle (image (back l.inner) p)
same_held l p q s = sym (same_circle _ _ (same_image (back l.inner) p q s))

pub ellipse_lawful : (l : Ellipse) (p : Point) → Lawful (wind l) (box l) p
ellipse_lawful l = enclosed_lawful (box l) (λ p. in_unit_circle (image (back l.inner) p)) (same_held l)

-- ---- the path
pub ellipse_formed : (l : Ellipse) (t : Float) → WellDrawn (drawn l t)
ellipse_formed l t = checked_well t (all_finite l.inner) _ (of (fine_enough (whole_arc l) t))
  where
    of : (b : Bool) → WellDrawn (cond b (Ok (path l t)) (Err (TooFine None)))
    of true = curves_alone (begun (whole_arc l) t).left (begun (whole_arc l) t)
    of false = tt
