-- Arcs of ellipses: where they begin, into how many curves they are cut, and each curve's points. Assumes nothing.
use Rattle.std.specs.Prelude.{◌≡◌, ℕ, zero, suc, Bool, false, not, T, List, [], ◌∷◌, Ok, Err, Result, from_bits, Float}
use Rattle.std.specs.Float.Ieee.{add, sub, mul, div, to_unsigned}
use Rattle.std.specs.Float.{float_with_sign, float_signum, float_max, ceil, binary64}
use Rattle.elementary.specs.SixthRoots.{sixth_root_of}
use Rattle.elementary.specs.Angles.{half_pi, pi, sin_cos, tangent}
use Rattle.plane.specs.declared.point.Point.{Point}
use Rattle.plane.specs.declared.vec2.Vec2.{Vec2}
use Rattle.plane.specs.declared.bezpath.PathEl.{PathEl}
use Rattle.plane.specs.declared.bezpath.PathEl.TheVariants.{CurveTo}
use Rattle.plane.specs.declared.fault.ArcFault.{ArcFault}
use Rattle.plane.specs.Paths.{stretched, fine_enough as fine}
use Rattle.plane.specs.Vectors.{point, vec2}
use Rattle.arcs.specs.declared.arc.Arc.{Arc}
use Rattle.arcs.specs.declared.arc.ArcPath.{ArcPath}

-- ---- points of an ellipse
-- v, turned by the angle with this sine and cosine
abbrev pub turned_by : Float × Float → Vec2 → Vec2
turned_by sc v =
    vec2 (sub binary64 (mul binary64 v.x sc.1) (mul binary64 v.y sc.0))
    (add binary64 (mul binary64 v.x sc.0) (mul binary64 v.y sc.1))

abbrev pub rotated : Vec2 → Float → Vec2
rotated v th = turned_by (sin_cos th) v

-- the point at an angle, from the centre
unfoldable pub sampled : Vec2 → Float → Float → Vec2
sampled radii rotation th = rotated (vec2 (mul binary64 radii.x (sin_cos th).1) (mul binary64 radii.y (sin_cos th).0)) rotation

abbrev pub placed : Point → Vec2 → Point
placed p v = point (add binary64 p.x v.x) (add binary64 p.y v.y)

abbrev pub plus_times : Vec2 → Vec2 → Float → Vec2
plus_times p v by = vec2 (add binary64 p.x (mul binary64 v.x by)) (add binary64 p.y (mul binary64 v.y by))

abbrev pub minus_times : Vec2 → Vec2 → Float → Vec2
minus_times p v by = vec2 (sub binary64 p.x (mul binary64 v.x by)) (sub binary64 p.y (mul binary64 v.y by))

-- where an arc begins
abbrev pub first_point : Arc → Point
first_point a = placed a.center (sampled a.radii a.x_rotation (add binary64 a.start_angle (mul binary64 a.sweep_angle (from_bits binary64 0))))

-- ---- into how many curves
-- the larger radius in tolerances
abbrev pub scaled_error : Arc → Float → Float
scaled_error a t = div binary64 (float_max a.radii.x a.radii.y) t

-- 1 / 2π
abbrev pub turn_over : Float
turn_over = div binary64 (from_bits binary64 0x3ff0_0000_0000_0000) (mul binary64 (from_bits binary64 0x4000_0000_0000_0000) pi)

-- the sixth root, or 3.999999 if that is more, for a whole turn: rounded up for the angle covered
abbrev pub divided : Float → Float → Float
divided e sweep = ceil binary64 (mul binary64 (mul binary64 (float_max (sixth_root_of e) (from_bits binary64 0x400f_ffff_79c8_42fa)) (float_with_sign false sweep)) turn_over)

-- 4 / 3 of the tangent of a quarter of the angle, with the sign of the angle covered
abbrev pub arm_of : Float → Float → Float
arm_of step sweep =
    mul binary64 (mul binary64 (div binary64 (from_bits binary64 0x4010_0000_0000_0000) (from_bits binary64 0x4008_0000_0000_0000)) (tangent (float_with_sign false (mul binary64 (from_bits binary64 0x3fd0_0000_0000_0000) step)))) (float_signum sweep)

-- ---- the curves
-- the curve from where the cursor stands to p3, at the angle th
abbrev pub curve_from : ArcPath → Float → Vec2 → PathEl
curve_from k th p3 =
    CurveTo (placed k.arc.center (plus_times k.p0 (sampled k.arc.radii k.arc.x_rotation (add binary64 k.angle0 half_pi)) k.arm_len))
    (placed k.arc.center (minus_times p3 (sampled k.arc.radii k.arc.x_rotation (add binary64 th half_pi)) k.arm_len))
    (placed k.arc.center p3)

-- the angle and the point at which that curve ends
abbrev pub next_angle : ArcPath → Float
next_angle k = add binary64 k.angle0 k.angle_step

abbrev pub next_point : ArcPath → Vec2
next_point k = sampled k.arc.radii k.arc.x_rotation (next_angle k)

-- the cursor after that curve, with `left` to come
abbrev pub moved_on : ArcPath → ℕ → ArcPath
moved_on k left = record {
  arc = k.arc;
  arm_len = k.arm_len;
  angle_step = k.angle_step;
  left = left;
  p0 = next_point k;
  angle0 = next_angle k;
}

-- that many curves from where the cursor stands
abbrev pub curves : ℕ → ArcPath → List PathEl
curves zero k = []
curves (suc left) k = curve_from k (next_angle k) (next_point k) ∷ curves left (moved_on k left)

abbrev pub rest : ArcPath → List PathEl
rest k = curves k.left k

-- ---- the cursor that an arc gives
abbrev pub begun : Arc → Float → ArcPath
begun a t = record {
  arc = a;
  arm_len = arm_of (div binary64 a.sweep_angle (divided (stretched (scaled_error a t)) a.sweep_angle)) a.sweep_angle;
  angle_step = div binary64 a.sweep_angle (divided (stretched (scaled_error a t)) a.sweep_angle);
  left = to_unsigned 32 (divided (stretched (scaled_error a t)) a.sweep_angle);
  p0 = sampled a.radii a.x_rotation a.start_angle;
  angle0 = a.start_angle;
}

-- TOO FINE where 1.1163 × the larger radius in tolerances is above 2 ^ 36, or not-a-number
abbrev pub fine_enough : Arc → Float → Bool
fine_enough a t = fine (scaled_error a t)

abbrev pub Begins : Arc → Float → Result ArcPath ArcFault → Type 0
Begins a t (Ok k) = T (fine_enough a t) × (k ≡ begun a t)
Begins a t (Err e) = T (not (fine_enough a t))
