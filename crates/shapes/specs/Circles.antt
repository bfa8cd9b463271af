-- Circles: their box and winding as computed, for all floats; and the rule on the grid, over whole numbers. Assumes nothing.
use Rattle.std.specs.Prelude.{◌≡◌, ℕ, zero, suc, ◌-◌, Bool, false, cond, not, ◌&&◌, T, List, [], ◌∷◌, ℤ, pos, ◌+ℤ◌, ◌-ℤ◌, ◌*ℤ◌, ◌<ℤ◌, None, Ok, Err, Result, ◌==◌, from_bits, Float}
use Rattle.std.specs.Float.Ieee.{of_int, add, sub, mul, div, lt, fits, to_unsigned}
use Rattle.std.specs.Float.{float_with_sign, float_is_finite, ceil, binary64}
use Rattle.elementary.specs.SixthRoots.{sixth_root_of}
use Rattle.elementary.specs.Angles.{half_pi, sin_cos, tangent}
use Rattle.floats.specs.Page.{Grid}
use Rattle.plane.specs.declared.point.Point.{Point}
use Rattle.plane.specs.declared.rect.Rect.{Rect}
use Rattle.plane.specs.Points.{GridPoint}
use Rattle.plane.specs.Rects.{rect}
use Rattle.plane.specs.declared.bezpath.PathEl.{PathEl}
use Rattle.plane.specs.declared.bezpath.PathEl.TheVariants.{MoveTo, CurveTo, ClosePath}
use Rattle.plane.specs.declared.fault.ShapeFault.TheVariants.{TooFine}
use Rattle.plane.specs.Paths.{Drawn, checked, stretched, fine_enough as fine}
use Rattle.plane.specs.Vectors.{point, from_to, dot}
use Rattle.plane.specs.Winding.{Gives}
use Rattle.shapes.specs.declared.circle.Circle.{Circle}
use Rattle.shapes.specs.declared.circle.CirclePath.{CirclePath}
use Rattle.shapes.specs.declared.circle.CircleStage.{CircleStage}
use Rattle.shapes.specs.declared.circle.Division.{Division}
use Rattle.plane.specs.declared.fault.ArcFault.{ArcFault}
use Rattle.shapes.specs.declared.circle.CircleStage.TheVariants.{Start, Curves, Done}

abbrev pub circle : Point → Float → Circle
circle c r = record { center = c; radius = r }

-- the float nearest to π
abbrev pub π : Float
π = from_bits binary64 0x4009_21fb_5444_2d18

-- ---- as computed
abbrev pub around : Float → Float → Float → Rect
around x y r = rect (sub binary64 x r) (sub binary64 y r) (add binary64 x r) (add binary64 y r)

abbrev pub box : Circle → Rect
box c = around c.center.x c.center.y (float_with_sign false c.radius)

-- The square of the distance from the centre is below that of the radius. The radius is an `f64`, as in every circle that a program
-- holds: the logic's floats are more, and what is said here is said of any of them.
abbrev pub nearer : Circle → Point → Bool
nearer c p = fits binary64 c.radius && lt (dot (from_to c.center p) (from_to c.center p)) (mul binary64 c.radius c.radius)

abbrev pub wind : Circle → Point → ℤ
wind c p = cond (nearer c p) (pos 1) (pos 0)

-- ---- length and path
abbrev pub two : Float
two = from_bits binary64 0x4000_0000_0000_0000

-- the size of 2π × radius
abbrev pub length_of : Circle → Float
length_of c = float_with_sign false (mul binary64 (mul binary64 two π) c.radius)

abbrev pub all_finite : Circle → Bool
all_finite c = float_is_finite c.center.x && (float_is_finite c.center.y && float_is_finite c.radius)

-- the size of the radius in tolerances
abbrev pub scaled_error : Circle → Float → Float
scaled_error c t = div binary64 (float_with_sign false c.radius) t

-- four curves do where the size is below 1 / 1.9608e-4 tolerances
abbrev pub coarse : Circle → Float → Bool
coarse c t = lt (scaled_error c t) (div binary64 (from_bits binary64 0x3ff0_0000_0000_0000) (from_bits binary64 0x3f29_b35a_5ff2_d9d2))

-- how many curves, and how long their arms are: 0.551915024494, or 4 / 3 of a tangent
abbrev pub curve_count : Circle → Float → ℕ
curve_count c t = cond (coarse c t) 4 (to_unsigned 32 (ceil binary64 (sixth_root_of (stretched (scaled_error c t)))))

abbrev pub fine_arm : ℕ → Float
fine_arm n = mul binary64 (div binary64 (from_bits binary64 0x4010_0000_0000_0000) (from_bits binary64 0x4008_0000_0000_0000)) (tangent (div binary64 half_pi (of_int binary64 (pos n))))

abbrev pub arm_length : Circle → Float → Float
arm_length c t = cond (coarse c t) (from_bits binary64 0x3fe1_a949_b28b_edb9) (fine_arm (curve_count c t))

-- (x + r × u, y + r × v)
abbrev pub on_circle : Circle → Float → Float → Point
on_circle c u v = point (add binary64 c.center.x (mul binary64 c.radius u)) (add binary64 c.center.y (mul binary64 c.radius v))

-- the curve from the angle whose sine and cosine are s0, c0 to that of s1, c1, with arms of length a
abbrev pub curve_between : Circle → Float → Float × Float → Float × Float → PathEl
curve_between c a from to =
    CurveTo (on_circle c (sub binary64 from.1 (mul binary64 a from.0)) (add binary64 from.0 (mul binary64 a from.1)))
    (on_circle c (add binary64 to.1 (mul binary64 a to.0)) (sub binary64 to.0 (mul binary64 a to.1)))
    (on_circle c to.1 to.0)

-- the angle at which the curve i ends, its sine and its cosine: the last ends where the first began
abbrev pub end_angle : Float → ℕ → Float
end_angle step i = mul binary64 step (of_int binary64 (pos i))

abbrev pub end_at : Float → ℕ → ℕ → Float × Float
end_at step n i = cond (i == n) (from_bits binary64 0, from_bits binary64 0x3ff0_0000_0000_0000) (sin_cos (end_angle step i))

-- the curve i of n, each over the angle `step`
unfoldable pub curve : Circle → Float → Float → ℕ → ℕ → PathEl
curve c step a n i = curve_between c a (sin_cos (sub binary64 (end_angle step i) step)) (end_at step n i)

-- `more` curves from the curve i on, and the close
abbrev pub curves : Circle → Float → Float → ℕ → ℕ → ℕ → List PathEl
curves c step a n i zero = ClosePath ∷ []
curves c step a n i (suc more) = curve c step a n i ∷ curves c step a n (suc i) more

-- 2π over n
abbrev pub step_of : ℕ → Float
step_of n = div binary64 (mul binary64 two π) (of_int binary64 (pos n))

abbrev pub start : Circle → PathEl
start c = MoveTo (point (add binary64 c.center.x c.radius) c.center.y)

abbrev pub path : Circle → Float → ℕ → List PathEl
path c a n = start c ∷ curves c (step_of n) a n 1 n

-- TOO FINE where 1.1163 × the size in tolerances is above 2 ^ 36, or not-a-number
abbrev pub fine_enough : Circle → Float → Bool
fine_enough c t = fine (scaled_error c t)

-- the curves that a tolerance asks for, or the refusal
abbrev pub Divides : Circle → Float → Result Division ArcFault → Type 0
Divides c t (Ok d) = T (fine_enough c t) × (d.n ≡ curve_count c t) × (d.arm_len ≡ arm_length c t)
Divides c t (Err e) = T (not (fine_enough c t))

abbrev pub drawn : Circle → Float → Drawn
drawn c t = checked t (all_finite c) (cond (fine_enough c t) (Ok (path c (arm_length c t) (curve_count c t))) (Err (TooFine None)))

-- what a cursor has still to give
abbrev pub rest_at : CircleStage → CirclePath → List PathEl
rest_at Start k = start k.circle ∷ curves k.circle k.delta_th k.arm_len k.n k.ix (suc k.n - k.ix)
rest_at Curves k = curves k.circle k.delta_th k.arm_len k.n k.ix (suc k.n - k.ix)
rest_at Done k = []

abbrev pub rest : CirclePath → List PathEl
rest k = rest_at k.stage k

-- ---- on the grid
-- c's centre is (a / 256, b / 256) and its radius q / 256, each in the field
pub record GridCircle (c : Circle) (a b q : ℤ) : Type 0 where
  pub center : GridPoint c.center a b
  pub radius : Grid c.radius q

-- A circle holds the points with dx² + dy² < r².
abbrev pub RuleOfCircle : ℤ → ℤ → ℤ → ℤ → ℤ → ℤ → Type 0
RuleOfCircle a b q u v w = Gives (((u -ℤ a) *ℤ (u -ℤ a) +ℤ (v -ℤ b) *ℤ (v -ℤ b)) <ℤ (q *ℤ q)) (pos 1) w
