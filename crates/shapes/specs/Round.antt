-- The winding of a circle keeps the laws of windings, and is the whole-number rule on the grid. Assumes nothing.
use Rattle.std.specs.Prelude.{◌≡◌, ◌∷◌, ℕ, zero, suc, ◌+◌, ◌-◌, ◌≤◌, Bool, true, false, cond, ◌&&◌, T, ℤ, pos, ◌+ℤ◌, ◌-ℤ◌, ◌*ℤ◌, ◌<ℤ◌, None, Ok, Err, ◌≢◌, int_lt, unsigned_abs, refl, Float}
use Rattle.std.proofs.Common.{sym, ap, ◌∙◌, subst, inl, inr, arith, lit<, lit≤, lt_of_le_of_lt}
use Rattle.std.proofs.Math.Dec.{not_T}
use Rattle.std.specs.Float.Ieee.Fits.{and_l, and_r}
use Rattle.floats.proofs.Canonical.{canonical, equal_sub, equal_le, le_equal}
use Rattle.plane.specs.declared.fault.ShapeFault.TheVariants.{TooFine}
use Rattle.plane.specs.declared.bezpath.PathEl.{PathEl}
use Rattle.plane.specs.Paths.{formed, WellDrawn}
use Rattle.plane.specs.Formed.{checked_well}
use Rattle.std.specs.Float.Ieee.{add, sub, mul, neg, lt, fits}
use Rattle.std.specs.Float.Ieee.Scale.{finite}
use Rattle.std.specs.Float.{float_with_sign, nan, inf, fin, binary64}
use Rattle.std.specs.Float.Order.{le_of_not-lt}
use Rattle.std.specs.Bool.{passes}
use Rattle.floats.proofs.Alike.{zeros_agree}
use Rattle.floats.proofs.Bounded.{in_add, in_sub, in_mul, in_abs, in_lt}
use Rattle.floats.proofs.Sizes.{is_finite, abs_from_zero}
use Rattle.floats.proofs.Distances.{beyond_x, beyond_y}
use Rattle.floats.proofs.Sums.{sub_number, add_number, finite_number}
use Rattle.plane.specs.declared.point.Point.{Point}
use Rattle.plane.specs.Points.{GridPoint, FieldPoint, Same, FiniteBox, InBox}
use Rattle.plane.specs.Rects.{Sides}
use Rattle.plane.specs.Vectors.{point, from_to, dot}
use Rattle.plane.specs.Winding.{Gives, IsWinding, Lawful}
use Rattle.plane.specs.Equals.{SameVec, to_same, dot_same, alike_refl}
use Rattle.shapes.specs.declared.circle.Circle.{Circle}
use Rattle.shapes.specs.Circles.{box, nearer, wind, GridCircle, RuleOfCircle, curve, curves, step_of, path, arm_length, curve_count, fine_enough, all_finite, drawn}

-- ---- the laws
small : (t : Bool) → IsWinding (cond t (pos 1) (pos 0))
small true = inr (inr refl)
small false = inr (inl refl)

-- the square of the distance does not see zero signs
same_nearer : (c : Circle) (p q : Point) → Same p q → nearer c q ≡ nearer c p
same_nearer c p q s =
    let d = to_same c.center p q s in
    λ i. fits binary64 c.radius && zeros_agree.of_lt _ _ _ _ (dot_same _ _ _ _ d d) (alike_refl (mul binary64 c.radius c.radius)) i

-- ---- the box
-- a difference and a sum are finite only of finite floats
finite_sub : (x r : Float) → T (finite (sub binary64 x r)) → T (finite x) × T (finite r)
unfolding sub add neg
finite_sub nan r h = absurd h
finite_sub (inf s) nan h = absurd h
finite_sub (inf true) (inf true) h = absurd h
finite_sub (inf true) (inf false) h = absurd h
finite_sub (inf false) (inf true) h = absurd h
finite_sub (inf false) (inf false) h = absurd h
finite_sub (inf s) (fin t n d) h = absurd h
finite_sub (fin s m e) nan h = absurd h
finite_sub (fin s m e) (inf t) h = absurd h
finite_sub (fin s m e) (fin t n d) h = (tt, tt)

-- the size of the radius has its square, and fits where it does
square_size : (r : Float) → mul binary64 r r ≡ mul binary64 (float_with_sign false r) (float_with_sign false r)
unfolding mul float_with_sign
square_size nan = refl
square_size (inf true) = refl
square_size (inf false) = refl
square_size (fin true m e) = refl
square_size (fin false m e) = refl

size_fits : (r : Float) → T (fits binary64 r) → T (fits binary64 (float_with_sign false r))
unfolding fits float_with_sign
size_fits nan h = h
size_fits (inf s) h = h
size_fits (fin s zero e) h = h
size_fits (fin s (suc m) e) h = h

held_boxed : (c : Circle) (p : Point) → T (fits binary64 c.radius) → T (fits binary64 p.x) → T (fits binary64 p.y) → FiniteBox (box c) → T (finite p.x) → T (finite p.y) → T (lt (dot (from_to c.center p) (from_to c.center p)) (mul binary64 c.radius c.radius)) → InBox (box c) p
held_boxed c p FR FP FQ f P Q t =
    let x = c.center.x in
    let y = c.center.y in
    let r = float_with_sign false c.radius in
    let FX = finite_sub x r f.x0 in
    let FY = finite_sub y r f.y0 in
    let X = FX.0 in
    let Y = FY.0 in
    let R = FX.1 in
    let near : T (lt (dot (from_to c.center p) (from_to c.center p)) (mul binary64 r r)) = subst (λ (z : Float). T (lt (dot (from_to c.center p) (from_to c.center p)) z)) (square_size c.radius) t in
    let bx = beyond_x binary64 x y r p.x p.y X Y R P Q (size_fits c.radius FR) FP FQ (abs_from_zero c.radius (finite_number r R)) in
    let by = beyond_y binary64 x y r p.x p.y X Y R P Q (size_fits c.radius FR) FP FQ (abs_from_zero c.radius (finite_number r R)) in
    record {
      left = le_of_not-lt p.x (sub binary64 x r) (finite_number p.x P) (sub_number binary64 x r X R) (not_T _ (λ h. bx (inl h) near));
      right = le_of_not-lt (add binary64 x r) p.x (add_number binary64 x r X R) (finite_number p.x P) (not_T _ (λ h. bx (inr h) near));
      low = le_of_not-lt p.y (sub binary64 y r) (finite_number p.y Q) (sub_number binary64 y r Y R) (not_T _ (λ h. by (inl h) near));
      high = le_of_not-lt (add binary64 y r) p.y (add_number binary64 y r Y R) (finite_number p.y Q) (not_T _ (λ h. by (inr h) near));
    }

-- any point of the field's grid: the `f64` that equals it has the same distances and the same place
boxed : (c : Circle) (p : Point) → FiniteBox (box c) → FieldPoint p → T (nearer c p) → InBox (box c) p
boxed c p f g t =
    let FR = and_l (fits binary64 c.radius) _ t in
    let near = and_r (fits binary64 c.radius) (lt (dot (from_to c.center p) (from_to c.center p)) (mul binary64 c.radius c.radius)) t in
    let gx = g.2.x in
    let gy = g.2.y in
    let u = canonical p.x g.0 8 (lit≤ tt) (lt_of_le_of_lt gx.size (lit< tt)) gx.val in
    let v = canonical p.y g.1 8 (lit≤ tt) (lt_of_le_of_lt gy.size (lit< tt)) gy.val in
    let P = is_finite p.x _ _ gx.val in
    let Q = is_finite p.y _ _ gy.val in
    let X = (finite_sub c.center.x (float_with_sign false c.radius) f.x0).0 in
    let Y = (finite_sub c.center.y (float_with_sign false c.radius) f.y0).0 in
    let p' = point u.y v.y in
    let d : SameVec (from_to c.center p) (from_to c.center p') = record { x = equal_sub p.x u.y c.center.x P X u.equal; y = equal_sub p.y v.y c.center.y Q Y v.equal } in
    let b = held_boxed c p' FR u.held v.held f u.number v.number (subst T (zeros_agree.of_lt _ _ _ _ (dot_same _ _ _ _ d d) (alike_refl (mul binary64 c.radius c.radius))) near) in
    record {
      left = subst T (sym (le_equal p.x u.y (box c).x0 P f.x0 u.equal)) b.left;
      right = subst T (sym (equal_le p.x u.y (box c).x1 P f.x1 u.equal)) b.right;
      low = subst T (sym (le_equal p.y v.y (box c).y0 Q f.y0 v.equal)) b.low;
      high = subst T (sym (equal_le p.y v.y (box c).y1 Q f.y1 v.equal)) b.high;
    }

held : (t : Bool) → (cond t (pos 1) (pos 0) ≢ pos 0) → T t
held true n = tt
held false n = absurd (n refl)

pub circle_lawful : (c : Circle) (p : Point) → Lawful (wind c) (box c) p
circle_lawful c p = record {
  small = small (nearer c p);
  same = λ q s. ap (λ (t : Bool). cond t (pos 1) (pos 0)) (same_nearer c p q s);
  boxed = λ f g n. boxed c p f g (held (nearer c p) n);
}

-- ---- the path
-- one curve less
pub next_curve : (c : Circle) (step a : Float) (n i : ℕ) (e : PathEl) → i ≤ n → e ≡ curve c step a n i → curves c step a n i (suc n - i) ≡ e ∷ curves c step a n (i + 1) (suc n - (i + 1))
next_curve c step a n i e h q =
    let left : suc n - i ≡ suc (n - i) = omega arith in
    let after : suc n - (i + 1) ≡ n - i = omega arith in
    let next : i + 1 ≡ suc i = omega arith in
    ap (curves c step a n i) left ∙ sym (λ j. q j ∷ curves c step a n (next j) (after j))

curves_formed : (c : Circle) (step a : Float) (n i more : ℕ) → T (formed true (curves c step a n i more))
unfolding curve
curves_formed c step a n i zero = tt
curves_formed c step a n i (suc more) = curves_formed c step a n (suc i) more

pub circle_formed : (c : Circle) (t : Float) → WellDrawn (drawn c t)
circle_formed c t = checked_well t (all_finite c) _ (of (fine_enough c t))
  where
    of : (b : Bool) → WellDrawn (cond b (Ok (path c (arm_length c t) (curve_count c t))) (Err (TooFine None)))
    of true = curves_formed c (step_of (curve_count c t)) (arm_length c t) (curve_count c t) 1 (curve_count c t)
    of false = tt

-- ---- on the grid
T_true : (b : Bool) → T b → b ≡ true
T_true true h = refl
T_true false h = absurd h

pub circle_rule : (c : Circle) (p : Point) (w a b q u v : ℤ) → T (fits binary64 c.radius) → w ≡ wind c p → GridCircle c a b q → GridPoint p u v → RuleOfCircle a b q u v w
circle_rule c p w a b q u v FR e C P = subst (RuleOfCircle a b q u v) (sym (e ∙ whole)) (rule _ _)
  where
    whole : wind c p ≡ cond (int_lt ((u -ℤ a) *ℤ (u -ℤ a) +ℤ (v -ℤ b) *ℤ (v -ℤ b)) (q *ℤ q)) (pos 1) (pos 0)
    whole =
        let X = in_sub tt tt P.x C.center.x in
        let Y = in_sub tt tt P.y C.center.y in
        (λ i. cond (T_true (fits binary64 c.radius) FR i && lt (dot (from_to c.center p) (from_to c.center p)) (mul binary64 c.radius c.radius)) (pos 1) (pos 0))
        ∙ ap (λ (t : Bool). cond t (pos 1) (pos 0)) (in_lt (in_add tt tt (in_mul tt tt X X) (in_mul tt tt Y Y)) (in_mul tt tt C.radius C.radius))

    rule : (d r : ℤ) → Gives (d <ℤ r) (pos 1) (cond (int_lt d r) (pos 1) (pos 0))
    rule d r = at (int_lt d r) refl
      where
        at : (t : Bool) → int_lt d r ≡ t → Gives (d <ℤ r) (pos 1) (cond t (pos 1) (pos 0))
        at true g = record { inside = λ h. refl; outside = λ n. absurd (n (record { lt = passes _ g })) }
        at false g = record { inside = λ h. absurd (subst T g h.lt); outside = λ n. refl }

pub circle_sides : (c : Circle) (a b q : ℤ) → GridCircle c a b q → Sides (box c) (a -ℤ pos (unsigned_abs q)) (b -ℤ pos (unsigned_abs q)) (a +ℤ pos (unsigned_abs q)) (b +ℤ pos (unsigned_abs q))
circle_sides c a b q C = record {
  x0 = (in_sub tt tt C.center.x (in_abs C.radius)).val;
  y0 = (in_sub tt tt C.center.y (in_abs C.radius)).val;
  x1 = (in_add tt tt C.center.x (in_abs C.radius)).val;
  y1 = (in_add tt tt C.center.y (in_abs C.radius)).val;
}
