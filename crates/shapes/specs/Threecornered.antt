-- The winding of a triangle keeps the laws of windings, and is the whole-number rule on the grid. Assumes nothing.
use Rattle.std.specs.Prelude.{◌≡◌, Bool, true, false, cond, ◌&&◌, T, ℤ, pos, negsuc, ◌*ℤ◌, Ok, ◌≢◌, refl, Float}
use Rattle.std.proofs.Common.{sym, ◌∙◌, subst, inl, inr, lit≤, arith}
use Rattle.std.specs.Float.{binary64}
use Rattle.std.specs.Float.Ieee.{of_bits, mul, lt, le, eq}
use Rattle.std.specs.Int.{int_min, int_max}
use Rattle.std.proofs.lemmas.Int.{ints}
use Rattle.floats.specs.Value.{In, Val}
use Rattle.floats.specs.Zeros.{Alike}
use Rattle.floats.proofs.Alike.{zeros_agree}
use Rattle.floats.proofs.Compared.{eqZ}
use Rattle.floats.proofs.Bounded.{in_sub, in_mul, in_lt, in_le, in_eq, in_min, in_max}
use Rattle.plane.specs.declared.point.Point.{Point}
use Rattle.plane.specs.Points.{GridPoint, Same}
use Rattle.plane.specs.Rects.{Sides}
use Rattle.plane.specs.Vectors.{from_to}
use Rattle.plane.specs.Paths.{WellDrawn}
use Rattle.plane.specs.Formed.{checked_well}
use Rattle.plane.specs.Winding.{IsWinding, Lawful}
use Rattle.plane.specs.Rects.{closed}
use Rattle.plane.specs.Enclosed.{same_closed, closed_in}
use Rattle.plane.specs.Equals.{alike_refl, vec_refl, to_same, cross_same}
use Rattle.shapes.specs.declared.triangle.Triangle.{Triangle}
use Rattle.shapes.specs.Corners.{twice_area, RuleOfTriangle}
use Rattle.shapes.specs.Means.{turnZ, agreedZ, boxedZ, windZ, whole_rule}
use Rattle.shapes.specs.Triangles.{zero, half, area2, box, side, agreed, wind, GridTriangle, path, all_finite, drawn}

-- ---- the laws
agreed_small : (s t u : Float) → IsWinding (agreed s t u)
agreed_small s t u = of (le zero s && (le zero t && le zero u)) (lt s zero && (lt t zero && lt u zero))
  where
    of : (s t : Bool) → IsWinding (cond s (pos 1) (cond t (negsuc 0) (pos 0)))
    of true t = inr (inr refl)
    of false true = inl refl
    of false false = inr (inl refl)

small : (s t : Bool) (w : ℤ) → IsWinding w → IsWinding (cond s (pos 0) (cond t w (pos 0)))
small true t w h = inr (inl refl)
small false true w h = h
small false false w h = inr (inl refl)

same_side : (a b p q : Point) → Same p q → Alike (side a b q) (side a b p)
same_side a b p q s = cross_same _ _ _ _ (vec_refl (from_to a b)) (to_same a p q s)

same_agreed : (s s' t t' u u' : Float) → Alike s s' → Alike t t' → Alike u u' → agreed s t u ≡ agreed s' t' u'
same_agreed s s' t t' u u' p q r =
    let z = alike_refl zero in
    λ i. cond (zeros_agree.of_le zero zero s s' z p i && (zeros_agree.of_le zero zero t t' z q i && zeros_agree.of_le zero zero u u' z r i)) (pos 1)
    (cond (zeros_agree.of_lt s s' zero zero p z i && (zeros_agree.of_lt t t' zero zero q z i && zeros_agree.of_lt u u' zero zero r z i)) (negsuc 0) (pos 0))

held : (s t : Bool) (w : ℤ) → (cond s (pos 0) (cond t w (pos 0)) ≢ pos 0) → T t
held true t w n = absurd (n refl)
held false true w n = tt
held false false w n = absurd (n refl)

pub triangle_lawful : (t : Triangle) (p : Point) → Lawful (wind t) (box t) p
triangle_lawful t p = record {
  small = small (eq (area2 t) zero) (closed (box t) p) _ (agreed_small (side t.a t.b p) (side t.b t.c p) (side t.c t.a p));
  same = λ q s. λ i. cond (eq (area2 t) zero) (pos 0) (cond (same_closed (box t) p q s i)
      (same_agreed _ _ _ _ _ _ (same_side t.a t.b p q s) (same_side t.b t.c p q s) (same_side t.c t.a p q s) i) (pos 0));
  boxed = λ f g n. closed_in (box t) p (held (eq (area2 t) zero) (closed (box t) p) _ n);
}

-- ---- on the grid
zero_in : In zero (pos 0) 16 0
unfolding of_bits
zero_in = record { val = (false, 0, (refl, refl), refl); size = lit≤ tt }

side_in : (p q r : Point) (a b c d u v : ℤ) → GridPoint p a b → GridPoint q c d → GridPoint r u v → In (side p q r) (turnZ a b c d u v) 16 562949953421312
side_in p q r a b c d u v P Q R = in_sub tt tt (in_mul tt tt (in_sub tt tt Q.x P.x) (in_sub tt tt R.y P.y)) (in_mul tt tt (in_sub tt tt Q.y P.y) (in_sub tt tt R.x P.x))

agreed_whole : (s t u : Float) (k l m : ℤ) → In s k 16 562949953421312 → In t l 16 562949953421312 → In u m 16 562949953421312 → agreed s t u ≡ agreedZ k l m
agreed_whole s t u k l m S T' U =
    λ i. cond (in_le zero_in S i && (in_le zero_in T' i && in_le zero_in U i)) (pos 1) (cond (in_lt S zero_in i && (in_lt T' zero_in i && in_lt U zero_in i)) (negsuc 0) (pos 0))

module _ (t : Triangle) (p : Point) (a b c d e f u v : ℤ) (G : GridTriangle t a b c d e f) (P : GridPoint p u v) where
  closed_whole : closed (box t) p ≡ boxedZ a b c d e f u v
  closed_whole =
      let x0 = in_min G.at_a.x (in_min G.at_b.x G.at_c.x) in
      let y0 = in_min G.at_a.y (in_min G.at_b.y G.at_c.y) in
      let x1 = in_max G.at_a.x (in_max G.at_b.x G.at_c.x) in
      let y1 = in_max G.at_a.y (in_max G.at_b.y G.at_c.y) in
      λ i. in_le x0 P.x i && (in_le P.x x1 i && (in_le y0 P.y i && in_le P.y y1 i))

  wind_whole : wind t p ≡ windZ a b c d e f u v
  wind_whole =
      let D : eq (area2 t) zero ≡ eqZ (twice_area a b c d e f) (pos 0) = in_eq (side_in t.a t.b t.c a b c d e f G.at_a G.at_b G.at_c) zero_in in
      let S = agreed_whole (side t.a t.b p) (side t.b t.c p) (side t.c t.a p) (turnZ a b c d u v) (turnZ c d e f u v) (turnZ e f a b u v)
      (side_in t.a t.b p a b c d u v G.at_a G.at_b P) (side_in t.b t.c p c d e f u v G.at_b G.at_c P) (side_in t.c t.a p e f a b u v G.at_c G.at_a P) in
      λ i. cond (D i) (pos 0) (cond (closed_whole i) (S i) (pos 0))

pub triangle_rule : (t : Triangle) (p : Point) (w a b c d e f u v : ℤ) → w ≡ wind t p → GridTriangle t a b c d e f → GridPoint p u v → RuleOfTriangle a b c d e f u v w
triangle_rule t p w a b c d e f u v q G P = subst (RuleOfTriangle a b c d e f u v) (sym (q ∙ wind_whole t p a b c d e f u v G P)) (whole_rule a b c d e f u v)

half_in : In half (pos 1) 1 1
unfolding of_bits
half_in = record { val = (false, 1, (refl, refl), refl); size = lit≤ tt }

pub triangle_area : (t : Triangle) (a b c d e f : ℤ) → GridTriangle t a b c d e f → Val (mul binary64 half (area2 t)) (twice_area a b c d e f) 17
triangle_area t a b c d e f G =
    subst (λ (z : ℤ). Val (mul binary64 half (area2 t)) z 17) (one_times (twice_area a b c d e f))
    (in_mul tt tt half_in (side_in t.a t.b t.c a b c d e f G.at_a G.at_b G.at_c)).val
  where
    one_times : (z : ℤ) → pos 1 *ℤ z ≡ z
    one_times z = omega (arith, ints)

pub triangle_sides : (t : Triangle) (a b c d e f : ℤ) → GridTriangle t a b c d e f → Sides (box t) (int_min a (int_min c e)) (int_min b (int_min d f)) (int_max a (int_max c e)) (int_max b (int_max d f))
triangle_sides t a b c d e f G = record {
  x0 = (in_min G.at_a.x (in_min G.at_b.x G.at_c.x)).val;
  y0 = (in_min G.at_a.y (in_min G.at_b.y G.at_c.y)).val;
  x1 = (in_max G.at_a.x (in_max G.at_b.x G.at_c.x)).val;
  y1 = (in_max G.at_a.y (in_max G.at_b.y G.at_c.y)).val;
}

-- ---- the path
pub triangle_formed : (t : Triangle) (e : Float) → WellDrawn (drawn t e)
triangle_formed t e = checked_well e (all_finite t) (Ok (path t)) tt
