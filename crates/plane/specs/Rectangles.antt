-- The winding of a rectangle keeps the laws of windings, and is the whole-number rule on the grid. Assumes nothing.
use Rattle.std.specs.Prelude.{◌≡◌, Bool, true, false, cond, not, ◌&&◌, T, ℤ, pos, negsuc, ◌-ℤ◌, ◌*ℤ◌, Ok, ◌≢◌, int_le, int_lt, refl, Float}
use Rattle.std.proofs.Common.{sym, ap, ◌∙◌, subst, inl, inr, arith}
use Rattle.std.specs.Float.Ieee.{lt, le}
use Rattle.std.specs.Float.Ieee.Fits.{and_l, and_r}
use Rattle.std.specs.Int.{int_min, int_max}
use Rattle.std.specs.Float.Order.{le_of_lt}
use Rattle.std.specs.Bool.{passes}
use Rattle.std.proofs.lemmas.Int.{ints, clamps, by_lt_z}
use Rattle.floats.specs.Value.{Val}
use Rattle.floats.specs.Zeros.{Alike}
use Rattle.floats.proofs.Alike.{zeros_agree}
use Rattle.floats.proofs.Bounded.{in_sub, in_mul, in_lt, in_le, in_min, in_max}
use Rattle.plane.specs.declared.point.Point.{Point}
use Rattle.plane.specs.declared.rect.Rect.{Rect}
use Rattle.plane.specs.Points.{GridPoint, Same, InBox}
use Rattle.plane.specs.Winding.{IsWinding, Lawful}
use Rattle.plane.specs.Rects.{area_of, box, half_open, unlike, wind, GridRect, Sides, Between, turn, RuleOfRect}
use Rattle.plane.specs.Equals.{alike_sym}
use Rattle.plane.specs.Formed.{checked_well}
use Rattle.plane.specs.Paths.{WellDrawn}
use Rattle.plane.specs.Rects.{path, drawn, finite_sides}

-- ---- the laws
small : (r : Rect) (p : Point) → IsWinding (wind r p)
small r p = of (half_open (box r) p) (unlike (lt r.x0 r.x1) (lt r.y0 r.y1))
  where
    of : (s t : Bool) → IsWinding (cond s (cond t (negsuc 0) (pos 1)) (pos 0))
    of true true = inl refl
    of true false = inr (inr refl)
    of false t = inr (inl refl)

pub same_half_open : (b : Rect) (p q : Point) → Same p q → half_open b q ≡ half_open b p
same_half_open b p q s =
    let X : Alike q.x p.x = alike_sym s.x in
    let Y : Alike q.y p.y = alike_sym s.y in
    λ i. zeros_agree.of_le b.x0 b.x0 q.x p.x (inl refl) X i
    && (zeros_agree.of_lt q.x p.x b.x1 b.x1 X (inl refl) i
    && (zeros_agree.of_le b.y0 b.y0 q.y p.y (inl refl) Y i
    && zeros_agree.of_lt q.y p.y b.y1 b.y1 Y (inl refl) i))

closed_of : (b : Rect) (p : Point) → half_open b p ≡ true → InBox b p
closed_of b p h =
    let A = le b.x0 p.x in
    let B = lt p.x b.x1 in
    let C = le b.y0 p.y in
    let D = lt p.y b.y1 in
    let t : T (A && (B && (C && D))) = passes _ h in
    record {
      left = and_l A (B && (C && D)) t;
      right = le_of_lt p.x b.x1 (and_l B (C && D) (and_r A (B && (C && D)) t));
      low = and_l C D (and_r B (C && D) (and_r A (B && (C && D)) t));
      high = le_of_lt p.y b.y1 (and_r C D (and_r B (C && D) (and_r A (B && (C && D)) t)));
    }

held : (s : Bool) (z : ℤ) → (cond s z (pos 0) ≢ pos 0) → s ≡ true
held true z n = refl
held false z n = absurd (n refl)

pub rect_lawful : (r : Rect) (p : Point) → Lawful (wind r) (box r) p
rect_lawful r p = record {
  small = small r p;
  same = λ q s. ap (λ (t : Bool). cond t (cond (unlike (lt r.x0 r.x1) (lt r.y0 r.y1)) (negsuc 0) (pos 1)) (pos 0)) (same_half_open (box r) p q s);
  boxed = λ f g n. closed_of (box r) p (held (half_open (box r) p) _ n);
}

-- ---- on the grid
-- the test, over whole numbers
abbrev windZ : ℤ → ℤ → ℤ → ℤ → ℤ → ℤ → ℤ
windZ a b c d u v = cond (int_le (int_min a c) u && (int_lt u (int_max a c) && (int_le (int_min b d) v && int_lt v (int_max b d)))) (cond (unlike (int_lt a c) (int_lt b d)) (negsuc 0) (pos 1)) (pos 0)

wind_whole : (r : Rect) (p : Point) (a b c d u v : ℤ) → GridRect r a b c d → GridPoint p u v → wind r p ≡ windZ a b c d u v
wind_whole r p a b c d u v R P =
    λ i. cond (in_le (in_min R.x0 R.x1) P.x i && (in_lt P.x (in_max R.x0 R.x1) i && (in_le (in_min R.y0 R.y1) P.y i && in_lt P.y (in_max R.y0 R.y1) i)))
    (cond (unlike (in_lt R.x0 R.x1 i) (in_lt R.y0 R.y1 i)) (negsuc 0) (pos 1)) (pos 0)

-- between two sides that differ, one is reversed just where it does not ascend
apart : (a c u : ℤ) → Between a c u → int_lt a c ≡ not (int_lt c a)
apart a c u h = by_lt_z a c
    (λ g. let p : int_lt a c ≡ true = grind (arith, ints) in let q : int_lt c a ≡ false = grind (arith, ints) in p ∙ sym (ap not q))
    (λ g. by_lt_z c a
    (λ l. let p : int_lt a c ≡ false = grind (arith, ints) in let q : int_lt c a ≡ true = grind (arith, ints) in p ∙ sym (ap not q))
    (λ l. absurd (omega (arith, ints, clamps, h.0, h.1))))

unlike_not : (s t : Bool) → unlike (not s) (not t) ≡ unlike s t
unlike_not true true = refl
unlike_not true false = refl
unlike_not false true = refl
unlike_not false false = refl

turned : (a b c d u v : ℤ) → Between a c u → Between b d v → cond (unlike (int_lt a c) (int_lt b d)) (negsuc 0) (pos 1) ≡ turn a b c d
turned a b c d u v h k =
    ap (λ (t : Bool). cond t (negsuc 0) (pos 1)) ((λ i. unlike (apart a c u h i) (apart b d v k i)) ∙ unlike_not (int_lt c a) (int_lt d b))

held_test : (A B C D : Bool) (z w : ℤ) → T A → T B → T C → T D → z ≡ w → cond (A && (B && (C && D))) z (pos 0) ≡ w
held_test true true true true z w p q r s e = e
held_test false B C D z w p q r s e = absurd p
held_test true false C D z w p q r s e = absurd q
held_test true true false D z w p q r s e = absurd r
held_test true true true false z w p q r s e = absurd s

left_test : (A B C D : Bool) (z : ℤ) → (T A → T B → T C → T D → ⊥) → cond (A && (B && (C && D))) z (pos 0) ≡ pos 0
left_test false B C D z n = refl
left_test true false C D z n = refl
left_test true true false D z n = refl
left_test true true true false z n = refl
left_test true true true true z n = absurd (n tt tt tt tt)

whole_rule : (a b c d u v : ℤ) → RuleOfRect a b c d u v (windZ a b c d u v)
whole_rule a b c d u v = record {
  inside = λ h. held_test _ _ _ _ _ _ h.0.0.le h.0.1.lt h.1.0.le h.1.1.lt (turned a b c d u v h.0 h.1);
  outside = λ n. left_test _ _ _ _ _ (λ p q r s. n ((record { le = p }, record { lt = q }), (record { le = r }, record { lt = s })));
}

pub rect_rule : (r : Rect) (p : Point) (w a b c d u v : ℤ) → w ≡ wind r p → GridRect r a b c d → GridPoint p u v → RuleOfRect a b c d u v w
rect_rule r p w a b c d u v e R P = subst (RuleOfRect a b c d u v) (sym (e ∙ wind_whole r p a b c d u v R P)) (whole_rule a b c d u v)

pub rect_area : (r : Rect) (a b c d : ℤ) → GridRect r a b c d → Val (area_of r) ((c -ℤ a) *ℤ (d -ℤ b)) 16
rect_area r a b c d R = (in_mul tt tt (in_sub tt tt R.x1 R.x0) (in_sub tt tt R.y1 R.y0)).val

pub rect_sides : (r : Rect) (a b c d : ℤ) → GridRect r a b c d → Sides (box r) (int_min a c) (int_min b d) (int_max a c) (int_max b d)
rect_sides r a b c d R = record {
  x0 = (in_min R.x0 R.x1).val;
  y0 = (in_min R.y0 R.y1).val;
  x1 = (in_max R.x0 R.x1).val;
  y1 = (in_max R.y0 R.y1).val;
}

-- ---- the path
pub rect_formed : (r : Rect) (t : Float) → WellDrawn (drawn r t)
rect_formed r t = checked_well t (finite_sides r) (Ok (path r)) tt
