-- The lesser and the greater of two numbers, and boxes that hold a point: in a union, and four numbers that surround another. Assumes nothing.
use Rattle.std.specs.Prelude.{◌≡◌, Bool, true, false, cond, not, ◌&&◌, ◌||◌, T, refl, Float}
use Rattle.std.proofs.Common.{sym, subst}
use Rattle.std.specs.Float.Ieee.{le, is_nan}
use Rattle.std.specs.Float.Ieee.Fits.{and_l, and_r}
use Rattle.std.specs.Float.Ieee.Scale as scale
use Rattle.std.specs.Float.{float_min, float_max, float_is_finite, nan, inf, fin}
use Rattle.std.specs.Bool.{fails}
use Rattle.std.specs.Float.Order.{le_refl, le_of_lt, lt_of_not-le, le_trans, le_left, le_right}
use Rattle.plane.specs.declared.point.Point.{Point}
use Rattle.plane.specs.declared.rect.Rect.{Rect}
use Rattle.plane.specs.Points.{FiniteBox, InBox}
use Rattle.plane.specs.Rects.{joined, finite_sides}

abbrev pub Number : Float → Type 0
Number x = T (not (is_nan x))

-- ---- finite sides
finite_out : (x : Float) → T (float_is_finite x) → T (scale.finite x)
unfolding float_is_finite
finite_out nan h = h
finite_out (inf s) h = h
finite_out (fin s m e) h = tt

pub finite_box : (b : Rect) → T (finite_sides b) → FiniteBox b
finite_box b h =
    let A = float_is_finite b.x0 in
    let B = float_is_finite b.y0 in
    let C = float_is_finite b.x1 in
    let D = float_is_finite b.y1 in
    let g = and_r A (B && (C && D)) h in
    let k = and_r B (C && D) g in
    record {
      x0 = finite_out b.x0 (and_l A (B && (C && D)) h);
      y0 = finite_out b.y0 (and_l B (C && D) g);
      x1 = finite_out b.x1 (and_l C D k);
      y1 = finite_out b.y1 (and_r C D k);
    }

pub finite_number : (x : Float) → T (scale.finite x) → Number x
unfolding is_nan
finite_number nan h = absurd h
finite_number (inf s) h = absurd h
finite_number (fin s m e) h = tt

-- ---- the lesser and the greater
record Lesser (x y z : Float) : Type 0 where
  first : T (le z x)
  second : T (le z y)

-- by the test on numbers
test_on : (t u : Bool) → u ≡ false → t || u ≡ t
test_on true u e = refl
test_on false u e = e

no_nan : (y : Float) → Number y → is_nan y ≡ false
unfolding is_nan
no_nan nan h = absurd h
no_nan (inf s) h = refl
no_nan (fin s m e) h = refl

lesser : (x y : Float) → Number x → Number y → Lesser x y (float_min x y)
lesser x y X Y = subst (λ (t : Bool). Lesser x y (cond t x y)) (sym (test_on (le x y) (is_nan y) (no_nan y Y))) (go (le x y) refl)
  where
    go : (t : Bool) → le x y ≡ t → Lesser x y (cond t x y)
    go true e = record { first = le_refl x X; second = subst T (sym e) tt }
    go false e = record { first = le_of_lt y x (lt_of_not-le x y X Y (fails (le x y) e)); second = le_refl y Y }

record Greater (x y z : Float) : Type 0 where
  first : T (le x z)
  second : T (le y z)

greater : (x y : Float) → Number x → Number y → Greater x y (float_max x y)
greater x y X Y = subst (λ (t : Bool). Greater x y (cond t x y)) (sym (test_on (le y x) (is_nan y) (no_nan y Y))) (go (le y x) refl)
  where
    go : (t : Bool) → le y x ≡ t → Greater x y (cond t x y)
    go true e = record { first = le_refl x X; second = subst T (sym e) tt }
    go false e = record { first = le_of_lt x y (lt_of_not-le y x Y X (fails (le y x) e)); second = le_refl y Y }

-- ---- a union holds what either holds
-- no side is not-a-number
pub record Numbered (b : Rect) : Type 0 where
  pub x0 : Number b.x0
  pub y0 : Number b.y0
  pub x1 : Number b.x1
  pub y1 : Number b.y1

pub numbered : (b : Rect) → FiniteBox b → Numbered b
numbered b B = record { x0 = finite_number _ B.x0; y0 = finite_number _ B.y0; x1 = finite_number _ B.x1; y1 = finite_number _ B.y1 }

pub in_first : (b c : Rect) (p : Point) → Numbered b → Numbered c → InBox b p → InBox (joined b c) p
in_first b c p B C h = record {
  left = le_trans _ b.x0 p.x (lesser b.x0 c.x0 B.x0 C.x0).first h.left;
  right = le_trans p.x b.x1 _ h.right (greater b.x1 c.x1 B.x1 C.x1).first;
  low = le_trans _ b.y0 p.y (lesser b.y0 c.y0 B.y0 C.y0).first h.low;
  high = le_trans p.y b.y1 _ h.high (greater b.y1 c.y1 B.y1 C.y1).first;
}

pub in_second : (b c : Rect) (p : Point) → Numbered b → Numbered c → InBox c p → InBox (joined b c) p
in_second b c p B C h = record {
  left = le_trans _ c.x0 p.x (lesser b.x0 c.x0 B.x0 C.x0).second h.left;
  right = le_trans p.x c.x1 _ h.right (greater b.x1 c.x1 B.x1 C.x1).second;
  low = le_trans _ c.y0 p.y (lesser b.y0 c.y0 B.y0 C.y0).second h.low;
  high = le_trans p.y c.y1 _ h.high (greater b.y1 c.y1 B.y1 C.y1).second;
}

-- ---- the least and the greatest of four: of the first and the last
pub least_number : (x y : Float) → Number x → Number y → Number (float_min x y)
least_number x y X Y = le_left (float_min x y) x (lesser x y X Y).first

pub most_number : (x y : Float) → Number x → Number y → Number (float_max x y)
most_number x y X Y = le_right x (float_max x y) (greater x y X Y).first

pub joined_numbered : (b c : Rect) → Numbered b → Numbered c → Numbered (joined b c)
joined_numbered b c B C = record {
  x0 = least_number _ _ B.x0 C.x0;
  y0 = least_number _ _ B.y0 C.y0;
  x1 = most_number _ _ B.x1 C.x1;
  y1 = most_number _ _ B.y1 C.y1;
}

pub record Around (a b c d : Float) : Type 0 where
  pub under_first : T (le (float_min (float_min a b) (float_min c d)) a)
  pub under_last : T (le (float_min (float_min a b) (float_min c d)) d)
  pub over_first : T (le a (float_max (float_max a b) (float_max c d)))
  pub over_last : T (le d (float_max (float_max a b) (float_max c d)))

pub around : (a b c d : Float) → Number a → Number b → Number c → Number d → Around a b c d
around a b c d A B C D =
    let l = lesser (float_min a b) (float_min c d) (least_number a b A B) (least_number c d C D) in
    let g = greater (float_max a b) (float_max c d) (most_number a b A B) (most_number c d C D) in
    record {
      under_first = le_trans _ (float_min a b) a l.first (lesser a b A B).first;
      under_last = le_trans _ (float_min c d) d l.second (lesser c d C D).second;
      over_first = le_trans a (float_max a b) _ (greater a b A B).first g.first;
      over_last = le_trans d (float_max c d) _ (greater c d C D).second g.second;
    }
