-- The closed box: equal points lie in it alike, and what it holds alone keeps the laws of windings. Assumes nothing.
use Rattle.std.specs.Prelude.{◌≡◌, Bool, true, false, cond, ◌&&◌, T, ℤ, pos, ◌≢◌, refl}
use Rattle.std.proofs.Common.{inl, inr}
use Rattle.std.specs.Float.Ieee.{le}
use Rattle.std.specs.Float.Ieee.Fits.{and_l, and_r}
use Rattle.floats.specs.Zeros.{Alike}
use Rattle.floats.proofs.Alike.{zeros_agree}
use Rattle.plane.specs.declared.point.Point.{Point}
use Rattle.plane.specs.declared.rect.Rect.{Rect}
use Rattle.plane.specs.Points.{Same, InBox}
use Rattle.plane.specs.Rects.{closed}
use Rattle.plane.specs.Winding.{IsWinding, Lawful}
use Rattle.plane.specs.Equals.{alike_refl, alike_sym}

pub same_closed : (b : Rect) (p q : Point) → Same p q → closed b q ≡ closed b p
same_closed b p q s =
    let X : Alike q.x p.x = alike_sym s.x in
    let Y : Alike q.y p.y = alike_sym s.y in
    λ i. zeros_agree.of_le b.x0 b.x0 q.x p.x (alike_refl _) X i
    && (zeros_agree.of_le q.x p.x b.x1 b.x1 X (alike_refl _) i
    && (zeros_agree.of_le b.y0 b.y0 q.y p.y (alike_refl _) Y i
    && zeros_agree.of_le q.y p.y b.y1 b.y1 Y (alike_refl _) i))

pub closed_in : (b : Rect) (p : Point) → T (closed b p) → InBox b p
closed_in b p t =
    let A = le b.x0 p.x in
    let B = le p.x b.x1 in
    let C = le b.y0 p.y in
    let D = le p.y b.y1 in
    record {
      left = and_l A (B && (C && D)) t;
      right = and_l B (C && D) (and_r A (B && (C && D)) t);
      low = and_l C D (and_r B (C && D) (and_r A (B && (C && D)) t));
      high = and_r C D (and_r B (C && D) (and_r A (B && (C && D)) t));
    }

-- ---- 1 where a test holds in the closed box, and else 0
small : (s t : Bool) → IsWinding (cond s (cond t (pos 1) (pos 0)) (pos 0))
small true true = inr (inr refl)
small true false = inr (inl refl)
small false t = inr (inl refl)

held : (s : Bool) (w : ℤ) → (cond s w (pos 0) ≢ pos 0) → T s
held true w n = tt
held false w n = absurd (n refl)

pub enclosed_lawful : (b : Rect) (holds : Point → Bool) → ((p q : Point) → Same p q → holds q ≡ holds p)
    → (p : Point) → Lawful (λ q. cond (closed b q) (cond (holds q) (pos 1) (pos 0)) (pos 0)) b p
enclosed_lawful b holds alike p = record {
  small = small (closed b p) (holds p);
  same = λ q s. λ i. cond (same_closed b p q s i) (cond (alike p q s i) (pos 1) (pos 0)) (pos 0);
  boxed = λ f g n. closed_in b p (held (closed b p) _ n);
}
