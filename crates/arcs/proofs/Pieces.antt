-- A step of the cursor on an arc, and that its curves keep a path well formed. Assumes nothing.
use Rattle.std.proofs.Common.{◌≡◌, ℕ, zero, suc, ◌-◌, ◌<◌, true, T, List, ◌∷◌, ◌++◌, sym, ap, ◌∙◌, arith}
use Rattle.plane.specs.declared.vec2.Vec2.{Vec2}
use Rattle.plane.specs.declared.bezpath.PathEl.{PathEl}
use Rattle.plane.specs.Paths.{formed}
use Rattle.arcs.specs.declared.arc.ArcPath.{ArcPath}
use Rattle.arcs.specs.Arcs.{curve_from, next_angle, next_point, moved_on, curves}

-- the cursor after a curve that ends at p3
abbrev after : ArcPath → ℕ → Vec2 → ArcPath
after k left p3 = record {
  arc = k.arc;
  arm_len = k.arm_len;
  angle_step = k.angle_step;
  left = left;
  p0 = p3;
  angle0 = next_angle k;
}

pub next_curve : (k : ArcPath) (n : ℕ) (el : PathEl) (p3 : Vec2) → 0 < n → p3 ≡ next_point k → el ≡ curve_from k (next_angle k) p3 → curves n k ≡ el ∷ curves (n - 1) (after k (n - 1) p3)
next_curve k zero el p3 h e q = absurd (omega arith)
next_curve k (suc m) el p3 h e q =
    let less : suc m - 1 ≡ m = omega arith in
    sym (λ i. (q ∙ ap (curve_from k (next_angle k)) e) i ∷ curves (less i) (after k (less i) (e i)))

-- whatever follows an arc's curves in a part that is begun
pub curves_formed : (n : ℕ) (k : ArcPath) (els : List PathEl) → T (formed true els) → T (formed true (curves n k ++ els))
curves_formed zero k els h = h
curves_formed (suc n) k els h = curves_formed n (moved_on k n) els h

pub curves_alone : (n : ℕ) (k : ArcPath) → T (formed true (curves n k))
curves_alone zero k = tt
curves_alone (suc n) k = curves_alone n (moved_on k n)
