-- A covering keeps the laws of windings where both shapes below do. Assumes nothing.
use Rattle.std.specs.Prelude.{◌≡◌, Bool, true, false, cond, ◌&&◌, ℤ, pos, ◌≢◌, refl}
use Rattle.std.specs.Float.Ieee.Fits.{and_l, and_r}
use Rattle.std.specs.Bool.{passes}
use Rattle.plane.specs.declared.point.Point.{Point}
use Rattle.plane.specs.declared.rect.Rect.{Rect}
use Rattle.plane.specs.Points.{FiniteBox, InBox}
use Rattle.plane.specs.Rects.{joined, finite_sides}
use Rattle.plane.specs.Winding.{IsWinding, nonzero}
use Rattle.layers.specs.Placings.{no_box}
use Rattle.layers.specs.Coverings.{covered_wind, covered_box}
use Rattle.layers.specs.Boxes.{finite_box, numbered, in_first, in_second}

pub covered_small : (u l : ℤ) → IsWinding u → IsWinding l → IsWinding (covered_wind u l)
covered_small u l U L = go (nonzero u)
  where
    go : (b : Bool) → IsWinding (cond b u l)
    go true = U
    go false = L

pub covered_boxed : (b c : Rect) (p : Point) (u l : ℤ) → (FiniteBox b → (u ≢ pos 0) → InBox b p) → (FiniteBox c → (l ≢ pos 0) → InBox c p)
    → FiniteBox (covered_box b c) → (covered_wind u l ≢ pos 0) → InBox (covered_box b c) p
covered_boxed b c p u l U L = sides (finite_sides b && finite_sides c) refl
  where
    winds : FiniteBox b → FiniteBox c → (t : Bool) → nonzero u ≡ t → (cond t u l ≢ pos 0) → InBox (joined b c) p
    winds B C true e n = in_first b c p (numbered b B) (numbered c C) (U B n)
    winds B C false e n = in_second b c p (numbered b B) (numbered c C) (L C n)

    sides : (t : Bool) → finite_sides b && finite_sides c ≡ t → FiniteBox (cond t (joined b c) no_box) → (covered_wind u l ≢ pos 0) → InBox (cond t (joined b c) no_box) p
    sides true e f n =
        let h = passes (finite_sides b && finite_sides c) e in
        winds (finite_box b (and_l (finite_sides b) (finite_sides c) h)) (finite_box c (and_r (finite_sides b) (finite_sides c) h)) (nonzero u) refl n
    sides false e f n = absurd f.x0
