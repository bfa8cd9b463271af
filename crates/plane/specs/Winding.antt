-- What a mark answers at a point, and what every mark's answers keep to. Assumes nothing.
use Rattle.std.specs.Prelude.{◌≡◌, zero, suc, Bool, true, false, ◌⊎◌, ℤ, pos, negsuc, ◌≢◌}
use Rattle.plane.specs.declared.point.Point.{Point}
use Rattle.plane.specs.declared.rect.Rect.{Rect}
use Rattle.plane.specs.Points.{FieldPoint, Same, FiniteBox, InBox}

-- The answer w is `turn` where the mark holds the point, and 0 where it does not.
pub record Gives (holds : Type 0) (turn w : ℤ) : Type 0 where
  pub inside : holds → w ≡ turn
  pub outside : (holds → ⊥) → w ≡ pos 0

-- w is -1, 0 or 1
abbrev pub IsWinding : ℤ → Type 0
IsWinding w = (w ≡ negsuc 0) ⊎ ((w ≡ pos 0) ⊎ (w ≡ pos 1))

abbrev pub nonzero : ℤ → Bool
nonzero (pos zero) = false
nonzero (pos (suc n)) = true
nonzero (negsuc n) = true

-- What the windings of a mark with the box b keep to at p: they are -1, 0 or 1; they are the same at equal points;
-- and if the box is finite and p a grid point of the field, p gets anything but 0 only in the closed box.
pub record Lawful (wind : Point → ℤ) (b : Rect) (p : Point) : Type 0 where
  pub small : IsWinding (wind p)
  pub same : (q : Point) → Same p q → wind q ≡ wind p
  pub boxed : FiniteBox b → FieldPoint p → (wind p ≢ pos 0) → InBox b p
