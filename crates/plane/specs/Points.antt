-- Points of the grid, equal points, and points of a closed box. Assumes nothing.
use Rattle.std.specs.Prelude.{T, ℤ, cond, ◌&&◌, Ok, Err, Result}
use Rattle.std.specs.Float.Ieee.{le}
use Rattle.std.specs.Float.Ieee.Scale.{finite}
use Rattle.floats.specs.Page.{Grid, GridNumber, OnPage, on_grid, on_page}
use Rattle.floats.specs.Zeros.{Alike}
use Rattle.plane.specs.declared.fault.PageFault.{PageFault}
use Rattle.plane.specs.declared.fault.PageFault.TheVariants.{OffGrid, OffPage}
use Rattle.plane.specs.declared.point.Point.{Point}
use Rattle.plane.specs.declared.rect.Rect.{Rect}

-- p is (u / 256, v / 256), and lies in the field
pub record GridPoint (p : Point) (u v : ℤ) : Type 0 where
  pub x : Grid p.x u
  pub y : Grid p.y v

-- p is some grid point of the field
abbrev pub FieldPoint : Point → Type 0
FieldPoint p = (u v : ℤ) × GridPoint p u v

-- p and q are equal but for the signs of zeros
pub record Same (p q : Point) : Type 0 where
  pub x : Alike p.x q.x
  pub y : Alike p.y q.y

-- no side of b is an infinity or not-a-number
pub record FiniteBox (b : Rect) : Type 0 where
  pub x0 : T (finite b.x0)
  pub y0 : T (finite b.y0)
  pub x1 : T (finite b.x1)
  pub y1 : T (finite b.y1)

-- p lies in the closed box b
pub record InBox (b : Rect) (p : Point) : Type 0 where
  pub left : T (le b.x0 p.x)
  pub right : T (le p.x b.x1)
  pub low : T (le b.y0 p.y)
  pub high : T (le p.y b.y1)

-- OFF GRID first, unless both coordinates are grid numbers, and then OFF PAGE, unless both are on the page
abbrev pub page_checked : Point → Result (Unit {0}) PageFault
page_checked p = cond (on_grid p.x && on_grid p.y) (cond (on_page p.x && on_page p.y) (Ok tt) (Err OffPage)) (Err OffGrid)

-- both coordinates are grid numbers
abbrev pub Gridded : Point → Type 0
Gridded p = GridNumber p.x × GridNumber p.y

-- both coordinates lie on the page
abbrev pub Paged : Point → Type 0
Paged p = OnPage p.x × OnPage p.y

-- What the check says. The three cases exclude each other, so each is answered exactly when it holds.
abbrev pub PageRule : Point → Result (Unit {0}) PageFault → Type 0
PageRule p (Ok u) = Gridded p × Paged p
PageRule p (Err OffGrid) = Gridded p → ⊥
PageRule p (Err OffPage) = Gridded p × (Paged p → ⊥)
