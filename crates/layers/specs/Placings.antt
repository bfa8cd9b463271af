-- Placings: what a shape means once a move has placed it. Assumes nothing.
use Rattle.std.specs.Prelude.{Bool, cond, ◌&&◌, map, ℤ, pos, ◌*ℤ◌, Ok, Err}
use Rattle.std.specs.Float.{nan}
use Rattle.floats.specs.Page.{in_field}
use Rattle.plane.specs.declared.affine.Affine.{Affine}
use Rattle.plane.specs.declared.point.Point.{Point}
use Rattle.plane.specs.declared.rect.Rect.{Rect}
use Rattle.plane.specs.Affines.{image_el, image_box}
use Rattle.plane.specs.Paths.{Drawn}
use Rattle.plane.specs.Rects.{rect, finite_sides}
use Rattle.layers.specs.Moves.{sign, taken_back}

abbrev pub point_in_field : Point → Bool
point_in_field p = in_field p.x && in_field p.y

-- the sign of m times the winding below at p taken back through m, or 0 unless that point is in the field
abbrev pub placed_wind : Affine → (Point → ℤ) → Point → ℤ
placed_wind m wind p = cond (point_in_field (taken_back m p)) (sign m *ℤ wind (taken_back m p)) (pos 0)

-- four not-a-numbers
abbrev pub no_box : Rect
no_box = rect nan nan nan nan

-- the box below, moved; with a side that is not finite, four not-a-numbers
abbrev pub placed_box : Affine → Rect → Rect
placed_box m b = cond (finite_sides b) (image_box m b) no_box

-- the path below, each point moved, or the refusal below
abbrev pub placed_drawn : Affine → Drawn → Drawn
placed_drawn m (Ok els) = Ok (map (image_el m) els)
placed_drawn m (Err e) = Err e
