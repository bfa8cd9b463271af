-- Coverings: what an upper shape and a lower one mean together. Assumes nothing.
use Rattle.std.specs.Prelude.{cond, ◌&&◌, List, ◌++◌, ℤ, Ok, Err}
use Rattle.plane.specs.declared.bezpath.PathEl.{PathEl}
use Rattle.plane.specs.declared.rect.Rect.{Rect}
use Rattle.plane.specs.Paths.{Drawn}
use Rattle.plane.specs.Rects.{joined, finite_sides}
use Rattle.plane.specs.Winding.{nonzero}
use Rattle.layers.specs.Placings.{no_box}
use Rattle.layers.specs.declared.covering.Stage.{Stage}
use Rattle.layers.specs.declared.covering.Stage.TheVariants.{Upper, Lower}

-- the upper's winding unless that is 0, then the lower's
abbrev pub covered_wind : ℤ → ℤ → ℤ
covered_wind upper lower = cond (nonzero upper) upper lower

-- the union; with a side of either that is not finite, four not-a-numbers
abbrev pub covered_box : Rect → Rect → Rect
covered_box upper lower = cond (finite_sides upper && finite_sides lower) (joined upper lower) no_box

-- the upper's path and then the lower's; the upper's refusal before the lower's
abbrev pub covered_drawn : Drawn → Drawn → Drawn
covered_drawn (Err e) lower = Err e
covered_drawn (Ok upper) (Err e) = Err e
covered_drawn (Ok upper) (Ok lower) = Ok (upper ++ lower)

-- what a cursor has still to give: both paths, or what is left of the lower one
abbrev pub rest_of : Stage → List PathEl → List PathEl → List PathEl
rest_of Upper upper lower = upper ++ lower
rest_of Lower upper lower = lower
