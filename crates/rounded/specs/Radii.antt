-- The radii of the corners of a rounded rectangle: their sizes, and radii up to a limit, as computed for all floats; and radii on the grid. Assumes nothing.
use Rattle.std.specs.Prelude.{Bool, false, ◌&&◌, ℤ, Float}
use Rattle.std.specs.Float.{float_with_sign, float_min, float_is_finite}
use Rattle.floats.specs.Page.{Grid}
use Rattle.plane.specs.declared.fault.Corner.{Corner}
use Rattle.plane.specs.declared.fault.Corner.TheVariants.{TopLeft, TopRight, BottomRight, BottomLeft}
use Rattle.rounded.specs.declared.rounded_rect_radii.RoundedRectRadii.{RoundedRectRadii}

abbrev pub radii : Float → Float → Float → Float → RoundedRectRadii
radii a b c d = record { top_left = a; top_right = b; bottom_right = c; bottom_left = d }

abbrev pub radius_of : RoundedRectRadii → Corner → Float
radius_of k TopLeft = k.top_left
radius_of k TopRight = k.top_right
radius_of k BottomRight = k.bottom_right
radius_of k BottomLeft = k.bottom_left

-- each without its sign
abbrev pub sizes : RoundedRectRadii → RoundedRectRadii
sizes k = radii (float_with_sign false k.top_left) (float_with_sign false k.top_right) (float_with_sign false k.bottom_right) (float_with_sign false k.bottom_left)

-- each, or m where that is less. Not-a-number becomes m.
abbrev pub at_most : Float → RoundedRectRadii → RoundedRectRadii
at_most m k = radii (float_min k.top_left m) (float_min k.top_right m) (float_min k.bottom_right m) (float_min k.bottom_left m)

abbrev pub all_finite : RoundedRectRadii → Bool
all_finite k = float_is_finite k.top_left && (float_is_finite k.top_right && (float_is_finite k.bottom_right && float_is_finite k.bottom_left))

-- the radii are p, q, r and t in units of 1/256, from the top left on, and lie in the field
pub record GridRadii (k : RoundedRectRadii) (p q r t : ℤ) : Type 0 where
  pub top_left : Grid k.top_left p
  pub top_right : Grid k.top_right q
  pub bottom_right : Grid k.bottom_right r
  pub bottom_left : Grid k.bottom_left t
