-- Moves: the affine maps that turn by one of the eight symmetries of the square, with an offset of grid numbers on the page. Assumes nothing.
use Rattle.std.specs.Prelude.{◌≡◌, Bool, cond, ◌&&◌, ◌||◌, T, ℤ, pos, negsuc, ◌*ℤ◌, Some, None, Option, Float}
use Rattle.std.specs.Float.{binary64}
use Rattle.std.specs.Float.Ieee.{sub, neg, lt, eq}
use Rattle.floats.specs.Page.{on_grid, on_page}
use Rattle.floats.specs.Zeros.{Alike}
use Rattle.plane.specs.declared.affine.Affine.{Affine}
use Rattle.plane.specs.declared.point.Point.{Point}
use Rattle.plane.specs.Affines.{affine, nought, one, blend, product, image, det}
use Rattle.plane.specs.Points.{FieldPoint, Same}
use Rattle.plane.specs.Vectors.{point}
use Rattle.layers.specs.declared.fault.MoveFault.{MoveFault}
use Rattle.layers.specs.declared.fault.MoveFault.TheVariants.{NotATurn, OffGrid, OffPage}

abbrev pub minus_one : Float
minus_one = neg one

-- ---- which maps are moves
-- (a, b, c, d) of m is this, whatever the signs of its zeros
abbrev pub turns_by : Affine → Float → Float → Float → Float → Bool
turns_by m a b c d = eq m.a a && (eq m.b b && (eq m.c c && eq m.d d))

-- (a, b, c, d) is one of the eight turns: by none, one, two and three quarters, and the same with a mirror
abbrev pub is_turn : Affine → Bool
is_turn m =
    turns_by m one nought nought one
    || (turns_by m nought one minus_one nought
    || (turns_by m minus_one nought nought minus_one
    || (turns_by m nought minus_one one nought
    || (turns_by m one nought nought minus_one
    || (turns_by m minus_one nought nought one
    || (turns_by m nought one one nought
    || turns_by m nought minus_one minus_one nought))))))

-- the same, as it is tested: two of the numbers are 1 or -1, and the others 0
abbrev pub unit : Float → Bool
unit x = eq x one || eq x minus_one

abbrev pub units_and_zeros : Float → Float → Float → Float → Bool
units_and_zeros p q r s = unit p && (unit q && (eq r nought && eq s nought))

abbrev pub grid_offset : Affine → Bool
grid_offset m = on_grid m.e && on_grid m.f

abbrev pub page_offset : Affine → Bool
page_offset m = on_page m.e && on_page m.f

abbrev pub is_move : Affine → Bool
is_move m = is_turn m && (grid_offset m && page_offset m)

-- why m is no move, what is written first before the rest
abbrev pub refusal : Affine → Option MoveFault
refusal m = cond (is_turn m) (cond (grid_offset m) (cond (page_offset m) None (Some OffPage)) (Some OffGrid)) (Some NotATurn)

-- ---- what they do
-- no turn and no offset
abbrev pub unmoved : Affine
unmoved = affine one nought nought one nought nought

-- what any six numbers are read as: numbers that make no move, as no turn without offset
abbrev pub read_as : Affine → Affine
read_as m = cond (is_move m) m unmoved

-- ad - bc, which is 1 or -1
abbrev pub sign : Affine → ℤ
sign m = cond (lt (det m) nought) (negsuc 0) (pos 1)

-- p taken back through m: the offset subtracted, and the turn undone
abbrev pub taken_back : Affine → Point → Point
taken_back m p = undone (sub binary64 p.x m.e) (sub binary64 p.y m.f)
  where
    undone : Float → Float → Point
    undone x y = point (blend m.a x m.b y) (blend m.c x m.d y)

-- ---- what holds of them
-- two maps are equal but for zero signs
pub record SameMap (m n : Affine) : Type 0 where
  pub a : Alike m.a n.a
  pub b : Alike m.b n.b
  pub c : Alike m.c n.c
  pub d : Alike m.d n.d
  pub e : Alike m.e n.e
  pub f : Alike m.f n.f

-- First m, then n, is the product: its sign is the product of the signs; at each grid point of the field it carries a point forward as m and then n do, and takes one back as n and then m do; a third move before or after may be joined to either first.
pub record Composes (n m : Affine) : Type 0 where
  pub signs : sign (product n m) ≡ sign n *ℤ sign m
  pub forward : (p : Point) → FieldPoint p → Same (image (product n m) p) (image n (image m p))
  pub back : (p : Point) → FieldPoint p → Same (taken_back (product n m) p) (taken_back m (taken_back n p))
  pub associates : (l : Affine) → T (is_move l) → SameMap (product (product l n) m) (product l (product n m))
