-- Grid numbers, the page and the field. The unit is the staff space. Assumes nothing.
use Rattle.std.specs.Prelude.{ℕ, ◌*◌, ◌%◌, ◌<◌, ◌≤◌, Bool, false, ℤ, pos, ◌==◌, unsigned_abs, Float}
use Rattle.std.specs.Float.Ieee.{of_int, up, down, le}
use Rattle.std.specs.Float.{float_with_sign, nan, inf, fin, binary64}
use Rattle.floats.specs.Value.{Is, Val, In}

-- x is a multiple of 1/256
abbrev pub GridNumber : Float → Type 0
GridNumber x = (k : ℤ) × Val x k 8

-- x is finite, and at most n in size
abbrev pub UpTo : ℕ → Float → Type 0
UpTo n x = (k : ℤ) × (c : ℕ) × (0 < c) × Is x k c × (unsigned_abs k ≤ n * c)

-- the page, and the field around it, ends included
abbrev pub OnPage : Float → Type 0
OnPage = UpTo 4096

abbrev pub InField : Float → Type 0
InField = UpTo 32768

-- x is the grid number k / 256, and lies in the field: 8388608 is 32768 * 256
abbrev pub Grid : Float → ℤ → Type 0
Grid x k = In x k 8 8388608

-- ---- as tests
-- 256 x is a whole number
abbrev pub on_grid : Float → Bool
on_grid nan = false
on_grid (inf s) = false
on_grid (fin s m e) = m * up e * 256 % down e == 0

-- x is at most n in size
abbrev pub up_to : ℕ → Float → Bool
up_to n x = le (float_with_sign false x) (of_int binary64 (pos n))

abbrev pub on_page : Float → Bool
on_page = up_to 4096

abbrev pub in_field : Float → Bool
in_field = up_to 32768
