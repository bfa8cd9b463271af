-- When two numbers agree: by their bits, or by their values. Assumes nothing.
use Rattle.std.specs.Prelude.{Bool, ◌&&◌, ◌||◌, ◌==◌, is_nan, to_bits, Float}
use Rattle.std.specs.Float.{binary64}
use Rattle.std.specs.Float.Ieee.{eq}

-- There is one not-a-number, and there are two zeros.
abbrev pub same_bits : Float → Float → Bool
same_bits x y = to_bits binary64 x == to_bits binary64 y

-- There is one not-a-number, and one zero.
abbrev pub same_value : Float → Float → Bool
same_value x y = eq x y || (is_nan x && is_nan y)
