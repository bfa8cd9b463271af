-- The second and the seventh power, by the order of their products. Assumes nothing.
use Rattle.std.specs.Prelude.{Float}
use Rattle.std.specs.Float.{binary64}
use Rattle.std.specs.Float.Ieee.{mul}

abbrev pub square : Float → Float
square h = mul binary64 h h

abbrev pub seventh : Float → Float
seventh h = mul binary64 (mul binary64 h (square h)) (mul binary64 (square h) (square h))
