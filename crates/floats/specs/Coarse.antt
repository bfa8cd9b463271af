-- A sum that lies where floats are 1/256 apart, and back: what the test for grid numbers computes. Assumes nothing.
use Rattle.std.specs.Prelude.{from_bits, Float}
use Rattle.std.specs.Float.{binary64}
use Rattle.std.specs.Float.Ieee.{add, sub}

-- 2 ^ 44: from here on floats are 1/256 apart, or more
abbrev pub coarse : Float
coarse = from_bits binary64 0x42b0_0000_0000_0000

abbrev pub back : Float → Float
back x = sub binary64 (add binary64 x coarse) coarse
