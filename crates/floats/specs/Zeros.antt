-- Floats that are equal but for the sign of a zero. Assumes nothing.
use Rattle.std.specs.Prelude.{◌≡◌, ◌⊎◌, Float}
use Rattle.std.specs.Float.{nan, inf, fin}

abbrev pub IsZero : Float → Type 0
IsZero nan = ⊥
IsZero (inf s) = ⊥
IsZero (fin s m e) = m ≡ 0

-- Two floats are equal when their values are: the two zeros are, and not-a-number is one value.
abbrev pub Alike : Float → Float → Type 0
Alike x y = (x ≡ y) ⊎ (IsZero x × IsZero y)
