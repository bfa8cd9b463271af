-- One number more is written. Assumes nothing.
use Rattle.std.proofs.Common.{ℕ, ◌+◌, ◌<◌, ◌≤◌, List, [], ◌++◌, length, get_or, drop, codes, refl, sym, subst}
use Rattle.std.proofs.lemmas.List.{append_assoc, drop_more, drop_all}
use lib.Ieee.{Float}
use Rattle.numerals.specs.Numerals.{IsNumeral, Text}
use Rattle.exam.specs.Texts.{SaysNumbers}

pub number_more : (xs : List Float) (i : ℕ) (d : Float) (numeral : Text) → i < length xs → IsNumeral (get_or xs i d) numeral
    → (rest : Text) → SaysNumbers (drop (i + 1) xs) rest → SaysNumbers (drop i xs) ((codes " " ++ numeral) ++ rest)
number_more xs i d numeral h known rest said =
    subst (λ (l : List Float). SaysNumbers l ((codes " " ++ numeral) ++ rest)) (sym (drop_more xs i d h))
    (numeral, rest, known, said, append_assoc (codes " ") numeral rest)

pub no_numbers : (xs : List Float) (i : ℕ) → length xs ≤ i → SaysNumbers (drop i xs) []
no_numbers xs i h = subst (λ (l : List Float). SaysNumbers l []) (sym (drop_all i xs h)) refl
