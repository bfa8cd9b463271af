-- How a list of cases is written. Assumes nothing.
use Rattle.std.specs.Prelude.{◌≡◌, ℕ, T, List, ◌++◌, codes}
use Rattle.std.specs.Float.{binary64}
use Rattle.std.specs.Float.Ieee.{fits}
use Rattle.cases.specs.Texts.{written}
use Rattle.vectors.specs.declared.case.Function.{Function}
use Rattle.vectors.specs.declared.case.Numbers.{Numbers}
use Rattle.vectors.specs.declared.case.Numbers.TheVariants.{One, Two}
use Rattle.vectors.specs.Functions.{name_of}

abbrev pub text_of : Numbers → List ℕ
text_of (One x) = written x
text_of (Two x y) = written x ++ (codes " " ++ written y)

-- each is a value of the format
abbrev pub AllFit : Numbers → Type 0
AllFit (One x) = T (fits binary64 x)
AllFit (Two x y) = T (fits binary64 x) × T (fits binary64 y)

-- the text writes the numbers, which are values of the format
abbrev pub WritesAll : List ℕ → Numbers → Type 0
WritesAll text n = AllFit n × (text ≡ text_of n)

-- NAME ARGUMENT.. -> ANSWER..
abbrev pub case_text : Function → Numbers → Numbers → List ℕ
case_text f a e = name_of f ++ (codes " " ++ (text_of a ++ (codes " -> " ++ text_of e)))
