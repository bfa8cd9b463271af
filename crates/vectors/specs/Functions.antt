-- The functions that a list has cases of: their names, and the places of their tallies. Assumes nothing.
use Rattle.std.specs.Prelude.{◌≡◌, ℕ, ◌<◌, List, [], ◌∷◌, codes, Some, refl}
use Rattle.std.specs.List.{find}
use Rattle.std.specs.Str.{bytes_eq}
use Rattle.std.proofs.Common.{lit<}
use Rattle.cases.specs.Names.{NamesEach}
use Rattle.cases.proofs.Searches.{names_each}
use Rattle.vectors.specs.declared.case.Function.{Function}
use Rattle.vectors.specs.declared.case.Function.TheVariants.{Sqrt, SinCos, Tan, Atan2, SixthRoot, Powi2, Powi7}

abbrev pub name_of : Function → List ℕ
name_of Sqrt = codes "sqrt"
name_of SinCos = codes "sin_cos"
name_of Tan = codes "tan"
name_of Atan2 = codes "atan2"
name_of SixthRoot = codes "sixth_root"
name_of Powi2 = codes "powi2"
name_of Powi7 = codes "powi7"

-- in the order of the report
abbrev pub all_functions : List Function
all_functions = Sqrt ∷ SinCos ∷ Tan ∷ Atan2 ∷ SixthRoot ∷ Powi2 ∷ Powi7 ∷ []

found : (f : Function) → find (λ g. bytes_eq (name_of g) (name_of f)) all_functions ≡ Some f
found Sqrt = refl
found SinCos = refl
found Tan = refl
found Atan2 = refl
found SixthRoot = refl
found Powi2 = refl
found Powi7 = refl

pub function_names : NamesEach name_of all_functions
function_names = names_each name_of all_functions found

abbrev pub place_of : Function → ℕ
place_of Sqrt = 0
place_of SinCos = 1
place_of Tan = 2
place_of Atan2 = 3
place_of SixthRoot = 4
place_of Powi2 = 5
place_of Powi7 = 6

pub places_within : (f : Function) → place_of f < 7
places_within Sqrt = lit< tt
places_within SinCos = lit< tt
places_within Tan = lit< tt
places_within Atan2 = lit< tt
places_within SixthRoot = lit< tt
places_within Powi2 = lit< tt
places_within Powi7 = lit< tt
