-- Lines that are read one after the other. Assumes nothing.
use Rattle.std.proofs.Common.{◌≡◌, ℕ, ◌<◌, List, [], ◌∷◌, ◌++◌, length, Option, None, Some, refl, sym, ap, ◌∙◌, subst}
use Rattle.std.specs.Prelude.{IfSome}
use Rattle.std.specs.Io.KnownBytes.{IsAtEnd, Keeps}
use Rattle.lines.specs.Lines.{first_line, behind_first_line, LinesUpTo, FirstLinesOf, LinesOf, GivesLine}

one_line_more : (bs left : List ℕ) (lines : List (List ℕ)) (line : List ℕ) → LinesUpTo bs lines left → 0 < length left → line ≡ first_line left → LinesUpTo bs (lines ++ (line ∷ [])) (behind_first_line left)
one_line_more bs left [] line same some first =
    let P : List ℕ → Type 0 = λ xs. (0 < length xs) × (line ≡ first_line xs) × (behind_first_line xs ≡ behind_first_line left) in
    subst P (sym same) (some, first, refl)
one_line_more bs left (l ∷ lines) line h some first = (h.0, h.1, one_line_more (behind_first_line bs) left lines line h.2 some first)

-- where the bytes are known: these are their first lines, and what is left stands behind them
abbrev pub Begins : Option (List ℕ) → Option (List ℕ) → List (List ℕ) → Type 0
Begins known left lines = IfSome known (λ bs. (xs : List ℕ) × (left ≡ Some xs) × LinesUpTo bs lines xs)

pub begins : (known : Option (List ℕ)) → Begins known known []
begins None = tt
begins (Some bs) = (bs, refl, refl)

pub begins_more : (known left later : Option (List ℕ)) (lines : List (List ℕ)) (line : List ℕ) → Begins known left lines → GivesLine left line later → Begins known later (lines ++ (line ∷ []))
begins_more None left later lines line h given = tt
begins_more (Some bs) left later lines line h given =
    let e = h.1 in
    let one = rw e at given in
    (behind_first_line h.0, one.2, one_line_more bs h.0 lines line h.2 one.0 one.1)

pub first_lines : (known left : Option (List ℕ)) (lines : List (List ℕ)) → Begins known left lines → IfSome known (λ bs. FirstLinesOf bs lines)
first_lines None left lines h = tt
first_lines (Some bs) left lines h = (h.0, h.2)

-- at the end of the input they are all of its lines
pub all_lines : (known left later : Option (List ℕ)) (lines : List (List ℕ)) → Begins known left lines → IsAtEnd left → Keeps left later → IfSome known (λ bs. LinesOf bs lines × (later ≡ Some []))
all_lines None left later lines h end kept = tt
all_lines (Some bs) None later lines h end kept = cc
all_lines (Some bs) (Some xs) None lines h end kept = absurd kept
all_lines (Some bs) (Some xs) (Some ys) lines h end kept =
    let e : Some xs ≡ Some h.0 = h.1 in
    let none : h.0 ≡ [] = cc (e, end) in
    (subst (LinesUpTo bs lines) none h.2, ap Some (kept ∙ end))
