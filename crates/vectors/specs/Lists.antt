-- What the lines of a list stand for. Assumes nothing.
use Rattle.std.specs.Prelude.{◌≡◌, ℕ, List, Option, Some, None, Result, Ok, Err}
use Rattle.std.specs.Str.{IsUtf8}
use Rattle.cases.specs.Lines.{IsSkipped}
use Rattle.vectors.specs.declared.case.Case.{Case}
use Rattle.vectors.specs.declared.case.NoCase.{NoCase}
use Rattle.vectors.specs.declared.case.Numbers.{Numbers}
use Rattle.vectors.specs.Answers.{Answers}
use Rattle.vectors.specs.Texts.{AllFit, case_text}

-- The text writes the case, with some arguments, and what it got is the function's answer to them.
abbrev pub CaseOf : List ℕ → Case → Type 0
CaseOf bs c = (a : Numbers) × (bs ≡ case_text c.function a c.expected) × Answers c.function a (Some c.got) × AllFit a × AllFit c.expected

-- Only a line that is empty or begins with '#' is skipped, and each one that is text; only a line that is no case is unreadable.
abbrev pub LineOf : List ℕ → Result (Option Case) NoCase → Type 0
LineOf bs (Ok None) = IsSkipped bs
LineOf bs (Ok (Some c)) = CaseOf bs c
LineOf bs (Err e) = (IsUtf8 bs → ¬ (IsSkipped bs)) × ((c : Case) → ¬ (CaseOf bs c))
