-- What is counted. Assumes nothing.
use Rattle.std.specs.Prelude.{◌≡◌, ℕ, ◌+◌, Bool, false, IsTrue, IsFalse, List, Option, Some, None, Result, Ok, Err}
use Rattle.cases.specs.Counts.{at_most}
use Rattle.cases.specs.Reports as Reports
use Rattle.vectors.specs.declared.case.Case.{Case}
use Rattle.vectors.specs.declared.case.NoCase.{NoCase}
use Rattle.vectors.specs.declared.report.Vectors.{Vectors}
use Rattle.vectors.specs.Answers.{alike}
use Rattle.vectors.specs.Lists.{LineOf}
use Rattle.vectors.specs.Functions.{place_of}

-- nothing is counted
abbrev pub IsEmpty : Vectors → Type 0
IsEmpty v = Reports.IsEmpty v.report

-- A case counts for its function and in all; a line that cannot be read counts in all, as one that differs.
abbrev pub Tallied : Vectors → Result (Option Case) NoCase → Vectors → Type 0
Tallied old (Ok None) new = Reports.IsUnchanged old.report new.report
Tallied old (Ok (Some c)) new = Reports.Tallied old.report (place_of c.function) (alike c.got c.expected) new.report
Tallied old (Err e) new = Reports.Unread old.report new.report

-- whether a line is written of it, now that it is counted
abbrev pub is_shown : Vectors → Result (Option Case) NoCase → Bool
is_shown v (Ok None) = false
is_shown v (Ok (Some c)) = Reports.is_shown v.report (alike c.got c.expected)
is_shown v (Err e) = Reports.is_shown v.report false

-- a line counts as what it stands for, also where that cannot be written
abbrev pub CountsLine : Vectors → List ℕ → Bool → Vectors → Type 0
CountsLine old line ok new = (l : Result (Option Case) NoCase) × LineOf line l × Tallied old l new × (IsFalse ok → IsTrue (is_shown new l))

-- a line more is counted; all goes well unless something is written
pub record TakesLine (old : Vectors) (line : List ℕ) (ok : Bool) (new : Vectors) : Type 0 where
  pub lines : Reports.lines_of new.report ≡ at_most (Reports.lines_of old.report + 1)
  pub counts : CountsLine old line ok new
