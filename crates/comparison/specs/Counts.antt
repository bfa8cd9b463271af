-- What is counted. Assumes nothing.
use Rattle.std.specs.Prelude.{◌≡◌, ℕ, ◌+◌, Bool, false, IsTrue, IsFalse, ◌⊎◌, List}
use Rattle.std.specs.Str.{IsUtf8}
use Rattle.cases.specs.Counts.{at_most}
use Rattle.cases.specs.Lines.{IsSkipped}
use Rattle.cases.specs.Reports as Reports
use Rattle.questions.specs.declared.answer.Answer.{Answer}
use Rattle.questions.specs.declared.question.Question.{Question}
use Rattle.questions.specs.Answers.{RightTo}
use Rattle.questions.specs.Names.{kind_of, place_of}
use Rattle.questions.specs.Texts.{text_of}
use Rattle.comparison.specs.declared.report.Comparison.{Comparison}
use Rattle.comparison.specs.Agree.{AgreeBy, equal}
use Rattle.comparison.specs.Cases.{CaseOf}

-- nothing is counted
abbrev pub IsEmpty : Comparison → Type 0
IsEmpty c = Reports.IsEmpty c.report

-- no line and no case is counted
abbrev pub IsUnchanged : Comparison → Comparison → Type 0
IsUnchanged old new = Reports.IsUnchanged old.report new.report

-- the question has a right answer with the words that are expected
abbrev pub Agrees : Question → List ℕ → Type 0
Agrees q expected = (a : Answer) × RightTo q a × AgreeBy (λ x y. IsTrue (equal (kind_of q) x y)) (text_of a) expected

-- a case counts for its kind and in all, and as one that agrees only if it does, also where what it got cannot be written
abbrev pub TalliesCase : Comparison → Question → List ℕ → Bool → Comparison → Type 0
TalliesCase old q expected ok new =
    (b : Bool) × (IsTrue b → Agrees q expected)
    × Reports.Tallied old.report (place_of (kind_of q)) b new.report
    × (IsFalse ok → IsTrue (Reports.is_shown new.report b))

-- it counts, unless all does not go well: where there is no memory for its answer, it is not counted
abbrev pub CountsCase : Comparison → Question → List ℕ → Bool → Comparison → Type 0
CountsCase old q expected ok new = (IsFalse ok × IsUnchanged old new) ⊎ TalliesCase old q expected ok new

pub record PutsCase (old : Comparison) (q : Question) (expected : List ℕ) (ok : Bool) (new : Comparison) : Type 0 where
  pub lines : Reports.lines_of new.report ≡ Reports.lines_of old.report
  pub counts : CountsCase old q expected ok new

-- a line that is skipped counts as no case, and all goes well
abbrev pub SkipsLine : Comparison → List ℕ → Bool → Comparison → Type 0
SkipsLine old line ok new = IsSkipped line × IsUnchanged old new × IsTrue ok

-- a line that is no text or not skipped counts as one that differs, also where that cannot be written
abbrev pub PassesOver : Comparison → List ℕ → Bool → Comparison → Type 0
PassesOver old line ok new =
    (IsUtf8 line → ¬ (IsSkipped line))
    × Reports.Unread old.report new.report
    × (IsFalse ok → IsTrue (Reports.is_shown new.report false))

-- a line that has a case counts as that case does
abbrev pub TakesCase : Comparison → List ℕ → Bool → Comparison → Type 0
TakesCase old line ok new = (q : Question) × (e : List ℕ) × CaseOf line q e × CountsCase old q e ok new

-- a line more is counted, as what it stands for
pub record TakesLine (old : Comparison) (line : List ℕ) (ok : Bool) (new : Comparison) : Type 0 where
  pub lines : Reports.lines_of new.report ≡ at_most (Reports.lines_of old.report + 1)
  pub counts : SkipsLine old line ok new ⊎ (PassesOver old line ok new ⊎ TakesCase old line ok new)
