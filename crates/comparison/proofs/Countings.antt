-- What is counted in two steps. Assumes nothing.
use Rattle.std.proofs.Common.{List, ℕ, Bool, inl, inr, ◌∙◌}
use Rattle.questions.specs.declared.question.Question.{Question}
use Rattle.comparison.specs.declared.report.Comparison.{Comparison}
use Rattle.comparison.specs.Counts.{IsUnchanged, CountsCase}

-- first no case is counted, and then this one
pub then_counts : (old mid new : Comparison) (q : Question) (e : List ℕ) (ok : Bool) → IsUnchanged old mid → CountsCase mid q e ok new → CountsCase old q e ok new
then_counts old mid new q e ok same (inl h) = inl (h.0, (h.1.0 ∙ same.0, h.1.1 ∙ same.1))
then_counts old mid new q e ok same (inr h) = inr (h.0, h.1, (rw same.0 at h.2.0, rw same.1 at h.2.1), h.3)
