-- The numbers of the rounded rectangle come first, and then those that it is asked with. Assumes nothing.
use Rattle.std.proofs.Common.{refl}
use Rattle.comparison.proofs.Takings.{takes_both}
use Rattle.comparison.proofs.read.Words.rounded_question.Goals as goal

pub returns-in_ok-ask-in_default-clause-text : goal.returns-in_ok-ask-in_default-clause-text
returns-in_ok-ask-in_default-clause-text c =
    let own = c.in_ok-rounded.ensures in
    let asked = c.in_ok-ask-in_default.ensures in
    (_, (own.0, asked.0, own.1, asked.1, refl), takes_both _ _ _ own.0 asked.0 own.2 asked.2)
