-- The text is split at the arrow; before it stand the two names and the numbers, and nothing else. Assumes nothing.
use Rattle.std.proofs.Common.{Some, codes, sym, ap, ◌∙◌, []}
use Rattle.std.proofs.lemmas.Str.Pattern.{split_text_parts}
use Rattle.questions.specs.Names.{name_of}
use Rattle.comparison.proofs.Takings.{two_and_more}
use Rattle.comparison.proofs.read.case.Goals as goal

pub returns : goal.returns
returns c =
    let asked = c.in_ok-asked.asked in
    let expected = c.in_ok-asked.expected in
    let told = c.in_ok-question.ensures in
    let sides = split_text_parts (codes " -> ") c.args.text.now (Some (asked, expected)) c.in_ok-asked.ensures.cases in
    let name = c.in_ok-kind.ensures ∙ sym (ap name_of told.kind) in
    let all = c.in_ok-word.ensures _ (c.in_ok-word-2.ensures _ (told.text.2 [] c.in_ok-end.ensures)) in
    let words = two_and_more _ _ _ _ _ _ name c.in_ok-what.ensures all in
    (asked.now, _, told.text.0, sides, (_, c.split_whitespace.ensures.rest, words), told.text.1)
