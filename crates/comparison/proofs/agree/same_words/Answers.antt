-- A turn takes a word of each text, and at the end no word is left of either. Assumes nothing.
use Rattle.std.proofs.Common.{◌≡◌, None, rules}
use Rattle.std.specs.Prelude.{IsTrue}
use Rattle.comparison.proofs.Pairs.{none_came, one_more, agree_by}
use Rattle.comparison.proofs.agree.same_words.Goals as goal

pub loop-word-init : goal.loop-word-init
loop-word-init c = (tt, tt, none_came _ _ _)

pub loop-word-preserved : goal.loop-word-preserved
loop-word-preserved c =
    let same : IsTrue c.same_word.result = search rules in
    (tt, tt, one_more _ _ _ _ _ _ _ c.in-Some.word c.in-Some-next.other c.loop-word.invariant.2 c.in-Some.ensures.steps c.in-Some-next.ensures.steps (c.same_word.ensures same))

pub returns : goal.returns
returns c = λ t.
    let none : c.next-2.result ≡ None = search rules in
    let last = rw none at c.next-2.ensures.steps in
    agree_by _ _ _ _ _ _ _ _ _ (search rules) c.split_whitespace-others.ensures.rest c.loop-word.invariant.2 c.in-None.ensures.steps last
