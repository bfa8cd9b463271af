-- As many words came of both texts, each like the other's. Assumes nothing.
use Rattle.std.specs.Prelude.{IsTrue}
use Rattle.comparison.specs.Agree.{equal}
use Rattle.comparison.proofs.Pairs.{AgreeSoFar}
use Rattle.comparison.proofs.agree.same_words.Given as goal

abbrev pub invariant-loop-word : goal.invariant-loop-word
invariant-loop-word l =
    goal.iterator-loop-word.can_next l.word-iterator
    × goal.iterator-loop-word.is_finite l.word-iterator
    × AgreeSoFar (λ x y. IsTrue (equal l.kind x y)) l.initial.word-iterator l.word-iterator l.initial.others l.others
