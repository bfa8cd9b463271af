-- Where no word is left, those that were read are all.
use Rattle.std.proofs.Common.{◌≡◌, ◌+◌, [], length, min, ap, sym, ◌∙◌, arith}
use Rattle.std.proofs.lemmas.Bool.{eqb-true}
use Rattle.std.proofs.lemmas.List.{nil_from_length}
use Rattle.std.specs.Str.Iter.{split_whitespace_rest}
use Rattle.orders.specs.Reasons.{miscounted}
use Rattle.orders.specs.Words.{words_of}
use Rattle.orders.specs.Runs.{others_of}
use Rattle.orders.proofs.Split.{none_left}
use Rattle.orders.proofs.words.Words.miscount.Goals as goal

pub returns : goal.returns
returns c =
    let none = nil_from_length c.word.result.now (eqb-true _ 0 (sym c.is_empty.ensures ∙ c.loop-test.false)) in
    let all : words_of (split_whitespace_rest c.loop.self.left) ≡ [] = none_left _ (sym c.word.ensures.word ∙ none) in
    let last : length (words_of (split_whitespace_rest c.word.new.self.left)) ≡ 0 = ap (λ s. length s.words) c.word.ensures.left ∙ ap (λ ws. length (others_of ws)) all in
    let counted : c.word.new.self.given ≡ min (c.word.new.self.given + length (words_of (split_whitespace_rest c.word.new.self.left))) 18446744073709551615 = omega arith in
    ap (miscounted c.word.new.self.wanted) counted ∙ ap (λ s. s.miscount) c.word.ensures.left ∙ c.loop.invariant
