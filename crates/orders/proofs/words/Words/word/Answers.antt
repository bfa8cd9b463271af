-- The next word comes off the front of those that are left, and is counted.
use Rattle.std.proofs.Common.{◌+◌, ◌<◌, length, min, ap, sym, subst, ◌∙◌, refl, arith}
use Rattle.std.proofs.lemmas.Bool.{eqb-true, eqb-false}
use Rattle.std.proofs.lemmas.List.{nil_from_length}
use Rattle.std.specs.Str.Iter.{split_whitespace_rest}
use Rattle.orders.specs.Reasons.{miscounted}
use Rattle.orders.specs.Words.{words_of}
use Rattle.orders.proofs.Split.{turned, same_left, counted_on, none_left, past_last}
use Rattle.orders.proofs.words.Words.word.Goals as goal

pub returns-then-not-is_empty-clause-word : goal.returns-then-not-is_empty-clause-word
returns-then-not-is_empty-clause-word c = (turned c.args.self.now.left c.next.new.self c.next.result _ c.unwrap_or-word.result refl c.next.ensures.steps c.unwrap_or-word.ensures c.unwrap_or-word.utf8).word

pub returns-else-not-is_empty-clause-word : goal.returns-else-not-is_empty-clause-word
returns-else-not-is_empty-clause-word c = (turned c.args.self.now.left c.next.new.self c.next.result _ c.unwrap_or-word.result refl c.next.ensures.steps c.unwrap_or-word.ensures c.unwrap_or-word.utf8).word

pub returns-then-not-is_empty-clause-left : goal.returns-then-not-is_empty-clause-left
returns-then-not-is_empty-clause-left c =
    let t = turned c.args.self.now.left c.next.new.self c.next.result _ c.unwrap_or-word.result refl c.next.ensures.steps c.unwrap_or-word.ensures c.unwrap_or-word.utf8 in
    let ws = words_of (split_whitespace_rest c.args.self.now.left) in
    let some : 0 < length c.unwrap_or-word.result.now = omega (arith, eqb-false _ 0 (sym c.is_empty.ensures ∙ c.if-not-is_empty.true)) in
    let count = (λ i. min (c.saturating_add-self.ensures i + length (t.left i)) 18446744073709551615) ∙ counted_on ws c.args.self.now.given (none_left _) (subst (λ w. 0 < length w) t.word some) in
    same_left _ _ _ _ t.left (ap (miscounted c.args.self.now.wanted) count)

pub returns-else-not-is_empty-clause-left : goal.returns-else-not-is_empty-clause-left
returns-else-not-is_empty-clause-left c =
    let t = turned c.args.self.now.left c.next.new.self c.next.result _ c.unwrap_or-word.result refl c.next.ensures.steps c.unwrap_or-word.ensures c.unwrap_or-word.utf8 in
    let none = nil_from_length c.unwrap_or-word.result.now (eqb-true _ 0 (sym c.is_empty.ensures ∙ c.if-not-is_empty.false)) in
    let last = t.left ∙ past_last (words_of (split_whitespace_rest c.args.self.now.left)) (none_left _) (sym t.word ∙ none) in
    same_left _ _ _ _ t.left (ap (λ ws. miscounted c.args.self.now.wanted (min (c.args.self.now.given + length ws) 18446744073709551615)) last)
