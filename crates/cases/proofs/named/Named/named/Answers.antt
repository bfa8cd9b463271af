-- The search goes over the whole list, which has each value. Assumes nothing.
use Rattle.std.proofs.Common.{◌≡◌, ap, ◌∙◌, rules}
use Rattle.std.proofs.lemmas.Iterator.{YieldsList-from_slice, first_from_find}
use Rattle.std.proofs.lemmas.Iterator.Consumers.{YieldsList-from_copied}
use borrow.Author.Tests.{tests}
use Rattle.cases.proofs.Searches.{finds_first}
use Rattle.cases.proofs.named.Named.named.Goals as goal

pub returns : goal.returns
returns g c =
    let named = g.Self.Named.name_of in
    let whole = ap (λ s. s.rest.now) c.copied.ensures.source ∙ c.iter.ensures.rest ∙ c.all.ensures in
    let chain = YieldsList-from_copied {s = c.copied.result} (YieldsList-from_slice g.Self.Named.all whole) in
    finds_first named g.Self.Named.all c.args.name.now c.find.result g.met.Self.Named.each
    (first_from_find _ _ c.find.result (λ k. c.args.name.now ≡ named k) (λ k. c.args.name.now ≡ named k → ⊥) c.find.ensures.ran chain (λ x q k. search (rules, tests)) (λ x q k. search (rules, tests)))
