-- The kind of the first word says how long the run is.
use Rattle.std.proofs.Common.{◌≡◌, Ok, ap, sym, subst, ◌∙◌}
use Rattle.orders.specs.Kinds.{kind_of, shape, mark}
use Rattle.orders.specs.Runs.{◌>>=◌, run, word, after}
use Rattle.orders.specs.Values.{count}
use Rattle.orders.specs.Views.{left_of, Reads}
use Rattle.orders.proofs.kinds.MarkNamed.read.Goals as goal

pub returns : goal.returns
unfolding mark
returns c =
    let s = left_of c.args.words.now in
    let k = c.in_ok-kind.kind in
    let named : kind_of (word s) ≡ Ok k = ap kind_of (sym c.word.ensures.word) ∙ c.in_ok-kind.ensures in
    let begun : run (count k) (after s).words ≡ left_of c.run.new.self = sym (c.run.ensures ∙ (λ i. run (c.wanted.ensures i) (c.word.ensures.left i).words)) in
    let is : mark s ≡ shape k (left_of c.run.new.self) = ap (λ r. r >>= λ k. shape k (run (count k) (after s).words)) named ∙ ap (shape k) begun in
    subst (λ r. Reads (λ m. m) c.read.result r (left_of c.read.new.words)) (sym is) c.read.ensures
