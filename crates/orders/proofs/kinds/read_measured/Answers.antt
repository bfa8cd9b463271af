-- The kind of the first word says how long the run is.
use Rattle.std.proofs.Common.{◌≡◌, Ok, ap, sym, subst, ◌∙◌}
use Rattle.orders.specs.Kinds.{kind_of, measured_count, measured_as, measured}
use Rattle.orders.specs.Runs.{◌>>=◌, run, word, after}
use Rattle.orders.specs.Views.{left_of, Answers}
use Rattle.orders.proofs.kinds.read_measured.Goals as goal

pub returns : goal.returns
unfolding measured
returns c =
    let s = left_of c.args.words.now in
    let k = c.in_ok-kind.kind in
    let named : kind_of (word s) ≡ Ok k = ap kind_of (sym c.word.ensures.word) ∙ c.in_ok-kind.ensures in
    let begun : run (measured_count k) (after s).words ≡ left_of c.run.new.self = sym (c.run.ensures ∙ (λ i. run (c.wanted_to_measure.ensures i) (c.word.ensures.left i).words)) in
    let is : measured s ≡ measured_as k (left_of c.run.new.self) = ap (λ r. r >>= λ k. measured_as k (run (measured_count k) (after s).words)) named ∙ ap (measured_as k) begun in
    subst (λ r. Answers (λ m. m) c.read_measured.result r) (sym is) c.read_measured.ensures
