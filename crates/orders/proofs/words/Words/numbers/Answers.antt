-- Each turn reads the next number, and the first that is refused ends the run.
use Rattle.std.proofs.Common.{rules, Ok, take, ap, ◌∙◌, arith}
use Rattle.std.proofs.lemmas.List.{take_more_set, take_all, length-set}
use Rattle.orders.specs.Runs.{numbers}
use Rattle.orders.specs.Views.{left_of}
use Rattle.orders.proofs.Loop.{goes_on, fails, is_done}
use Rattle.orders.proofs.words.Words.numbers.Goals as goal

pub returns-in_err-value : goal.returns-in_err-value
returns-in_err-value g c =
    let e = fails (take c.loop-value.value-index c.loop-value.value-items) g.row.N c.loop-value.value-index (left_of c.loop-value.self) _ (numbers g.row.N (left_of c.args.self.now)) c.loop-value-test.true c.in_err-value.ensures c.loop-value.invariant.read in
    search rules

pub loop-value-preserved : goal.loop-value-preserved
loop-value-preserved g c =
    let e = take_more_set c.loop-value.value-items c.loop-value.value-index c.in_ok-value.field-0 (omega arith) in
    record {
      long = length-set c.loop-value.value-items c.loop-value.value-index _ ∙ c.loop-value.invariant.long;
      read = rw e (goes_on (take c.loop-value.value-index c.loop-value.value-items) g.row.N c.loop-value.value-index (left_of c.loop-value.self) (left_of c.number.new.self) c.in_ok-value.field-0 (numbers g.row.N (left_of c.args.self.now)) c.loop-value-test.true c.in_ok-value.ensures c.loop-value.invariant.read);
    }

pub returns : goal.returns
returns g c =
    is_done (take c.loop-value.value-index c.loop-value.value-items) g.row.N c.loop-value.value-index (left_of c.loop-value.self) (numbers g.row.N (left_of c.args.self.now)) c.loop-value-test.false c.loop-value.invariant.read
    ∙ ap (λ xs. Ok (xs, left_of c.loop-value.self)) (take_all c.loop-value.value-index c.loop-value.value-items (omega (arith, c.loop-value.invariant.long)))
