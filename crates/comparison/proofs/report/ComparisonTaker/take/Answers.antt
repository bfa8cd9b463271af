-- The line's case is put. Assumes nothing.
use Rattle.std.proofs.Common.{◌≡◌, Ok, Some, inr, ◌∙◌, rules}
use Rattle.comparison.specs.Cases.{CaseOf}
use Rattle.comparison.proofs.Countings.{then_counts}
use Rattle.comparison.proofs.report.ComparisonTaker.take.Goals as goal

pub returns-in-Some : goal.returns-in-Some
returns-in-Some g c =
    let read : c.text_in.result ≡ Ok (Some c.in-Ok-Some.text) = search rules in
    let text = rw read at c.text_in.ensures in
    let told : CaseOf c.in-Ok-Some.text.now c.in-Some.question c.in-Some.expected.now = c.in-Some.ensures in
    let on_line : CaseOf c.args.line.now c.in-Some.question c.in-Some.expected.now = rw text.0 at told in
    record {
      lines = c.put.ensures.lines ∙ c.next_line.ensures.lines;
      counts = inr (inr (c.in-Some.question, c.in-Some.expected.now, on_line, then_counts c.args.self.now (record { report = c.next_line.new.self; heap = c.args.self.now.heap }) c.put.new.self _ _ _ c.next_line.ensures.counts c.put.ensures.counts));
    }
