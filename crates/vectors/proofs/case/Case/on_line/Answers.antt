-- Only text is a case, and only text that is not skipped is read as one. Assumes nothing.
use Rattle.std.proofs.Common.{◌≡◌, Ok, Some, rules}
use Rattle.vectors.proofs.Readings.{no_text, no_case}
use Rattle.vectors.proofs.case.Case.on_line.Goals as goal

pub returns-in_err-text : goal.returns-in_err-text
returns-in_err-text c = no_text c.args.line.now c.from_residual.result c.from_residual.ensures.0 c.in_err-text.ensures

pub returns-in_err-parse-in-Some : goal.returns-in_err-parse-in-Some
returns-in_err-parse-in-Some c =
    let read : c.text_in.result ≡ Ok (Some c.in-Some.text) = search rules in
    let told = rw read at c.text_in.ensures in
    no_case c.args.line.now c.in-Some.text.now _ c.from_residual-in_err-parse-in-Some.ensures.0 told.0 told.1 c.in_err-parse-in-Some.ensures.value
