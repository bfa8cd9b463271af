-- A text of two numbers is split at its one blank, and any other is that of one number or of none. Assumes nothing.
use Rattle.std.proofs.Common.{◌≡◌, None, rules}
use Rattle.std.specs.Result.{result_ok}
use Rattle.vectors.proofs.Splits.{no_first, no_second, no_number}
use Rattle.vectors.proofs.case.NumbersFromStr.from_str.Goals as goal

pub returns-in_err-x-in-Some : goal.returns-in_err-x-in-Some
returns-in_err-x-in-Some c =
    let err : result_ok c.from_residual.result ≡ None = search rules in
    rw err (no_first c.args.text.now (c.in-Some.first, c.in-Some.second) c.in-Some.ensures.cases c.in_err-x-in-Some.ensures.value)

pub returns-in_err-y-in-Some : goal.returns-in_err-y-in-Some
returns-in_err-y-in-Some c =
    let err : result_ok c.from_residual-in_err-y-in-Some.result ≡ None = search rules in
    rw err (no_second c.args.text.now (c.in-Some.first, c.in-Some.second) c.in-Some.ensures.cases c.in_err-y-in-Some.ensures.value)

pub returns-in_err-x-in-None : goal.returns-in_err-x-in-None
returns-in_err-x-in-None c =
    let err : result_ok c.from_residual-in_err-x-in-None.result ≡ None = search rules in
    rw err (no_number c.args.text.now c.in-None.ensures.cases c.in_err-x-in-None.ensures.value)
