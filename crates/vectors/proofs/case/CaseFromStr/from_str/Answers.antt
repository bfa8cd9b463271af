-- The text is split at its arrow, and what stands before that at the blank after the name. Assumes nothing.
use Rattle.std.proofs.Common.{◌≡◌, Some, None, codes, arith, rules}
use Rattle.std.specs.Result.{result_ok}
use Rattle.std.proofs.lemmas.Str.Pattern.{split_parts, split_text_parts}
use Rattle.vectors.proofs.Readings.{no_arrow, no_name, no_function, no_arguments, no_answer, no_expected, two_sides}
use Rattle.vectors.proofs.case.CaseFromStr.from_str.Goals as goal

pub returns-in_err-question : goal.returns-in_err-question
returns-in_err-question c =
    let err : result_ok c.from_residual.result ≡ None = search rules in
    let none : c.split_once.result ≡ None = search rules in
    let at_arrow = rw none at c.split_once.ensures.cases in
    rw err (λ k. no_arrow c.args.text.now k at_arrow)

pub returns-in_err-name : goal.returns-in_err-name
returns-in_err-name c =
    let err : result_ok c.from_residual-in_err-name.result ≡ None = search rules in
    let some : c.split_once.result ≡ Some (c.in_ok-question.question, c.in_ok-question.answer) = search rules in
    let none : c.split_once-2.result ≡ None = search rules in
    let at_arrow = rw some at c.split_once.ensures.cases in
    let at_blank = rw none at c.split_once-2.ensures.cases in
    rw err (λ k. no_name c.args.text.now k c.in_ok-question.question c.in_ok-question.answer at_arrow at_blank)

pub returns-in_err-function : goal.returns-in_err-function
returns-in_err-function c =
    let err : result_ok c.from_residual-in_err-function.result ≡ None = search rules in
    let arrow : c.split_once.result ≡ Some (c.in_ok-question.question, c.in_ok-question.answer) = search rules in
    let blank : c.split_once-2.result ≡ Some (c.in_ok-name.name, c.in_ok-name.arguments) = search rules in
    let none : c.named.result ≡ None = search rules in
    let at_arrow = rw arrow at c.split_once.ensures.cases in
    let at_blank = rw blank at c.split_once-2.ensures.cases in
    rw err (λ k. no_function c.args.text.now k c.in_ok-question.question c.in_ok-question.answer at_arrow c.in_ok-name.name c.in_ok-name.arguments at_blank (rw none at c.named.ensures))

pub returns-in_err-parse : goal.returns-in_err-parse
returns-in_err-parse c =
    let err : result_ok c.from_residual-in_err-parse.result ≡ None = search rules in
    let arrow : c.split_once.result ≡ Some (c.in_ok-question.question, c.in_ok-question.answer) = search rules in
    let blank : c.split_once-2.result ≡ Some (c.in_ok-name.name, c.in_ok-name.arguments) = search rules in
    let at_arrow = rw arrow at c.split_once.ensures.cases in
    let at_blank = rw blank at c.split_once-2.ensures.cases in
    rw err (λ k. no_arguments c.args.text.now k c.in_ok-question.question c.in_ok-question.answer at_arrow c.in_ok-name.name c.in_ok-name.arguments at_blank c.in_err-parse.ensures.value)

pub returns-in_err-got : goal.returns-in_err-got
returns-in_err-got c =
    let err : result_ok c.from_residual-in_err-got.result ≡ None = search rules in
    let arrow : c.split_once.result ≡ Some (c.in_ok-question.question, c.in_ok-question.answer) = search rules in
    let blank : c.split_once-2.result ≡ Some (c.in_ok-name.name, c.in_ok-name.arguments) = search rules in
    let function : c.named.result ≡ Some c.in_ok-function.function = search rules in
    let none : c.answer.result ≡ None = search rules in
    let at_arrow = rw arrow at c.split_once.ensures.cases in
    let at_blank = rw blank at c.split_once-2.ensures.cases in
    rw err (λ k. no_answer c.args.text.now k c.in_ok-question.question c.in_ok-question.answer at_arrow c.in_ok-name.name c.in_ok-name.arguments at_blank c.in_ok-function.function c.in_ok-parse.field-0 (rw function at c.named.ensures) c.in_ok-parse.ensures.value (rw none at c.answer.ensures))

pub returns-in_err-expected : goal.returns-in_err-expected
returns-in_err-expected c =
    let err : result_ok c.from_residual-in_err-expected.result ≡ None = search rules in
    let arrow : c.split_once.result ≡ Some (c.in_ok-question.question, c.in_ok-question.answer) = search rules in
    let at_arrow = rw arrow at c.split_once.ensures.cases in
    rw err (λ k. no_expected c.args.text.now k c.in_ok-question.question c.in_ok-question.answer at_arrow c.in_err-expected.ensures.value)

pub returns : goal.returns
returns c =
    let arrow : c.split_once.result ≡ Some (c.in_ok-question.question, c.in_ok-question.answer) = search rules in
    let blank : c.split_once-2.result ≡ Some (c.in_ok-name.name, c.in_ok-name.arguments) = search rules in
    let function : c.named.result ≡ Some c.in_ok-function.function = search rules in
    let got : c.answer.result ≡ Some c.in_ok-got.got = search rules in
    let sides = split_text_parts (codes " -> ") c.args.text.now (Some (c.in_ok-question.question, c.in_ok-question.answer)) (rw arrow at c.split_once.ensures.cases) in
    let words = split_parts 32 c.in_ok-question.question.now (Some (c.in_ok-name.name, c.in_ok-name.arguments)) (rw blank at c.split_once-2.ensures.cases) (omega arith) in
    let arguments = c.in_ok-parse.ensures.value in
    let expected = c.in_ok-expected.ensures.value in (
      c.in_ok-parse.field-0,
      two_sides c.args.text.now c.in_ok-question.question.now c.in_ok-question.answer.now c.in_ok-name.name.now c.in_ok-name.arguments.now _ _ _ sides words.0 (rw function at c.named.ensures) arguments.1 expected.1,
      rw got at c.answer.ensures,
      arguments.0,
      expected.0,
    )
