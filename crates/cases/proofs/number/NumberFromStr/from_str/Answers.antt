-- The text is `nan`, or sixteen digits of a pattern that is not a NaN's. Assumes nothing.
use Rattle.std.proofs.Common.{◌≡◌, codes, None, Some, sym, ◌∙◌, rules}
use Rattle.std.specs.Result.{result_ok}
use Rattle.cases.proofs.Numerals.{of_pattern, of_nan, no_pattern, no_nan_pattern}
use Rattle.cases.proofs.number.NumberFromStr.from_str.Goals as goal

pub returns-then-eq : goal.returns-then-eq
returns-then-eq c = let same : c.args.word.now ≡ codes "nan" = search rules in of_nan c.args.word.now same

pub returns-in_err-ok_or : goal.returns-in_err-ok_or
returns-in_err-ok_or c =
    let none : c.sixteen_digits.result ≡ None = search rules in
    let err : result_ok c.from_residual.result ≡ None = search rules in
    let other : c.args.word.now ≡ codes "nan" → ⊥ = search rules in
    rw err (λ x. no_pattern c.args.word.now x.0 other (rw none at c.sixteen_digits.ensures))

pub returns-then-is_nan : goal.returns-then-is_nan
returns-then-is_nan c =
    let some : c.sixteen_digits.result ≡ Some c.in_ok-ok_or.field-0 = search rules in
    let told = rw some at c.sixteen_digits.ensures in
    let other : c.args.word.now ≡ codes "nan" → ⊥ = search rules in
    λ x. no_nan_pattern c.args.word.now c.in_ok-ok_or.field-0 x.0 c.f64_from_bits_with_nan-x.result other told.0 told.1 c.f64_from_bits_with_nan-x.ensures (sym c.is_nan.ensures.value ∙ c.if-is_nan.true)

pub returns : goal.returns
returns c =
    let some : c.sixteen_digits.result ≡ Some c.in_ok-ok_or.field-0 = search rules in
    let told = rw some at c.sixteen_digits.ensures in
    of_pattern c.args.word.now c.in_ok-ok_or.field-0 _ told.0 told.1 c.f64_from_bits_with_nan-x.ensures (sym c.is_nan.ensures.value ∙ c.if-is_nan.false)
