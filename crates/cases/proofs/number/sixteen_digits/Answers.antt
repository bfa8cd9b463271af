-- Each turn reads one digit more, and a byte that is none refutes the whole text. Assumes nothing.
use Rattle.std.proofs.Common.{◌≡◌, get_or, refl, arith}
use Rattle.cases.specs.Texts.{hex_digit, hexadecimal}
use Rattle.cases.proofs.Digits.{room, more_below, more_read, all_read, other_byte, other_length}
use Rattle.cases.proofs.number.sixteen_digits.Goals as goal

pub returns-then-word-ne16 : goal.returns-then-word-ne16
returns-then-word-ne16 c = other_length c.args.word.now c.if-word-ne16.true

pub loop-byte-init : goal.loop-byte-init
unfolding hexadecimal
loop-byte-init c = (omega arith, refl)

pub overflow_mul-value : goal.overflow_mul-value
overflow_mul-value c = omega (arith, room c.loop-byte.value c.loop-byte.byte-index c.loop-byte.invariant.0 (omega arith))

pub returns-in_err-value : goal.returns-in_err-value
returns-in_err-value c =
    let none = rw c.as_bytes-byte-items.ensures.value at c.in_err-value.ensures in
    rw c.from_residual.ensures (other_byte c.args.word.now c.loop-byte.byte-index (omega arith) none)

pub overflow_add-value : goal.overflow_add-value
overflow_add-value c = omega (arith, c.in_ok-value.ensures.0, room c.loop-byte.value c.loop-byte.byte-index c.loop-byte.invariant.0 (omega arith))

pub loop-byte-preserved : goal.loop-byte-preserved
loop-byte-preserved c =
    let told = c.in_ok-value.ensures in
    let byte : get_or c.args.word.now c.loop-byte.byte-index 0 ≡ hex_digit c.in_ok-value.field-0 = cc (c.as_bytes-byte-items.ensures.value, told.1) in
    (more_below _ _ _ c.loop-byte.invariant.0 told.0, more_read _ _ _ _ (omega arith) told.0 byte c.loop-byte.invariant.1)

pub returns : goal.returns
returns c = all_read c.args.word.now _ _ c.if-word-ne16.false (omega arith) c.loop-byte.invariant.0 c.loop-byte.invariant.1
