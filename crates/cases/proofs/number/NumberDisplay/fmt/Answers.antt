-- The sixteen digits are those of the bits. Assumes nothing.
use Rattle.std.proofs.Common.{◌≡◌, ◌^◌, ◌<◌, false, rules, arith}
use Rattle.std.specs.Prelude.{is_nan}
use Rattle.cases.proofs.Paddings.{padded_output}
use Rattle.cases.proofs.number.NumberDisplay.fmt.Goals as goal

pub returns-else-is_nan-clause-writes : goal.returns-else-is_nan-clause-writes
returns-else-is_nan-clause-writes g c =
    let small : c.f64_to_bits_with_nan-bits.result < 2 ^ 64 = omega arith in
    let known : is_nan c.args.self.now.0 ≡ false = search rules in
    let text = padded_output c.in_radix.result c.laid_out.result _ small c.laid_out.ensures c.in_radix.ensures in
    rw (known, ← c.f64_to_bits_with_nan-bits.ensures) (rw text at c.write.ensures.writes)
