use Rattle.std.proofs.Common.{◌≡◌, ◌^◌, ◌<◌, take}
use Rattle.cases.specs.Texts.{hexadecimal}
use Rattle.cases.proofs.number.sixteen_digits.Given as goal

-- the digits so far are those of the value
abbrev pub invariant-loop-byte : goal.invariant-loop-byte
invariant-loop-byte l = (l.value < 16 ^ l.byte-index) × (take l.byte-index l.word ≡ hexadecimal l.byte-index l.value)
