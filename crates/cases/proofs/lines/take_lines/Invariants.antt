-- The lines so far are taken in turn, and with those of the bytes that are left they are the lines of all. Assumes nothing.
use Rattle.std.specs.Io.Iter.{split_byte, split_known_bytes}
use Rattle.std.proofs.Common.{◌≡◌}
use Rattle.cases.proofs.Takings.{IsUnderWay}
use Rattle.cases.proofs.lines.take_lines.Given as goal

-- the lines so far are taken
abbrev pub invariant-loop-line : goal.invariant-loop-line
invariant-loop-line g l =
    (goal.iterator-loop-line g).can_next l.line-iterator
    × (goal.iterator-loop-line g).is_finite l.line-iterator
    × (split_byte l.line-iterator ≡ 10)
    × IsUnderWay g.T.Taker.takes (g.R.Read.remaining l.fn.input) l.fn.taker (split_known_bytes g.R.Read.remaining l.line-iterator) l.taker
