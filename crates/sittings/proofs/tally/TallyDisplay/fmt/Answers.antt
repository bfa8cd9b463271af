-- The second line comes after the first. Assumes nothing.
use Rattle.std.proofs.Common.{rules}
use Rattle.std.specs.Fmt.{HasWritten}
use Rattle.std.proofs.Output.{has_written_append, has_written_of_eq}
use Rattle.sittings.specs.Tallies.{counts_line, right_line}
use Rattle.sittings.proofs.tally.TallyDisplay.fmt.Goals as goal

pub returns-clause-writes : goal.returns-clause-writes
returns-clause-writes g c = λ p ok.
    let counts : HasWritten g.W.Write.write_str_gives c.args.f.now (counts_line c.args.self.now) c.writeln.new.self = has_written_of_eq _ _ _ _ _ (search rules) (c.in_ok-writeln.ensures.writes p (search rules)) in
    let right : HasWritten g.W.Write.write_str_gives c.writeln.new.self (right_line c.args.self.now) c.write.new.self = has_written_of_eq _ _ _ _ _ (search rules) (c.write.ensures.writes counts.plain ok) in
    has_written_append _ _ _ _ _ _ counts right
