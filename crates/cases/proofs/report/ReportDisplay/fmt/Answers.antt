-- The last line says how many cases differ. Assumes nothing.
use Rattle.std.proofs.Common.{◌≡◌, ◌++◌, false, take, sym, ap, ◌∙◌, arith, rules}
use Rattle.std.specs.Prelude.{◌==◌}
use Rattle.std.specs.Fmt.{HasWritten}
use Rattle.std.specs.List.{flat_map}
use Rattle.std.proofs.Output.{has_written_append, has_written_of_eq}
use Rattle.std.proofs.lemmas.List.{take_all}
use Rattle.cases.specs.Reports.{kind_line, differing_line}
use Rattle.cases.proofs.report.ReportDisplay.fmt.Goals as goal

pub returns-else-all_agree-clause-writes : goal.returns-else-all_agree-clause-writes
returns-else-all_agree-clause-writes g c = λ p ok.
    let differs : (c.args.self.now.total.differ == 0) ≡ false = sym c.all_agree.ensures ∙ c.if-all_agree.false in
    let kinds = c.loop-kind.invariant p in
    let wrote : HasWritten g.W.Write.write_str_gives c.loop-kind.f (differing_line c.args.self.now.total) c.writeln-else-all_agree.new.self = has_written_of_eq _ _ _ _ _ (search rules) (c.writeln-else-all_agree.ensures.writes kinds.plain ok) in
    let whole : take c.loop-kind.kind-index c.all-kind-items.result.now ≡ g.K.Named.all = take_all c.loop-kind.kind-index c.all-kind-items.result.now (omega arith) ∙ c.all-kind-items.ensures in
    rw differs (has_written_of_eq _ _ _ _ _ (ap (λ ks. flat_map (kind_line g.K.Named.name_of g.K.Counted.place_of c.args.self.now) ks ++ differing_line c.args.self.now.total) whole) (has_written_append _ _ _ _ _ _ kinds wrote))
