-- The lines of the kinds so far are written. Assumes nothing.
use Rattle.std.proofs.Common.{take}
use Rattle.std.specs.Fmt.{HasWritten, IsPlainFormatter}
use Rattle.std.specs.List.{flat_map}
use Rattle.cases.specs.Reports.{kind_line}
use Rattle.cases.proofs.report.ReportDisplay.fmt.Given as goal

abbrev pub invariant-loop-kind : goal.invariant-loop-kind
invariant-loop-kind g l =
    IsPlainFormatter l.initial.f
    → HasWritten g.W.Write.write_str_gives l.initial.f (flat_map (kind_line g.K.Named.name_of g.K.Counted.place_of l.self) (take l.kind-index l.kind-items)) l.f
