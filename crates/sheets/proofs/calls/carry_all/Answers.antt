-- One entry more.
use Rattle.std.proofs.Common.{◌<◌, length, set, sym, ap, ◌∙◌, arith}
use Rattle.std.proofs.lemmas.List.Edits.{map_over_more}
use Rattle.sheets.specs.Tables.{moved_entry}
use Rattle.sheets.proofs.calls.carry_all.Goals as goal

pub loop-entry-preserved : goal.loop-entry-preserved
loop-entry-preserved g c =
    let l = c.loop-entry in
    let h : l.entry-index < length c.args.entries.now = omega arith in
    let f = moved_entry c.args.by.map in
    ap (set l.entries l.entry-index) (c.moved.ensures ∙ ap f (sym c.entry-item.is))
    ∙ map_over_more f c.args.entries.now l.entries l.entry-index c.entry-item.result h l.invariant c.entry-item.is
