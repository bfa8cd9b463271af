-- One entry more is the highest if it holds the point.
use Rattle.std.proofs.Common.{true, false, sym, ◌∙◌}
use Rattle.sheets.specs.Book.{marks}
use Rattle.sheets.proofs.Found.{highest_more}
use Rattle.sheets.proofs.questions.top_at.Goals as goal
use Rattle.sheets.proofs.questions.top_at.Goals.{then-holds, else-holds}

pub loop-position-preserved : goal.loop-position-preserved
loop-position-preserved g c =
    let k = marks g.M.Shape in
    let es = c.args.entries.now in
    let l = c.loop-position in
    let e = c.index-entries-position in
    elim c.if-holds.branch [
      | then-holds w ↦ w.top-is ∙ sym (highest_more k c.args.pt es l.position e.result true c.loop-position-test.true e.is (sym w.if-holds.true ∙ c.holds.ensures))
      | else-holds w ↦ w.top-is ∙ l.invariant ∙ sym (highest_more k c.args.pt es l.position e.result false c.loop-position-test.true e.is (sym w.if-holds.false ∙ c.holds.ensures))
    ]
