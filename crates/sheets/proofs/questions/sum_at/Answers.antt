-- One entry more; the sum fits, since each entry gives -1, 0 or 1 and there are at most 65,536.
use Rattle.std.proofs.Common.{◌≤◌, map, length, take, sym, ◌∙◌, arith, length-take}
use Rattle.sheets.specs.Book.{marks, gives, total}
use Rattle.sheets.specs.Tables.{row_of}
use Rattle.sheets.proofs.Asked.{sum_fits, sum_is, gives_within, total_within, total_more}
use Rattle.sheets.proofs.questions.sum_at.Goals as goal

pub overflow_add-sum : goal.overflow_add-sum
overflow_add-sum g c =
    let k = marks g.M.Shape in
    let es = take c.loop-entry.entry-index c.args.entries.now in
    let n : length es ≤ 65536 = simp length-take (omega arith) in
    sum_fits (length es) c.gives_at-sum.result (total k c.args.pt (map row_of es)) (gives k c.args.pt (row_of c.entry-item.result))
    c.loop-entry.invariant c.gives_at-sum.ensures (total_within k c.args.pt es g.met.M.Shape.small) (gives_within k c.args.pt c.entry-item.result g.met.M.Shape.small) n

pub loop-entry-preserved : goal.loop-entry-preserved
loop-entry-preserved g c =
    let k = marks g.M.Shape in
    let es = take c.loop-entry.entry-index c.args.entries.now in
    let n : length es ≤ 65536 = simp length-take (omega arith) in
    sum_is (length es) c.gives_at-sum.result (total k c.args.pt (map row_of es)) (gives k c.args.pt (row_of c.entry-item.result))
    c.loop-entry.invariant c.gives_at-sum.ensures (total_within k c.args.pt es g.met.M.Shape.small) (gives_within k c.args.pt c.entry-item.result g.met.M.Shape.small) n
    ∙ sym (total_more k c.args.pt c.args.entries.now c.loop-entry.entry-index c.entry-item.result c.loop-entry-test.true c.entry-item.is)
