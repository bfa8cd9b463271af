-- One order more is one more answer of the book.
use Rattle.std.proofs.Common.{◌≡◌, ◌<◌, length, get_or, ◌∙◌, arith, get_or-take, length-take}
use Rattle.sheets.specs.Book.{marks}
use Rattle.sheets.proofs.Folded.{left_more, run_more, rest_more}
use Rattle.sheets.proofs.sheet.Sheet.run.Goals as goal

pub loop-i-preserved : goal.loop-i-preserved
loop-i-preserved g c =
    let k = marks g.M.Shape in
    let l = c.loop-i in
    let os = c.args.orders.now in
    let o = c.order-item.result in
    let t = simp length-take at c.loop-i-test.true in
    let h : l.i < length os = omega (arith, t) in
    let j : l.i < length l.answers = omega (arith, t) in
    let q : l.i < c.min-n.result = omega (arith, t) in
    let n : length l.table ≡ length c.args.table.now = omega arith in
    let m : length l.buffer ≡ length c.args.buffer.now = omega arith in
    let r : o ≡ get_or os l.i o = c.order-item.is ∙ get_or-take c.min-n.result os l.i o q in (
      rest_more k l.answers c.args.answers.now l.i c.follow.result l.invariant.0,
      left_more k (c.args.self.now, c.args.table.now) os l.i o l.self c.follow.new.self l.table c.follow.new.table h r l.invariant.1 c.follow.ensures.record c.follow.ensures.table,
      run_more k c.args.self.now l.self c.follow.new.self c.args.table.now l.table c.follow.new.table c.args.buffer.now l.buffer c.follow.new.buffer os l.answers l.i o c.follow.result
          h j r n m l.invariant.2 c.follow.ensures.book,
    )
