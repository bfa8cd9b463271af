-- A set point is judged by the sheet's count, which is that of the rows. Assumes nothing.
use Rattle.std.proofs.Common.{sym, subst}
use Rattle.orders.specs.declared.order.SheetOrder.{SheetOrder}
use Rattle.sheets.specs.Book.{marks}
use Rattle.exam.specs.Pages.{SheetMoment}
use Rattle.exam.proofs.Pages.{set_moment}
use Rattle.exam.proofs.sheet.follow.Goals as goal

pub returns-in-Set : goal.returns-in-Set
returns-in-Set g c = record {
  history = λ os S.
      let k = marks g.M.Shape in
      let F = c.follow-top in
      let new = F.new in
      let M = set_moment k os c.args.sheet.now new.self c.args.table.now new.table c.args.buffer.now new.buffer c.in-Set.point F.result c.count.result c.verdict.result
      F.ensures.record F.ensures.table c.count.ensures.value c.verdict.ensures S (F.ensures.history os S) in
      subst (λ (o : SheetOrder _). SheetMoment k os c.args.table.now c.args.buffer.now o c.verdict.result new.self new.table new.buffer) (sym c.in-Set.is) M;
}
