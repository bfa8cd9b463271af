-- The book has the same answer and buffer.
use Rattle.std.proofs.Common.{Err, refl, ap, rules}
use Rattle.sheets.specs.declared.fault.SheetFault.TheVariants.{Tolerance}
use Rattle.sheets.specs.declared.order.Order.TheVariants.{Draw}
use Rattle.sheets.specs.declared.order.Answer.TheVariants as said
use Rattle.sheets.specs.Book.{marks}
use Rattle.sheets.specs.Runs.{answered}
use Rattle.sheets.proofs.Sounds.{laws}
use Rattle.sheets.proofs.Moments.{moment}
use Rattle.sheets.proofs.Drawing.{drawn_book}
use Rattle.sheets.proofs.sheet.Sheet.draw.Goals as goal

pub returns-in_err-measure-clause-book : goal.returns-in_err-measure-clause-book
returns-in_err-measure-clause-book g c = drawn_book (marks g.M.Shape) c.args.self.now c.args.table.now c.args.tolerance c.args.buffer.now _ _ (search rules) (search rules)

pub returns-in_err-ok_or-clause-book : goal.returns-in_err-ok_or-clause-book
returns-in_err-ok_or-clause-book g c = drawn_book (marks g.M.Shape) c.args.self.now c.args.table.now c.args.tolerance c.args.buffer.now _ _ (search rules) (search rules)

pub returns-clause-book : goal.returns-clause-book
returns-clause-book g c = drawn_book (marks g.M.Shape) c.args.self.now c.args.table.now c.args.tolerance c.args.buffer.now _ _ (search rules) (search rules)

pub returns-then-not-is_tolerance-clause-history : goal.returns-then-not-is_tolerance-clause-history
returns-then-not-is_tolerance-clause-history g c =
    let k = marks g.M.Shape in
    let law = laws {k = k} g.met.M.Shape.same g.met.M.Shape.boxed g.met.M.Shape.formed in
    let s = c.args.self.now in
    let t = c.args.table.now in
    moment k law s s t t c.args.buffer.now _ (Draw c.args.tolerance) _ (λ bs S. let B = drawn_book k s t c.args.tolerance c.args.buffer.now c.args.buffer.now (Err Tolerance) (search rules) (search rules) bs S in (ap (answered said.Elements) B.0, (S, B.1))) refl

pub returns-in_err-measure-clause-history : goal.returns-in_err-measure-clause-history
returns-in_err-measure-clause-history g c =
    let k = marks g.M.Shape in
    let law = laws {k = k} g.met.M.Shape.same g.met.M.Shape.boxed g.met.M.Shape.formed in
    let s = c.args.self.now in
    let t = c.args.table.now in
    moment k law s s t t c.args.buffer.now _ (Draw c.args.tolerance) _ (λ bs S. let B = returns-in_err-measure-clause-book g c bs S in (ap (answered said.Elements) B.0, (S, B.1))) refl

pub returns-in_err-ok_or-clause-history : goal.returns-in_err-ok_or-clause-history
returns-in_err-ok_or-clause-history g c =
    let k = marks g.M.Shape in
    let law = laws {k = k} g.met.M.Shape.same g.met.M.Shape.boxed g.met.M.Shape.formed in
    let s = c.args.self.now in
    let t = c.args.table.now in
    moment k law s s t t c.args.buffer.now _ (Draw c.args.tolerance) _ (λ bs S. let B = returns-in_err-ok_or-clause-book g c bs S in (ap (answered said.Elements) B.0, (S, B.1))) refl

pub returns-clause-history : goal.returns-clause-history
returns-clause-history g c =
    let k = marks g.M.Shape in
    let law = laws {k = k} g.met.M.Shape.same g.met.M.Shape.boxed g.met.M.Shape.formed in
    let s = c.args.self.now in
    let t = c.args.table.now in
    moment k law s s t t c.args.buffer.now _ (Draw c.args.tolerance) _ (λ bs S. let B = returns-clause-book g c bs S in (ap (answered said.Elements) B.0, (S, B.1))) refl
