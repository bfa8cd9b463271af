-- The book gives the same.
use Rattle.std.proofs.Common.{Ok, refl, rules}
use Rattle.sheets.specs.declared.order.Order.TheVariants.{Top}
use Rattle.sheets.specs.declared.order.Answer.TheVariants as said
use Rattle.sheets.specs.Book.{marks, at_page_point, highest}
use Rattle.sheets.specs.Runs.{answered}
use Rattle.sheets.proofs.Sounds.{laws}
use Rattle.sheets.proofs.Moments.{told}
use Rattle.sheets.proofs.Asked.{highest_book}
use Rattle.sheets.proofs.sheet.Sheet.top.Goals as goal

pub returns-clause-book : goal.returns-clause-book
returns-clause-book g c = highest_book (marks g.M.Shape) c.args.self.now c.args.table.now c.args.pt _ g.met.M.Shape.same (search rules)

pub returns-in_err-check_page-clause-history : goal.returns-in_err-check_page-clause-history
returns-in_err-check_page-clause-history g c =
    let k = marks g.M.Shape in
    let law = laws {k = k} g.met.M.Shape.same g.met.M.Shape.boxed g.met.M.Shape.formed in
    let s = c.args.self.now in
    let t = c.args.table.now in
    told k law s s t t (Top c.args.pt) (answered said.Top) c.from_residual.result (λ bs. at_page_point c.args.pt (highest k c.args.pt bs)) (λ bs. (refl, refl)) (λ bs S. (highest_book k s t c.args.pt c.from_residual.result g.met.M.Shape.same (search rules) bs S, S)) refl

pub returns-clause-history : goal.returns-clause-history
returns-clause-history g c =
    let k = marks g.M.Shape in
    let law = laws {k = k} g.met.M.Shape.same g.met.M.Shape.boxed g.met.M.Shape.formed in
    let s = c.args.self.now in
    let t = c.args.table.now in
    told k law s s t t (Top c.args.pt) (answered said.Top) (Ok _) (λ bs. at_page_point c.args.pt (highest k c.args.pt bs)) (λ bs. (refl, refl)) (λ bs S. (returns-clause-book g c bs S, S)) refl
