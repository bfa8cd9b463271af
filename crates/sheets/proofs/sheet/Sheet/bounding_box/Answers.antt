-- The book gives the same.
use Rattle.std.proofs.Common.{refl, rules}
use Rattle.sheets.specs.declared.order.Order.TheVariants.{BoundingBox}
use Rattle.sheets.specs.declared.order.Answer.TheVariants as said
use Rattle.sheets.specs.Book.{marks, union_of}
use Rattle.sheets.proofs.Sounds.{laws}
use Rattle.sheets.proofs.Moments.{told}
use Rattle.sheets.proofs.Asked.{union_book}
use Rattle.sheets.proofs.sheet.Sheet.bounding_box.Goals as goal

pub returns-clause-book : goal.returns-clause-book
returns-clause-book g c = union_book (marks g.M.Shape) c.args.self.now c.args.table.now _ (search rules)

pub returns-clause-history : goal.returns-clause-history
returns-clause-history g c =
    let k = marks g.M.Shape in
    let law = laws {k = k} g.met.M.Shape.same g.met.M.Shape.boxed g.met.M.Shape.formed in
    let s = c.args.self.now in
    let t = c.args.table.now in
    told k law s s t t BoundingBox said.Box c.union_of_boxes.result (union_of k) (λ bs. (refl, refl)) (λ bs S. (returns-clause-book g c bs S, S)) refl
