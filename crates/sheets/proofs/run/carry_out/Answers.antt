-- From the opening on: the book begins empty.
use Rattle.std.proofs.Common.{take}
use Rattle.sheets.specs.Book.{marks}
use Rattle.sheets.proofs.Sounds.{laws}
use Rattle.sheets.proofs.Folded.{book_of}
use Rattle.sheets.proofs.run.carry_out.Goals as goal

pub returns-clause-book : goal.returns-clause-book
returns-clause-book g c =
    let law = laws {k = marks g.M.Shape} g.met.M.Shape.same g.met.M.Shape.boxed g.met.M.Shape.formed in
    book_of (marks g.M.Shape) law _ _ _ _ (take c.run-n.result c.args.orders.now) _ _ (rw c.open-sheet.ensures at c.run-n.ensures.book)
