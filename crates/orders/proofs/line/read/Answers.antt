-- What is spelled is read, and nothing else is.
use Rattle.orders.proofs.Says.{is_found, is_only}
use Rattle.orders.proofs.line.read.Goals as goal

pub returns-clause-found : goal.returns-clause-found
returns-clause-found c = is_found c.args.text.now c.read_line.result c.read_line.ensures

pub returns-clause-only : goal.returns-clause-only
returns-clause-only c = λ l h. is_only c.args.text.now c.read_line.result l c.read_line.ensures h
