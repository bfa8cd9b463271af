-- The first '#' is where the search ends.
use Rattle.std.proofs.Common.{rules}
use Rattle.orders.proofs.Comments.{cut_at, cut_nowhere}
use Rattle.orders.proofs.line.before_comment.Goals as goal

pub returns-in-Some : goal.returns-in-Some
returns-in-Some c = cut_at c.args.line.now c.in-Some.at (search rules) (search rules) (search rules)

pub returns-in-None : goal.returns-in-None
returns-in-None c = cut_nowhere c.args.line.now (search rules)
