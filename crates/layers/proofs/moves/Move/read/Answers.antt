-- What is granted is read as it stands, and what is refused as unmoved.
use Rattle.std.proofs.Common.{rules}
use Rattle.layers.proofs.Refusals.{read_by}
use Rattle.layers.proofs.moves.Move.read.Goals as goal

pub returns : goal.returns
returns c = read_by c.args.map c.new.result c.unwrap_or.result c.new.ensures.granted c.new.ensures.denied (search rules)
