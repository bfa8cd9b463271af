-- A move is known by its numbers.
use Rattle.orders.proofs.Made.{made_is}
use Rattle.orders.proofs.sheet.read_move.Goals as goal

pub returns : goal.returns
returns c = made_is c.args.by c.new.result c.new.ensures.granted c.new.ensures.denied
