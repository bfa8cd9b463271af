-- The laws of the sixth root.
use Rattle.elementary.proofs.Ranks.{sixth_roots}
use Rattle.elementary.proofs.laws.sixth_roots_keep_order.Goals as goal

pub returns : goal.returns
returns c = sixth_roots
