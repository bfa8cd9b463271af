-- Each step gives the next curve, and leaves those after it.
use Rattle.std.proofs.Common.{arith}
use Rattle.arcs.proofs.Pieces.{next_curve}
use Rattle.arcs.proofs.arc.ArcPathIterator.next.Goals as goal

pub returns-clause-steps : goal.returns-clause-steps
returns-clause-steps c = next_curve c.args.self.now c.args.self.now.left c.curve_to-el.result c.sample-p3.result (omega (arith, c.if-self-eq0.false)) c.sample-p3.ensures c.curve_to-el.ensures
