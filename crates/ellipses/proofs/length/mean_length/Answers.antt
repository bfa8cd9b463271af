use Rattle.std.proofs.Common.{sym, ◌∙◌}
use Rattle.ellipses.proofs.Turns.{last_turn, one_more, none_left}
use Rattle.ellipses.proofs.length.mean_length.Goals as goal

pub loop-made-preserved : goal.loop-made-preserved
loop-made-preserved c =
    one_more _ _ _ _ c.loop-made.means _ c.loop-made-test.true (sym c.if-is_last.ensures) c.next-means.ensures ∙ c.loop-made.invariant

pub returns-then-is_last : goal.returns-then-is_last
returns-then-is_last c =
    last_turn _ _ _ _ c.loop-made.means _ c.loop-made-test.true (sym c.if-is_last.ensures) c.total.ensures ∙ c.loop-made.invariant

pub returns : goal.returns
returns c = none_left _ _ _ _ c.loop-made.means c.loop-made-test.false ∙ c.loop-made.invariant
