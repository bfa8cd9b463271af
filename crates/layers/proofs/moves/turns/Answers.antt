-- Turns along the axes and across them are the eight turns.
use Rattle.std.proofs.Common.{Bool, ◌||◌, sym, ap, ◌∙◌}
use Rattle.layers.specs.Moves.{units_and_zeros}
use Rattle.layers.specs.Whole.{turn_test}
use Rattle.layers.proofs.moves.turns.Goals as goal

pub returns-else-has_units_and_zeros : goal.returns-else-has_units_and_zeros
returns-else-has_units_and_zeros c =
    let m = c.args.m in
    c.has_units_and_zeros-else-has_units_and_zeros.ensures
    ∙ ap (λ (b : Bool). b || units_and_zeros m.b m.c m.a m.d) (sym c.if-has_units_and_zeros.false ∙ c.has_units_and_zeros.ensures)
    ∙ turn_test m
