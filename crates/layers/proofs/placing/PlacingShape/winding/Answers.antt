-- The machine's product of the sign and the winding below is the winding of the placing.
use Rattle.std.proofs.Common.{◌∙◌}
use lib.Ieee.{lt}
use Rattle.plane.specs.Affines.{nought, det}
use Rattle.layers.specs.Moves.{read_as}
use Rattle.layers.proofs.Signs.{sign_times, placed_at}
use Rattle.layers.proofs.placing.PlacingShape.winding.Goals as goal

pub returns-then-in_field-2 : goal.returns-then-in_field-2
returns-then-in_field-2 g c =
    sign_times (lt (det c.place-place.result.map) nought) c.sign.result c.winding.result c.sign.ensures.value c.winding.ensures (g.met.S.Shape.small c.args.self.now.below c.back-q.result)
    ∙ placed_at c.place-place.result.map (read_as c.args.self.now.numbers) (g.S.Shape.wind c.args.self.now.below) c.args.pt c.back-q.result c.sign.result c.winding.result
    c.place-place.ensures c.back-q.ensures.value c.if-in_field.ensures.value c.if-in_field-2.ensures.value c.sign.ensures.value c.winding.ensures
