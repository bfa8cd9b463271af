-- The path below, each point moved.
use Rattle.std.proofs.Common.{map, Ok, sym, ap, ◌∙◌}
use Rattle.plane.specs.declared.affine.Affine.{Affine}
use Rattle.plane.specs.Affines.{image_el}
use Rattle.layers.specs.Moves.{read_as}
use Rattle.layers.specs.Placings.{placed_drawn}
use Rattle.layers.proofs.placing.PlacingShape.path_elements.Goals as goal

pub returns : goal.returns
returns g c =
    let m = c.numbers.ensures.value ∙ c.place.ensures in
    ap (placed_drawn (read_as c.args.self.now.numbers)) c.in_ok-below.ensures
    ∙ ap (λ (a : Affine). Ok (map (image_el a) (g.S.Path.Cursor.rest c.in_ok-below.below))) (sym m)
