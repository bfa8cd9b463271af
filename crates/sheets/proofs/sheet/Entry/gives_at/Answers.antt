-- The machine's product of the sign and the winding is what the entry gives.
use Rattle.std.proofs.Common.{◌∙◌}
use lib.Ieee.{lt}
use Rattle.plane.specs.Affines.{nought, det}
use Rattle.layers.specs.Moves.{read_as}
use Rattle.layers.proofs.Signs.{sign_times}
use Rattle.sheets.specs.Book.{marks}
use Rattle.sheets.proofs.Asked.{gives_at}
use Rattle.sheets.proofs.sheet.Entry.gives_at.Goals as goal

pub returns : goal.returns
returns g c =
    let e = c.args.self.now in
    sign_times (lt (det c.place-place.result.map) nought) c.sign.result c.winding.result c.sign.ensures.value c.winding.ensures (g.met.M.Shape.small e.mark c.back.result)
    ∙ gives_at (marks g.M.Shape) e.mark c.place-place.result.map (read_as e.numbers) c.args.pt c.back.result c.sign.result c.winding.result
    c.place-place.ensures c.back.ensures.value c.sign.ensures.value c.winding.ensures
