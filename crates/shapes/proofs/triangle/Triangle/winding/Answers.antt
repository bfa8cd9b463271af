use Rattle.std.proofs.Common.{◌≡◌, rules}
use Rattle.shapes.specs.Triangles.{wind}
use Rattle.shapes.specs.Threecornered.{triangle_lawful, triangle_rule}
use Rattle.shapes.proofs.triangle.Triangle.winding.Goals as goal

pub returns : goal.returns
returns c =
    let e : _ ≡ wind c.args.self.now c.args.pt = search rules in
    record { value = e; lawful = triangle_lawful _ _; grid = λ a b l d m f u v. triangle_rule _ _ _ a b l d m f u v e }
