use Rattle.std.proofs.Common.{◌≡◌, rules}
use Rattle.plane.specs.Rects.{wind}
use Rattle.plane.specs.Rectangles.{rect_lawful, rect_rule}
use Rattle.plane.proofs.rect.Rect.winding.Goals as goal

pub returns : goal.returns
returns c =
    let e : _ ≡ wind c.args.self.now c.args.pt = search rules in
    record { value = e; lawful = rect_lawful _ _; grid = λ a b l d u v. rect_rule _ _ _ a b l d u v e }
