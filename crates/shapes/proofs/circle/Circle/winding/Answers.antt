use Rattle.std.proofs.Common.{◌≡◌, rules}
use Rattle.shapes.specs.Circles.{wind}
use Rattle.shapes.specs.Round.{circle_lawful, circle_rule}
use Rattle.shapes.proofs.circle.Circle.winding.Goals as goal

pub returns : goal.returns
returns c =
    let e : _ ≡ wind c.args.self.now c.args.pt = search rules in
    record { value = e; lawful = circle_lawful _ _; grid = λ a b q u v. circle_rule _ _ _ a b q u v c.wind_at.ensures.held e }
