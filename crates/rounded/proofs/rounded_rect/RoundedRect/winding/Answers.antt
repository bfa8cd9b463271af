-- The winding is as the definition computes it, and so it keeps the laws, and on the grid the rule.
use Rattle.std.proofs.Common.{◌≡◌, rules}
use Rattle.rounded.specs.Roundings.{wind}
use Rattle.rounded.specs.Corners.{rounded_lawful, rounded_rule}
use Rattle.rounded.proofs.rounded_rect.RoundedRect.winding.Goals as goal

pub returns : goal.returns
returns c =
    let e : _ ≡ wind c.args.self.now c.args.pt = search rules in
    record { value = e; lawful = rounded_lawful _ _; grid = λ a b f d i j k l u v. rounded_rule _ _ _ a b f d i j k l u v e }
