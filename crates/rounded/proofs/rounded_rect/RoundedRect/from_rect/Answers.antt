-- What is made is what the definition makes, and so it is repaired, sound where the rectangle is finite, and on the grid where that is.
use Rattle.std.proofs.Common.{◌≡◌, rules}
use Rattle.rounded.specs.declared.rounded_rect.RoundedRect.{RoundedRect}
use Rattle.rounded.specs.Roundings.{made_of, rounded}
use Rattle.rounded.proofs.Repairs.{made_sound, made_repaired, made_grid}
use Rattle.rounded.proofs.rounded_rect.RoundedRect.from_rect.Goals as goal

pub returns : goal.returns
returns c =
    let r = c.args.rect in
    let k = c.args.radii in
    let s : RoundedRect = rounded c.abs-b.result c.clamp.result in
    let e : s ≡ made_of r k = search rules in
    record {
      value = e;
      sound = made_sound s r k e;
      always = made_repaired s r k e;
      grid = λ x0 y0 x1 y1 i j m l. made_grid s r k x0 y0 x1 y1 i j m l e;
    }
