use Rattle.std.proofs.Common.{◌-ℤ◌, ◌*ℤ◌, sym, subst}
use lib.Ieee.{Float}
use Rattle.floats.specs.Value.{Val}
use Rattle.plane.specs.Rectangles.{rect_area}
use Rattle.plane.proofs.rect.Rect.area.Goals as goal

pub returns : goal.returns
returns c = record {
  value = c.extent.ensures;
  grid = λ a b l d R. subst (λ (z : Float). Val z ((l -ℤ a) *ℤ (d -ℤ b)) 16) (sym c.extent.ensures) (rect_area c.args.self.now a b l d R);
}
