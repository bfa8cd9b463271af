use Rattle.std.proofs.Common.{sym, subst}
use Rattle.std.specs.Int.{int_min, int_max}
use Rattle.plane.specs.declared.rect.Rect.{Rect}
use Rattle.plane.specs.Rects.{Sides}
use Rattle.plane.specs.Rectangles.{rect_sides}
use Rattle.plane.proofs.rect.Rect.bounding_box.Goals as goal

pub returns : goal.returns
returns c = record {
  value = c.abs.ensures;
  grid = λ a b l d R. subst (λ (z : Rect). Sides z (int_min a l) (int_min b d) (int_max a l) (int_max b d)) (sym c.abs.ensures) (rect_sides c.args.self.now a b l d R);
}
