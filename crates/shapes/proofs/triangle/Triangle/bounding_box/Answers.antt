use Rattle.std.proofs.Common.{sym, subst}
use Rattle.std.specs.Int.{int_min, int_max}
use Rattle.plane.specs.declared.rect.Rect.{Rect}
use Rattle.plane.specs.Rects.{Sides}
use Rattle.shapes.specs.Threecornered.{triangle_sides}
use Rattle.shapes.proofs.triangle.Triangle.bounding_box.Goals as goal

pub returns : goal.returns
returns c = record {
  value = c.corner_box.ensures;
  grid = λ a b l d m f G. subst (λ (z : Rect). Sides z (int_min a (int_min l m)) (int_min b (int_min d f)) (int_max a (int_max l m)) (int_max b (int_max d f))) (sym c.corner_box.ensures) (triangle_sides c.args.self.now a b l d m f G);
}
