use Rattle.std.proofs.Common.{◌≡◌, pos, ◌+ℤ◌, ◌-ℤ◌, nat_abs, sym, subst, rules}
use Rattle.plane.specs.declared.rect.Rect.{Rect}
use Rattle.plane.specs.Rects.{Sides}
use Rattle.shapes.specs.Circles.{box}
use Rattle.shapes.specs.Round.{circle_sides}
use Rattle.shapes.proofs.circle.Circle.bounding_box.Goals as goal

pub returns : goal.returns
returns c =
    let e : _ ≡ box c.args.self.now = search rules in
    record {
      value = e;
      grid = λ a b q C. subst (λ (z : Rect). Sides z (a -ℤ pos (nat_abs q)) (b -ℤ pos (nat_abs q)) (a +ℤ pos (nat_abs q)) (b +ℤ pos (nat_abs q))) (sym e) (circle_sides c.args.self.now a b q C);
    }
