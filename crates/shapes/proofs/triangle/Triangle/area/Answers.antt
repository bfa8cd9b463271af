use Rattle.std.proofs.Common.{sym, subst}
use lib.Ieee.{Float}
use Rattle.floats.specs.Value.{Val}
use Rattle.shapes.specs.Corners.{twice_area}
use Rattle.shapes.specs.Threecornered.{triangle_area}
use Rattle.shapes.proofs.triangle.Triangle.area.Goals as goal

pub returns : goal.returns
returns c = record {
  value = c.signed_area.ensures;
  grid = λ a b l d m f G. subst (λ (z : Float). Val z (twice_area a b l d m f) 17) (sym c.signed_area.ensures) (triangle_area c.args.self.now a b l d m f G);
}
