-- What equal points have in common: vectors to them, and the products of such vectors, are equal but for zero signs. Assumes nothing.
use Rattle.std.specs.Prelude.{refl, Float}
use Rattle.std.proofs.Common.{sym, inl, inr}
use Rattle.floats.specs.Zeros.{Alike}
use Rattle.floats.proofs.Alike.{zeros_agree}
use Rattle.plane.specs.declared.point.Point.{Point}
use Rattle.plane.specs.declared.vec2.Vec2.{Vec2}
use Rattle.plane.specs.Points.{Same}
use Rattle.plane.specs.Vectors.{from_to, dot, cross}

pub alike_refl : (x : Float) → Alike x x
alike_refl x = inl refl

pub alike_sym : {x y : Float} → Alike x y → Alike y x
alike_sym (inl e) = inl (sym e)
alike_sym (inr z) = inr (z.1, z.0)

pub record SameVec (v w : Vec2) : Type 0 where
  pub x : Alike v.x w.x
  pub y : Alike v.y w.y

pub vec_refl : (v : Vec2) → SameVec v v
vec_refl v = record { x = alike_refl v.x; y = alike_refl v.y }

-- from a point to two equal points, in the other order
pub to_same : (a p q : Point) → Same p q → SameVec (from_to a q) (from_to a p)
to_same a p q s = record {
  x = zeros_agree.of_sub q.x p.x a.x a.x (alike_sym s.x) (alike_refl a.x);
  y = zeros_agree.of_sub q.y p.y a.y a.y (alike_sym s.y) (alike_refl a.y);
}

pub dot_same : (v v' w w' : Vec2) → SameVec v v' → SameVec w w' → Alike (dot v w) (dot v' w')
dot_same v v' w w' s t = zeros_agree.of_add _ _ _ _ (zeros_agree.of_mul _ _ _ _ s.x t.x) (zeros_agree.of_mul _ _ _ _ s.y t.y)

pub cross_same : (v v' w w' : Vec2) → SameVec v v' → SameVec w w' → Alike (cross v w) (cross v' w')
cross_same v v' w w' s t = zeros_agree.of_sub _ _ _ _ (zeros_agree.of_mul _ _ _ _ s.x t.y) (zeros_agree.of_mul _ _ _ _ s.y t.x)
