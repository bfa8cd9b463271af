-- Paths stay well formed when each point is moved, and one after the other. Assumes nothing.
use Rattle.std.specs.Prelude.{Bool, true, false, T, List, [], ◌∷◌, ◌++◌, map, Ok, Err}
use Rattle.plane.specs.declared.affine.Affine.{Affine}
use Rattle.plane.specs.declared.bezpath.PathEl.{PathEl}
use Rattle.plane.specs.declared.bezpath.PathEl.TheVariants.{MoveTo, LineTo, QuadTo, CurveTo, ClosePath}
use Rattle.plane.specs.Affines.{image_el}
use Rattle.plane.specs.Paths.{formed, Drawn, WellDrawn}
use Rattle.layers.specs.Placings.{placed_drawn}
use Rattle.layers.specs.Coverings.{covered_drawn}

pub moved_formed : (m : Affine) (b : Bool) (els : List PathEl) → T (formed b els) → T (formed b (map (image_el m) els))
moved_formed m b [] h = tt
moved_formed m b (MoveTo p ∷ els) h = moved_formed m true els h
moved_formed m true (LineTo p ∷ els) h = moved_formed m true els h
moved_formed m true (QuadTo p q ∷ els) h = moved_formed m true els h
moved_formed m true (CurveTo p q r ∷ els) h = moved_formed m true els h
moved_formed m true (ClosePath ∷ els) h = moved_formed m false els h
moved_formed m false (LineTo p ∷ els) h = h
moved_formed m false (QuadTo p q ∷ els) h = h
moved_formed m false (CurveTo p q r ∷ els) h = h
moved_formed m false (ClosePath ∷ els) h = h

-- what may begin a path may follow a part
begun : (b : Bool) (els : List PathEl) → T (formed false els) → T (formed b els)
begun b [] h = tt
begun b (MoveTo p ∷ els) h = h
begun b (LineTo p ∷ els) h = absurd h
begun b (QuadTo p q ∷ els) h = absurd h
begun b (CurveTo p q r ∷ els) h = absurd h
begun b (ClosePath ∷ els) h = absurd h

pub both_formed : (b : Bool) (xs ys : List PathEl) → T (formed b xs) → T (formed false ys) → T (formed b (xs ++ ys))
both_formed b [] ys h g = begun b ys g
both_formed b (MoveTo p ∷ xs) ys h g = both_formed true xs ys h g
both_formed true (LineTo p ∷ xs) ys h g = both_formed true xs ys h g
both_formed true (QuadTo p q ∷ xs) ys h g = both_formed true xs ys h g
both_formed true (CurveTo p q r ∷ xs) ys h g = both_formed true xs ys h g
both_formed true (ClosePath ∷ xs) ys h g = both_formed false xs ys h g
both_formed false (LineTo p ∷ xs) ys h g = h
both_formed false (QuadTo p q ∷ xs) ys h g = h
both_formed false (CurveTo p q r ∷ xs) ys h g = h
both_formed false (ClosePath ∷ xs) ys h g = h

pub placed_formed : (m : Affine) (d : Drawn) → WellDrawn d → WellDrawn (placed_drawn m d)
placed_formed m (Ok els) h = moved_formed m false els h
placed_formed m (Err e) h = tt

pub covered_formed : (upper lower : Drawn) → WellDrawn upper → WellDrawn lower → WellDrawn (covered_drawn upper lower)
covered_formed (Ok xs) (Ok ys) h g = both_formed false xs ys h g
covered_formed (Ok xs) (Err e) h g = tt
covered_formed (Err e) lower h g = tt
