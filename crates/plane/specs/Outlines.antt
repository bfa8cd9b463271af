-- The path of a polygon. Assumes nothing.
use Rattle.std.specs.Prelude.{List, [], ◌∷◌, ◌++◌, map, drop}
use Rattle.plane.specs.declared.bezpath.PathEl.{PathEl}
use Rattle.plane.specs.declared.bezpath.PathEl.TheVariants.{MoveTo, LineTo, ClosePath}
use Rattle.plane.specs.declared.closed_path.ClosedPath.{ClosedPath}
use Rattle.plane.specs.declared.point.Point.{Point}

-- from the first corner to each other in turn, and closed
abbrev pub outline : List Point → List PathEl
outline [] = ClosePath ∷ []
outline (p ∷ ps) = MoveTo p ∷ (map LineTo ps ++ (ClosePath ∷ []))

-- what a cursor that has given `ix` elements has still to give
abbrev pub rest : {N : _} → ClosedPath N → List PathEl
rest c = drop c.ix (outline c.corners)
