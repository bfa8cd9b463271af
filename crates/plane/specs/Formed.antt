-- What keeps a path well formed. Assumes nothing.
use Rattle.std.specs.Prelude.{Bool, true, false, cond, Err, Float}
use Rattle.plane.specs.declared.fault.ShapeFault.TheVariants.{Tolerance, NotFinite}
use Rattle.plane.specs.Paths.{Drawn, WellDrawn, tolerable, checked}

-- the refusals that come first
pub checked_well : (t : Float) (ok : Bool) (d : Drawn) → WellDrawn d → WellDrawn (checked t ok d)
checked_well t ok d h = of (tolerable t) ok
  where
    of : (u v : Bool) → WellDrawn (cond u (cond v d (Err NotFinite)) (Err Tolerance))
    of true true = h
    of true false = tt
    of false v = tt
