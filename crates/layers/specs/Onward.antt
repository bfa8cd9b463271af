-- A placing moved on: the move that follows is multiplied to the one before it. Assumes nothing.
use Rattle.std.specs.Prelude.{cond, Ok, Err, Result}
use Rattle.plane.specs.declared.affine.Affine.{Affine}
use Rattle.plane.specs.Affines.{product}
use Rattle.layers.specs.declared.fault.MoveFault.{MoveFault}
use Rattle.layers.specs.declared.fault.MoveFault.TheVariants.{OffPage}
use Rattle.layers.specs.declared.placing.Placing.{Placing}
use Rattle.layers.specs.Moves.{read_as, page_offset}

-- what lies below, placed by m, or the refusal where the offset of m is not on the page
abbrev pub placed_by : {S : Type 0} → Affine → S → Result (Placing S) MoveFault
placed_by {S} m below = cond (page_offset m) (Ok (record { numbers = m; below = below })) (Err OffPage)

-- first the move of the placing, then m
abbrev pub moved_on : {S : Type 0} → Affine → Placing S → Result (Placing S) MoveFault
moved_on {S} m s = placed_by (product m (read_as s.numbers)) s.below
