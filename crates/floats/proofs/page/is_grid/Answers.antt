-- A small size is kept exactly where it is a grid number, and each large finite one is such.
use Rattle.std.proofs.Common.{T, sym, subst, rules}
use Rattle.std.specs.Bool.{passes, fails}
use Rattle.floats.specs.Page.{GridNumber}
use Rattle.floats.proofs.Grids.{small_only, small_every, large_only, large_every}
use Rattle.floats.proofs.Tested.{grid_test}
use Rattle.floats.proofs.page.is_grid.Goals as goal

pub returns-then-size : goal.returns-then-size
returns-then-size c =
    let kept : T c.is_kept.result → GridNumber c.args.x = λ t. search (rules, small_only, passes, subst T c.is_kept.ensures t) in
    let known : GridNumber c.args.x → T c.is_kept.result = λ g. subst T (sym c.is_kept.ensures) (search (rules, small_every, passes)) in
    record { only = kept; every = known; value = grid_test _ _ kept known }

pub returns-else-size : goal.returns-else-size
returns-else-size c =
    let only = large_only c.args.x c.abs-size.result c.abs-size.ensures.value (passes _ c.abs-size.type_inv) (fails _ c.if-size.false) in
    let every = large_every c.args.x c.abs-size.result c.abs-size.ensures.value in
    record { only = only; every = every; value = grid_test _ _ only every }
