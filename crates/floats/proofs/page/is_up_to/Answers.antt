-- The comparison of the size is that of the values.
use Rattle.std.proofs.Common.{arith, rules}
use Rattle.floats.proofs.Grids.{sized_only, sized_every}
use Rattle.floats.proofs.page.is_up_to.Goals as goal

pub returns-clause-only : goal.returns-clause-only
returns-clause-only c = search (rules, sized_only)

pub returns-clause-every : goal.returns-clause-every
returns-clause-every c = sized_every c.args.x c.abs.result c.args.end c.abs.ensures.value (omega (arith, c.ranges.end.fits))
