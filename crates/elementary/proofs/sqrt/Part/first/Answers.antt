-- The guess is at most one too large.
use Rattle.std.proofs.Common.{arith}
use Rattle.elementary.proofs.RootSteps.{square_below}
use Rattle.elementary.proofs.sqrt.Part.first.Goals as goal

pub settled-requires-clause-one_too_large_at_most : goal.settled-requires-clause-one_too_large_at_most
settled-requires-clause-one_too_large_at_most c = let r = c.first_root-root in omega (arith, square_below r.result r.ensures.some, r.ensures.low)
