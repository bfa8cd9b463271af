-- The quotient is the next digit or one more, and its square fits.
use Rattle.std.proofs.Common.{rules}
use Rattle.elementary.proofs.RootSteps.{square_small, enough_left, square_fits, goes_on}
use Rattle.elementary.proofs.sqrt.Part.extended.Goals as goal

pub overflow_mul-digit : goal.overflow_mul-digit
overflow_mul-digit c = search (rules, square_small)

pub settled-requires-clause-not_too_small : goal.settled-requires-clause-not_too_small
settled-requires-clause-not_too_small c = search (rules, enough_left)

pub settled-requires-clause-one_too_large_at_most : goal.settled-requires-clause-one_too_large_at_most
settled-requires-clause-one_too_large_at_most c = search (rules, square_fits)

pub returns : goal.returns
returns c = search (rules, goes_on)
