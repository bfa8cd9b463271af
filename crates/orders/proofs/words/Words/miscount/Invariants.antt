-- What is said of the run stays the same, and fewer words are left.
use Rattle.std.proofs.Common.{◌≡◌, length}
use Rattle.orders.specs.Views.{left_of}
use Rattle.orders.proofs.words.Words.miscount.Given as goal

abbrev pub invariant-loop : goal.invariant-loop
invariant-loop l = (left_of l.self).miscount ≡ (left_of l.fn.self).miscount

abbrev pub decreases-loop : goal.decreases-loop
decreases-loop l = length (left_of l.self).words
