-- In the range the least root is the sixth root, and outside it nothing is.
use Rattle.std.proofs.Common.{rules}
use Rattle.std.specs.Bool.{passes}
use Rattle.elementary.proofs.Sixths.{inside, outside, in_range_root, out_of_range_root, in_range_defined, out_of_range_defined, need_fits}
use Rattle.elementary.proofs.sixth_root.sixth_root.Goals as goal

pub least_root-requires : goal.least_root-requires
least_root-requires c = search (rules, need_fits, passes, inside)

pub returns-then-contains : goal.returns-then-contains
returns-then-contains c = record { root = search (rules, in_range_root, passes, inside); defined = search (rules, in_range_defined, need_fits, passes, inside) }

pub returns-else-contains : goal.returns-else-contains
returns-else-contains c = record { root = search (rules, out_of_range_root, outside); defined = search (rules, out_of_range_defined, outside) }
