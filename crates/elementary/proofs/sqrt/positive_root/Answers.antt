-- The argument taken apart, its root, and the two put together: the bits of the nearest root.
use Rattle.std.proofs.Common.{rules}
use Rattle.std.specs.Bool.{passes}
use Rattle.elementary.proofs.BitFields.{positive_bits}
use Rattle.elementary.proofs.RootBits.{root_below, root_bits, assembled, assembled_defined}
use Rattle.elementary.proofs.sqrt.positive_root.Goals as goal

pub take_apart-s-requires : goal.take_apart-s-requires
take_apart-s-requires c = search (rules, positive_bits, passes)

pub float_from_bits-result : goal.float_from_bits-result
float_from_bits-result c = search (rules, root_bits, root_below)

pub returns : goal.returns
returns c = record { nearest = search (rules, assembled, passes); defined = search (rules, assembled_defined, passes) }
