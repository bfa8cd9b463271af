-- The constants are nearest to their decimals, by computation. Assumes nothing.
use Rattle.std.proofs.Common.{refl}
use lib.Ieee.{of_bits, round}
use Rattle.elementary.specs.Laws.{Constants}

pub constants : Constants
unfolding of_bits round
constants = record { of_pi = refl; of_half_pi = refl; of_quarter_pi = refl; of_two_over_pi = refl; of_half_pi_rest = refl; of_not_a_number = refl }
