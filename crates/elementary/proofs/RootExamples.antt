-- The specimens of roots, from their definition. Assumes nothing.
use Rattle.std.proofs.Common.{ℕ, ◌+◌, ◌-◌, ◌*◌, ◌^◌, false, refl, lit<, lit≤}
use lib.Ieee.{binary64, of_bits}
use lib.Ieee.Exact.{HasValue}
use lib.Ieee.Bits.{of_bits-fits}
use Rattle.elementary.specs.Roots.{Units, NearestRoot, RootSpecimens}
use Rattle.elementary.proofs.NearestRoots.{nearest_root, exact_root}

read : (b u : ℕ) → HasValue (of_bits binary64 b) false u (2 ^ 1074) → Units (of_bits binary64 b) u
read b u h = (of_bits-fits binary64 b, h)

of_quarter : NearestRoot (of_bits binary64 0x3fd0_0000_0000_0000) (of_bits binary64 0x3fe0_0000_0000_0000)
unfolding of_bits
of_quarter = exact_root (of_bits binary64 0x3fd0_0000_0000_0000) (of_bits binary64 0x3fe0_0000_0000_0000) (2 ^ 1072) (2 ^ 1073) (read 0x3fd0_0000_0000_0000 (2 ^ 1072) (refl, refl)) (read 0x3fe0_0000_0000_0000 (2 ^ 1073) (refl, refl)) (lit< tt) refl

of_four : NearestRoot (of_bits binary64 0x4010_0000_0000_0000) (of_bits binary64 0x4000_0000_0000_0000)
unfolding of_bits
of_four = exact_root (of_bits binary64 0x4010_0000_0000_0000) (of_bits binary64 0x4000_0000_0000_0000) (4 * 2 ^ 1074) (2 * 2 ^ 1074) (read 0x4010_0000_0000_0000 (4 * 2 ^ 1074) (refl, refl)) (read 0x4000_0000_0000_0000 (2 * 2 ^ 1074) (refl, refl)) (lit< tt) refl

of_nine : NearestRoot (of_bits binary64 0x4022_0000_0000_0000) (of_bits binary64 0x4008_0000_0000_0000)
unfolding of_bits
of_nine = exact_root (of_bits binary64 0x4022_0000_0000_0000) (of_bits binary64 0x4008_0000_0000_0000) (9 * 2 ^ 1074) (3 * 2 ^ 1074) (read 0x4022_0000_0000_0000 (9 * 2 ^ 1074) (refl, refl)) (read 0x4008_0000_0000_0000 (3 * 2 ^ 1074) (refl, refl)) (lit< tt) refl

of_144 : NearestRoot (of_bits binary64 0x4062_0000_0000_0000) (of_bits binary64 0x4028_0000_0000_0000)
unfolding of_bits
of_144 = exact_root (of_bits binary64 0x4062_0000_0000_0000) (of_bits binary64 0x4028_0000_0000_0000) (144 * 2 ^ 1074) (12 * 2 ^ 1074) (read 0x4062_0000_0000_0000 (144 * 2 ^ 1074) (refl, refl)) (read 0x4028_0000_0000_0000 (12 * 2 ^ 1074) (refl, refl)) (lit< tt) refl

of_least : NearestRoot (of_bits binary64 1) (of_bits binary64 0x1e60_0000_0000_0000)
unfolding of_bits
of_least = exact_root (of_bits binary64 1) (of_bits binary64 0x1e60_0000_0000_0000) (1) (2 ^ 537) (read 1 (1) (refl, refl)) (read 0x1e60_0000_0000_0000 (2 ^ 537) (refl, refl)) (lit< tt) refl

of_two : NearestRoot (of_bits binary64 0x4000_0000_0000_0000) (of_bits binary64 0x3ff6_a09e_667f_3bcd)
unfolding of_bits
of_two =
    nearest_root (of_bits binary64 0x4000_0000_0000_0000) (of_bits binary64 0x3ff6_a09e_667f_3bcd) (2 * 2 ^ 1074) (0x16_a09e_667f_3bcd) 1022 (2 ^ 105) (read 0x4000_0000_0000_0000 (2 * 2 ^ 1074) (refl, refl)) (read 0x3ff6_a09e_667f_3bcd ((0x16_a09e_667f_3bcd) * 2 ^ 1022) (refl, refl))
    (lit≤ tt) (lit< tt, lit≤ tt) (lit≤ tt) refl

of_below_one : NearestRoot (of_bits binary64 0x3fef_ffff_ffff_ffff) (of_bits binary64 0x3fef_ffff_ffff_ffff)
unfolding of_bits
of_below_one =
    nearest_root (of_bits binary64 0x3fef_ffff_ffff_ffff) (of_bits binary64 0x3fef_ffff_ffff_ffff) ((2 ^ 53 - 1) * 2 ^ 1021) (2 ^ 53 - 1) 1021 ((2 ^ 53 - 1) * 2 ^ 53) (read 0x3fef_ffff_ffff_ffff ((2 ^ 53 - 1) * 2 ^ 1021) (refl, refl)) (read 0x3fef_ffff_ffff_ffff ((2 ^ 53 - 1) * 2 ^ 1021) (refl, refl))
    (lit≤ tt) (lit< tt, lit≤ tt) (lit≤ tt) refl

of_square : NearestRoot (of_bits binary64 0x3ff0_0000_0000_0002) (of_bits binary64 0x3ff0_0000_0000_0001)
unfolding of_bits
of_square =
    nearest_root (of_bits binary64 0x3ff0_0000_0000_0002) (of_bits binary64 0x3ff0_0000_0000_0001) ((2 ^ 52 + 2) * 2 ^ 1022) (2 ^ 52 + 1) 1022 ((2 ^ 52 + 2) * 2 ^ 52) (read 0x3ff0_0000_0000_0002 ((2 ^ 52 + 2) * 2 ^ 1022) (refl, refl)) (read 0x3ff0_0000_0000_0001 ((2 ^ 52 + 1) * 2 ^ 1022) (refl, refl))
    (lit≤ tt) (lit< tt, lit≤ tt) (lit≤ tt) refl

of_largest : NearestRoot (of_bits binary64 0x7fef_ffff_ffff_ffff) (of_bits binary64 0x5fef_ffff_ffff_ffff)
unfolding of_bits
of_largest =
    nearest_root (of_bits binary64 0x7fef_ffff_ffff_ffff) (of_bits binary64 0x5fef_ffff_ffff_ffff) ((2 ^ 53 - 1) * 2 ^ 2045) (2 ^ 53 - 1) 1533 ((2 ^ 53 - 1) * 2 ^ 53) (read 0x7fef_ffff_ffff_ffff ((2 ^ 53 - 1) * 2 ^ 2045) (refl, refl)) (read 0x5fef_ffff_ffff_ffff ((2 ^ 53 - 1) * 2 ^ 1533) (refl, refl))
    (lit≤ tt) (lit< tt, lit≤ tt) (lit≤ tt) refl

pub specimens : RootSpecimens
specimens = record {
  of_quarter = of_quarter;
  of_four = of_four;
  of_nine = of_nine;
  of_144 = of_144;
  of_least = of_least;
  of_two = of_two;
  of_below_one = of_below_one;
  of_square = of_square;
  of_largest = of_largest;
}
