-- The specimens hold, by computation. Assumes nothing.
use Rattle.std.proofs.Common.{refl, inl, inr}
use lib.Ieee.{is_nan, fits, of_bits, of_int, round, add, sub, mul, div, neg, lt, le, eq, to_unsigned}
use Rattle.std.specs.Float.{float_with_sign, float_is_finite, round_with}
use Rattle.elementary.specs.SixthRoots.{sixth_root_of}
use Rattle.elementary.proofs.Ranks.{sixth_roots}
use Rattle.specimens.specs.Specimens.{Specimens}

pub worked : Specimens
unfolding is_nan fits of_bits of_int round add sub mul div neg lt le eq to_unsigned float_with_sign float_is_finite round_with sixth_root_of
worked = record {
  reversed = refl;
  near_corner = refl;
  far_edge = refl;
  rim = refl;
  within_rim = refl;
  flat = refl;
  own_corner = refl;
  radius = refl;
  cut_corner = refl;
  side = refl;
  root_of_4096 = refl;
  root_of_4097 = refl;
  least_of_4096 = sixth_roots.of_4096;
  least_of_4097 = sixth_roots.of_4097;
  once = tt;
  twice = tt;
  same = record { a = inl refl; b = inl refl; c = inr (refl, refl); d = inl refl; e = inl refl; f = inl refl };
  mirrored = refl;
}
