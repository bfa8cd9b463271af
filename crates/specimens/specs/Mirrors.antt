-- Two moves as values of their type, which asks for the proof that they are moves: one that leaves all as it is, and a mirror. Assumes nothing.
use Rattle.std.specs.Prelude.{T}
use Rattle.std.specs.Float.{float_with_sign}
use Rattle.std.specs.Float.Ieee.{fits, of_bits, of_int, round, mul, neg, lt, le, eq, is_nan}
use Rattle.plane.specs.declared.affine.Affine.{Affine}
use Rattle.plane.specs.Affines.{affine}
use Rattle.layers.specs.declared.moves.Move.{Move}
use Rattle.layers.specs.Moves.{is_move}
use Rattle.specimens.specs.Numbers.{number, minus}

-- (x, y) stays (x, y)
abbrev pub identity_map : Affine
identity_map = affine (number 1) (number 0) (number 0) (number 1) (number 0) (number 0)

-- (x, y) becomes (x, -y)
abbrev pub mirror_map : Affine
mirror_map = affine (number 1) (number 0) (number 0) (minus 1) (number 0) (number 0)

-- both are moves
pub identity_lawful : T (is_move identity_map)
unfolding is_nan fits of_bits of_int round mul neg lt le eq float_with_sign
identity_lawful = tt

pub mirror_lawful : T (is_move mirror_map)
unfolding is_nan fits of_bits of_int round mul neg lt le eq float_with_sign
mirror_lawful = tt

abbrev pub identity : Move
identity = record { map = identity_map; lawful = identity_lawful }

abbrev pub mirror : Move
mirror = record { map = mirror_map; lawful = mirror_lawful }
