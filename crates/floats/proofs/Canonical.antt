-- Every number k / 2 ^ i of few enough digits has an `f64` that equals it, and equal floats have the same differences and order. Assumes nothing.
use Rattle.std.proofs.Common.{◌≡◌, ℕ, ◌^◌, ◌<◌, ◌≤◌, T, ℤ, ◌-ℤ◌, nat_abs, sym, refl, ◌∙◌, subst, pow_pos}
use lib.Ieee.{Float, binary64, round, sub, le, eq, fits}
use lib.Ieee.Fits.{round-fits}
use lib.Ieee.Scale.{finite}
use Rattle.floats.specs.Value.{Val, Rounds}
use Rattle.floats.specs.Zeros.{Alike}
use Rattle.floats.proofs.Rounded.{rounds_sub}
use Rattle.floats.proofs.Exactly.{exact}
use Rattle.floats.proofs.Compared.{is_le, is_eq}
use Rattle.floats.proofs.Alike.{rounds_alike}
use Rattle.floats.proofs.Sums.{common}
use Rattle.floats.proofs.Sizes.{eq_is, is_finite}

pub record Held (x : Float) : Type 0 where
  pub y : Float
  pub held : T (fits binary64 y)
  pub number : T (finite y)
  pub equal : T (eq x y)

pub canonical : (x : Float) (k : ℤ) (i : ℕ) → i ≤ 1074 → nat_abs k < 2 ^ 53 → Val x k i → Held x
canonical x k i I B v =
    let y = round binary64 v.0 v.1 (2 ^ i) in
    let r : Rounds binary64 y k (2 ^ i) = (v.0, v.1, refl, v.3) in
    let w = exact binary64 y k i I B r in
    record {
      y = y;
      held = round-fits binary64 v.0 v.1 (2 ^ i);
      number = is_finite y k (2 ^ i) w;
      equal = subst T (sym (is_eq x y k k (2 ^ i) (pow_pos i) v w refl)) tt;
    }

-- ---- equal floats x and y, against a z
module _ (x y z : Float) (X : T (finite x)) (Z : T (finite z)) (e : T (eq x y)) where
  pub equal_sub : Alike (sub binary64 x z) (sub binary64 y z)
  equal_sub =
      let m = common x z z X Z Z in
      rounds_alike binary64 (sub binary64 x z) (sub binary64 y z) (m.k -ℤ m.l) m.c m.above
      (rounds_sub binary64 x z m.k m.l m.c m.above m.first m.second)
      (rounds_sub binary64 y z m.k m.l m.c m.above (eq_is x y m.k m.c m.above m.first e) m.second)

  pub equal_le : le x z ≡ le y z
  equal_le =
      let m = common x z z X Z Z in
      is_le x z m.k m.l m.c m.above m.first m.second
      ∙ sym (is_le y z m.k m.l m.c m.above (eq_is x y m.k m.c m.above m.first e) m.second)

  pub le_equal : le z x ≡ le z y
  le_equal =
      let m = common x z z X Z Z in
      is_le z x m.l m.k m.c m.above m.second m.first
      ∙ sym (is_le z y m.l m.k m.c m.above m.second (eq_is x y m.k m.c m.above m.first e))
