-- The sixth root in sixteenths, rounded up. Assumes nothing.
use Rattle.std.specs.Prelude.{◌≡◌, ℕ, zero, suc, ◌*◌, ◌^◌, ◌<◌, ◌≤◌, Bool, cond, not, ◌&&◌, T, pos, from_bits, nat_le, Float}
use Rattle.std.specs.Float.Ieee.{of_int, mul, le, to_unsigned}
use Rattle.std.specs.Float.{ceil, nan, binary64}
use Rattle.floats.specs.Value.{Is, Val}

-- k is the least whole number from 1 to 1024 whose sixth power is at least n / c × 2 ^ 24: so k / 16 is the least sixteenth whose sixth power is at least n / c
pub record LeastSixth (n c k : ℕ) : Type 0 where
  pub from_one : 1 ≤ k
  pub to_most : k ≤ 1024
  pub enough : n * 2 ^ 24 ≤ k ^ 6 * c
  pub least : (j : ℕ) → 1 ≤ j → j < k → j ^ 6 * c < n * 2 ^ 24

-- 2 ^ 36, up to where the root is taken
abbrev pub most : Float
most = from_bits binary64 0x4230_0000_0000_0000

-- 2 ^ 24, which is 16 ^ 6
abbrev pub scale : Float
scale = from_bits binary64 0x4170_0000_0000_0000

-- v lies from 0 to 2 ^ 36
abbrev pub in_range : Float → Bool
in_range v = le (from_bits binary64 0) v && le v most

-- r is the sixth root of v, which is n / c; outside the range it is not-a-number
pub record SixthRoot (v r : Float) : Type 0 where
  pub root : (n c : ℕ) → 0 < c → Is v (pos n) c → n ≤ 2 ^ 36 * c → (k : ℕ) × LeastSixth n c k × Val r (pos k) 4
  pub outside : T (not (in_range v)) → r ≡ nan

-- ---- as a function
-- the first of the numbers from k on, `more` of them after k, whose sixth power is at least N, and else the last
abbrev pub first_from : ℕ → ℕ → ℕ → ℕ
first_from zero k N = k
first_from (suc more) k N = cond (nat_le N (k ^ 6)) k (first_from more (suc k) N)

abbrev pub sixteenth : Float
sixteenth = from_bits binary64 0x3fb0_0000_0000_0000

-- v × 2 ^ 24, rounded up
abbrev pub need_of : Float → ℕ
need_of v = to_unsigned 64 (ceil binary64 (mul binary64 v scale))

unfoldable pub sixth_root_of : Float → Float
sixth_root_of v = cond (in_range v) (mul binary64 (of_int binary64 (pos (first_from 1023 1 (need_of v)))) sixteenth) (from_bits binary64 0x7ff8_0000_0000_0000)
