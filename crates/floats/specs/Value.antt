-- The exact value of a float, as a fraction with a signed numerator. Assumes nothing.
use Rattle.std.specs.Prelude.{◌≡◌, ℕ, ◌^◌, ◌≤◌, Bool, true, false, ℤ, pos, neg_ℤ, unsigned_abs, Float}
use Rattle.std.specs.Float.{Format}
use Rattle.std.specs.Float.Ieee.{round}
use Rattle.std.specs.Float.Ieee.Exact.{HasValue}

-- a, or -a
abbrev pub signed : Bool → ℕ → ℤ
signed false a = pos a
signed true a = neg_ℤ (pos a)

-- x is finite and equals k / c, for a c above 0. A zero of either sign is 0.
abbrev pub Is : Float → ℤ → ℕ → Type 0
Is x k c = (s : Bool) × (a : ℕ) × HasValue x s a c × (k ≡ signed s a)

-- x is finite and equals k / 2 ^ i
abbrev pub Val : Float → ℤ → ℕ → Type 0
Val x k i = Is x k (2 ^ i)

-- x is k / c rounded once to the format f: to the nearest value, a tie to the even one
abbrev pub Rounds : Format → Float → ℤ → ℕ → Type 0
Rounds f x k c = (s : Bool) × (a : ℕ) × (x ≡ round f s a c) × (k ≡ signed s a)

-- x is k / 2 ^ i, and k is at most n in size
pub record In (x : Float) (k : ℤ) (i n : ℕ) : Type 0 where
  pub val : Val x k i
  pub size : unsigned_abs k ≤ n
