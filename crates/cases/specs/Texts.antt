-- How a list of cases writes numbers, and what a search finds. Assumes nothing.
use Rattle.std.specs.Prelude.{◌≡◌, ℕ, zero, suc, ◌+◌, ◌/◌, ◌%◌, Bool, ◌&&◌, ◌||◌, cond, T, List, [], ◌∷◌, ◌++◌, codes, is_nan, nat_lt, nat_le, to_bits, Float, Option, Some, None}
use Rattle.std.specs.Float.{binary64}
use Rattle.std.specs.Float.Ieee.{fits}

-- a value of which P holds, or nothing where P holds of none
abbrev pub Finds : {A : Type 0} → (A → Type 0) → Option A → Type 0
Finds P (Some a) = P a
Finds {A} P None = (a : A) → ¬ (P a)

-- 0 to 9, then a to f
abbrev pub hex_digit : ℕ → ℕ
hex_digit d = cond (nat_lt d 10) (48 + d) (87 + d)

-- whether a byte is such a digit
abbrev pub is_hex_digit : ℕ → Bool
is_hex_digit b = (nat_le 48 b && nat_le b 57) || (nat_le 97 b && nat_le b 102)

-- the lowest k hexadecimal digits of n, the highest of them first
unfoldable pub hexadecimal : ℕ → ℕ → List ℕ
hexadecimal zero n = []
hexadecimal (suc k) n = hexadecimal k (n / 16) ++ (hex_digit (n % 16) ∷ [])

-- a number: its bits, or `nan`
abbrev pub written : Float → List ℕ
written x = cond (is_nan x) (codes "nan") (hexadecimal 16 (to_bits binary64 x))

-- the text writes x, which is a value of the format
abbrev pub Writes : List ℕ → Float → Type 0
Writes text x = T (fits binary64 x) × (text ≡ written x)
