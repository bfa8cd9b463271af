-- One more digit of a whole root, in any base B. With the root r and the rest s so far, and the next two digits a and b of the number, the next digit is the quotient of s * B + a by 2 * r, or one less. Assumes nothing.
use Rattle.std.proofs.Common.{◌≡◌, ℕ, zero, suc, ◌+◌, ◌-◌, ◌*◌, ◌/◌, ◌%◌, ◌^◌, ◌<◌, ◌≤◌, ap, le_of_suc-le-suc, mul-le-mul_right, lt_of_not-le, arith}
use Rattle.std.proofs.lemmas.Nat.{div-add-mod', mod_below, div_below, mul-le}

-- t is the whole root of the number with the root r and the rest s, gone on with the digits a and b, and n is its rest
abbrev pub Next : ℕ → ℕ → ℕ → ℕ → ℕ → ℕ → ℕ → Type 0
Next r s B a b t n = (t * t + n ≡ (r * r + s) * (B * B) + (a * B + b)) × (n ≤ 2 * t)

some_digit : (q n : ℕ) → n < q * q → 0 < q
some_digit zero n h = absurd (omega arith)
some_digit (suc q) n h = omega arith

-- ---- the square of one less
pub square_below : (r : ℕ) → 0 < r → (r - 1) * (r - 1) + 2 * r ≡ r * r + 1
square_below r h = let e : r ≡ r - 1 + 1 = omega arith in omega (arith, ap (λ (z : ℕ). z * z) e)

-- ---- with a digit q whose remainder is u
module _ (r s B a b q u : ℕ) (divided : q * (2 * r) + u ≡ s * B + a) (U : u < 2 * r) (Q : q ≤ B) (enough : B ≤ 2 * r) (C : b < B) where
  -- twice the root so far, times the base, is more than what is left
  left_below : u * B + b < 2 * r * B
  left_below = omega (arith, mul-le-mul_right B U)

  -- and no less than the digit's square
  square_le : q * q ≤ 2 * r * B
  square_le = omega (arith, mul-le q q B B Q Q, mul-le-mul_right B enough)

  less_digit : q * q < u * B + b + 2 * (r * B + q)
  less_digit = elim q as (λ z. z * z ≤ 2 * r * B → z * z < u * B + b + 2 * (r * B + z)) [ zero ↦ λ h. omega (arith, left_below) | suc z ↦ λ h. omega arith ] square_le

  number_is : (t n : ℕ) → t * t + n + q * q ≡ (r * B + q) * (r * B + q) + (u * B + b) → t * t + n ≡ (r * r + s) * (B * B) + (a * B + b)
  number_is t n e = omega (arith, e, ap (λ (z : ℕ). z * B) divided)

-- ---- with the quotient
abbrev pub quotient : ℕ → ℕ → ℕ → ℕ → ℕ
quotient r s B a = (s * B + a) / (2 * r)

abbrev pub remainder : ℕ → ℕ → ℕ → ℕ → ℕ
remainder r s B a = (s * B + a) % (2 * r)

module _ (r s B a b : ℕ) (whole : s ≤ 2 * r) (enough : B ≤ 2 * r) (A : a < B) (C : b < B) where
  divided : quotient r s B a * (2 * r) + remainder r s B a ≡ s * B + a
  divided = div-add-mod' (s * B + a) (2 * r)

  remains : remainder r s B a < 2 * r
  remains = mod_below (s * B + a) (2 * r) (omega arith)

  -- the quotient is at most the base
  digit_le : quotient r s B a ≤ B
  digit_le =
      let h : s * B ≤ 2 * r * B = mul-le-mul_right B whole in
      let k : s * B + a < suc B * (2 * r) = omega arith in
      let l : quotient r s B a < suc B = div_below (s * B + a) (2 * r) (suc B) (omega arith) k in
      omega arith

  -- so its square is not large
  pub square_small : B ≤ 2 ^ 26 → let q = quotient r s B a in q * q < 2 ^ 64
  square_small S =
      let q = quotient r s B a in
      let k : q ≤ 2 ^ 26 = omega (arith, digit_le) in
      omega (arith, mul-le q q (2 ^ 26) (2 ^ 26) k k)

  -- nor is any product, of a root that is not large
  pub room : r < 2 ^ 27 → B ≤ 2 ^ 26 → let q = quotient r s B a in (r * B ≤ 2 ^ 53) × (q ≤ 2 ^ 26) × (q * q ≤ 2 ^ 52)
  room R S =
      let q = quotient r s B a in
      let h : r ≤ 2 ^ 27 = omega arith in
      let k : q ≤ 2 ^ 26 = omega (arith, digit_le) in
      (mul-le r B (2 ^ 27) (2 ^ 26) h S, k, mul-le q q (2 ^ 26) (2 ^ 26) k k)

  -- the quotient is the digit, or one more
  pub enough_left : let q = quotient r s B a in let u = remainder r s B a in u * B + b ≤ q * q + 2 * (r * B + q)
  enough_left = omega (arith, left_below r s B a b (quotient r s B a) (remainder r s B a) divided remains digit_le enough C)

  pub square_fits : let q = quotient r s B a in let u = remainder r s B a in q * q < u * B + b + 2 * (r * B + q)
  square_fits = less_digit r s B a b (quotient r s B a) (remainder r s B a) divided remains digit_le enough C

  -- the root t with the rest n is that of the number, gone on with the digits a and b
  pub goes_on : let q = quotient r s B a in let u = remainder r s B a in (t n : ℕ) → t * t + n + q * q ≡ (r * B + q) * (r * B + q) + (u * B + b) → t * t + n ≡ (r * r + s) * (B * B) + (a * B + b)
  goes_on = number_is r s B a b (quotient r s B a) (remainder r s B a) divided remains digit_le enough C

  -- the quotient is the digit where its square is at most what is left
  pub digit_is : let q = quotient r s B a in let u = remainder r s B a in q * q ≤ u * B + b → Next r s B a b (r * B + q) (u * B + b - q * q)
  digit_is h =
      let q = quotient r s B a in
      let u = remainder r s B a in
      (goes_on (r * B + q) (u * B + b - q * q) (omega arith), omega (arith, enough_left))

  -- and else one less is
  pub less_is : let q = quotient r s B a in let u = remainder r s B a in u * B + b < q * q → Next r s B a b (r * B + q - 1) (u * B + b + 2 * (r * B + q) - 1 - q * q)
  less_is h =
      let q = quotient r s B a in
      let u = remainder r s B a in
      let some : 0 < r * B + q = omega (arith, square_fits) in
      let t = r * B + q - 1 in
      let n = u * B + b + 2 * (r * B + q) - 1 - q * q in
      (goes_on t n (omega (arith, square_fits, square_below (r * B + q) some)), omega (arith, square_fits))

-- ---- between which numbers the whole root r of n lies
pub root_ge : (r s n k : ℕ) → r * r + s ≡ n → s ≤ 2 * r → k * k ≤ n → k ≤ r
root_ge r s n k e w h = le_of_suc-le-suc (lt_of_not-le (λ (l : suc r ≤ k). omega (arith, mul-le (r + 1) (r + 1) k k (omega arith) (omega arith))))

pub root_lt : (r s n k : ℕ) → r * r + s ≡ n → n < k * k → r < k
root_lt r s n k e h = lt_of_not-le (λ (l : k ≤ r). omega (arith, mul-le k k r r l l))
