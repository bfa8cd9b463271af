-- A table of first roots holds what it should, if one test of its entries passes. Assumes nothing.
use Rattle.std.proofs.Common.{◌≡◌, ℕ, zero, suc, ◌+◌, ◌-◌, ◌*◌, ◌/◌, ◌<◌, ◌≤◌, Bool, true, ◌&&◌, T, ltb, leb, List, [], ◌∷◌, length, get_or, ap, subst, arith, ltb→lt, leb→le}
use lib.Ieee.Fits.{and_l, and_r}
use Rattle.elementary.specs.Roots.{Guess}

abbrev fine : ℕ → ℕ → Bool
fine h r = leb ((r - 1) * (r - 1)) (h * 128) && ltb (h * 128 + 127) ((r + 1) * (r + 1)) && ltb 0 r && ltb r 128

-- the entries, from the one for h on, are fine
abbrev pub all_fine : ℕ → List ℕ → Bool
all_fine h [] = true
all_fine h (r ∷ rs) = fine h r && all_fine (suc h) rs

guess : (h r : ℕ) → T (fine h r) → Guess h r
guess h r t =
    let a = leb ((r - 1) * (r - 1)) (h * 128) in
    let b = ltb (h * 128 + 127) ((r + 1) * (r + 1)) in
    let c = ltb 0 r in
    let d = ltb r 128 in
    record {
      low = leb→le ((r - 1) * (r - 1)) (h * 128) (and_l a b (and_l (a && b) c (and_l (a && b && c) d t)));
      up = ltb→lt (h * 128 + 127) ((r + 1) * (r + 1)) (and_r a b (and_l (a && b) c (and_l (a && b && c) d t)));
      some = ltb→lt 0 r (and_r (a && b) c (and_l (a && b && c) d t));
      small = ltb→lt r 128 (and_r (a && b && c) d t);
    }

at : (h : ℕ) (rs : List ℕ) → T (all_fine h rs) → (i : ℕ) → i < length rs → Guess (h + i) (get_or rs i 0)
at h [] t i l = absurd (none i l)
  where
    none : (i : ℕ) → i < 0 → ⊥
    none i l = omega arith
at h (r ∷ rs) t zero l = subst (λ (z : ℕ). Guess z r) (omega arith) (guess h r (and_l (fine h r) (all_fine (suc h) rs) t))
at h (r ∷ rs) t (suc i) l = subst (λ (z : ℕ). Guess z (get_or rs i 0)) (omega arith) (at (suc h) rs (and_r (fine h r) (all_fine (suc h) rs) t) i (omega arith))

-- the entry for n, in a table from h on
pub guess_at : (h n : ℕ) (rs : List ℕ) → T (all_fine h rs) → h ≤ n → n - h < length rs → Guess n (get_or rs (n - h) 0)
guess_at h n rs t g l = subst (λ (z : ℕ). Guess z (get_or rs (n - h) 0)) (omega arith) (at h rs t (n - h) l)

-- ---- where the guess is one too large for n
pub less_sum : (r n : ℕ) → Guess (n / 128) r → n < r * r → (1 + r * r ≤ n + 2 * r) × ((r - 1) * (r - 1) + (n + 2 * r - 1 - r * r) ≡ n)
less_sum r n g h =
    let e : r ≡ r - 1 + 1 = omega (arith, g.some) in
    let k : r * r ≡ (r - 1 + 1) * (r - 1 + 1) = ap (λ (z : ℕ). z * z) e in
    (omega (arith, g.low, k), omega (arith, g.low, k))
