-- A float rounded to a whole number, halves to even, is a nearest whole number, and is read back as that number. Assumes nothing.
use Rattle.std.proofs.Common.{◌≡◌, ℕ, zero, suc, ◌+◌, ◌-◌, ◌*◌, ◌/◌, ◌%◌, ◌^◌, ◌<◌, ◌≤◌, min, Bool, true, false, ℤ, pos, ◌-ℤ◌, ◌*ℤ◌, neg_ℤ, nat_abs, sym, refl, ap, ◌∙◌, subst, true≢false, mul-le-mul_right, mod-lt, div-add-mod', le_of_mul-le-mul_right, arith, lit≤}
use mathlib.Core.Bool.{false≢true}
use Prim.Native.Nat.{compare, Ordering}
use native.Mathlib.Nat.{mul-div_left}
use native.Mathlib.Omega.{compare-lt, compare-eq, compare-gt}
use lib.Ieee.{Float, nan, inf, fin, binary64, up, down, nearest, round, to_signed}
use lib.Ieee.Nearest.{closest}
use lib.Ieee.Fits.{down_pos}
use lib.Ieee.Exact.{HasValue}
use Rattle.std.specs.Float.{round_ties_even, round_with}
use Rattle.std.proofs.lemmas.Int.{ints}
use Rattle.floats.specs.Value.{signed, Is}
use Rattle.floats.proofs.Rounded.{abs_signed, mul_signed}
use Rattle.elementary.proofs.Scaled.{whole_value}
use Rattle.elementary.proofs.Most.{Most, most_at}

-- ---- a fraction and its nearest whole number N are half apart at most
pub record Close (a b N : ℕ) : Type 0 where
  pub below : 2 * a ≤ 2 * N * b + b
  pub above : 2 * N * b ≤ 2 * a + b

close : (a b : ℕ) → 0 < b → Close a b (closest a b)
close a b B = at (compare (a % b * 2) b) refl
  where
    q : ℕ
    q = a / b

    tie : (t : ℕ) → t < 2 → a % b * 2 ≡ b → Close a b (q + t)
    tie zero T2 e = record { below = omega (arith, div-add-mod' a b); above = omega (arith, div-add-mod' a b) }
    tie (suc zero) T2 e = record { below = omega (arith, div-add-mod' a b); above = omega (arith, div-add-mod' a b) }
    tie (suc (suc t)) T2 e = absurd (omega arith)

    at : (o : Ordering) → compare (a % b * 2) b ≡ o → Close a b (nearest (a / b) o)
    at Ordering.lt e = let l = compare-lt (a % b * 2) b e in record { below = omega (arith, div-add-mod' a b, l); above = omega (arith, div-add-mod' a b, l) }
    at Ordering.eq e = tie (a / b % 2) (mod-lt (a / b) (omega arith)) (compare-eq (a % b * 2) b e)
    at Ordering.gt e = let l = compare-gt (a % b * 2) b e in record { below = omega (arith, div-add-mod' a b, l, mod-lt a B); above = omega (arith, div-add-mod' a b, l, mod-lt a B) }

close_same : (a b a' b' N : ℕ) → 0 < b → a * b' ≡ a' * b → Close a b N → Close a' b' N
close_same a b a' b' N B e w = record {
  below = le_of_mul-le-mul_right (omega (arith, mul-le-mul_right b' w.below, e)) B;
  above = le_of_mul-le-mul_right (omega (arith, mul-le-mul_right b' w.above, e)) B;
}

close_most : (a b N M : ℕ) → 0 < b → a ≤ M * b → Close a b N → N ≤ M
close_most a b N M B h w = let g : 2 * N ≤ 2 * M + 1 = le_of_mul-le-mul_right (omega (arith, w.above)) B in omega arith

-- ---- as floats
even_is : (s : Bool) (m : ℕ) (e : ℤ) → round_ties_even binary64 (fin s m e) ≡ round binary64 s (closest (m * up e) (down e)) 1
unfolding round_with
even_is true m e = refl
even_is false m e = refl

read_back : (y : Float) (s : Bool) (N : ℕ) → N < 2 ^ 63 → HasValue y s N 1 → to_signed 63 y ≡ signed s N
unfolding to_signed
read_back nan s N h v = absurd v
read_back (inf t) s N h v = absurd v
read_back (fin true m e) true N h v =
    let q : m * up e / down e ≡ N = ap (λ (z : ℕ). z / down e) (omega (arith, v.1)) ∙ mul-div_left N (down_pos e) in
    ap (λ (z : ℕ). neg_ℤ (pos (min z (2 ^ 63)))) q ∙ ap (λ (z : ℕ). neg_ℤ (pos z)) (omega arith)
read_back (fin true m e) false N h v = absurd (true≢false v.0)
read_back (fin false m e) true N h v = absurd (false≢true v.0)
read_back (fin false m e) false N h v =
    let q : m * up e / down e ≡ N = ap (λ (z : ℕ). z / down e) (omega (arith, v.1)) ∙ mul-div_left N (down_pos e) in
    ap (λ (z : ℕ). pos (min z (2 ^ 63 - 1))) q ∙ ap pos (omega arith)

pub is_read : (y : Float) (k : ℤ) → nat_abs k < 2 ^ 63 → Is y k 1 → to_signed 63 y ≡ k
is_read y k h v = read_back y v.0 v.1 (subst (λ (n : ℕ). n < 2 ^ 63) (ap nat_abs v.3 ∙ abs_signed v.0 v.1) h) v.2 ∙ sym v.3

-- ---- of at most 2 ^ 20
pub record Rounded (x : Float) (n : ℤ) (c : ℕ) : Type 0 where
  pub k : ℤ
  pub value : Is (round_ties_even binary64 x) k 1
  pub small : nat_abs k ≤ 2 ^ 20
  pub read : to_signed 63 (round_ties_even binary64 x) ≡ k
  pub near : 2 * nat_abs (n -ℤ k *ℤ pos c) ≤ c

apart : (s : Bool) (a N c : ℕ) → Close a c N → 2 * nat_abs (signed s a -ℤ signed s N *ℤ pos c) ≤ c
apart false a N c w = omega (arith, ints, w.below, w.above)
apart true a N c w = subst (λ (z : ℤ). 2 * nat_abs (signed true a -ℤ z) ≤ c) (sym (mul_signed true false N c)) (omega (arith, ints, w.below, w.above))

rounded_parts : (s : Bool) (m : ℕ) (e : ℤ) (n : ℤ) (c : ℕ) → 0 < c → Most (fin s m e) 20 → Is (fin s m e) n c → Rounded (fin s m e) n c
rounded_parts s m e n c C h v =
    let N = closest (m * up e) (down e) in
    let w = close (m * up e) (down e) (down_pos e) in
    let size : m * up e ≤ 2 ^ 20 * down e = subst (λ (z : ℕ). z ≤ 2 ^ 20 * down e) (abs_signed s (m * up e)) (most_at (fin s m e) (signed s (m * up e)) (down e) 20 (down_pos e) h (s, m * up e, (refl, refl), refl)) in
    let most : N ≤ 2 ^ 20 = close_most (m * up e) (down e) N (2 ^ 20) (down_pos e) size w in
    let held : HasValue (round binary64 s N 1) s N 1 = whole_value binary64 s N N 0 64 (omega arith) (omega arith) (omega arith) (lit≤ tt) in
    let is = even_is s m e in
    record {
      k = signed s N;
      value = subst (λ (y : Float). Is y (signed s N) 1) (sym is) (s, N, held, refl);
      small = subst (λ (z : ℕ). z ≤ 2 ^ 20) (sym (abs_signed s N)) most;
      read = ap (to_signed 63) is ∙ read_back (round binary64 s N 1) s N (omega arith) held;
      near = subst (λ (z : ℤ). 2 * nat_abs (z -ℤ signed s N *ℤ pos c) ≤ c) (sym (v.3 ∙ ap (λ (u : Bool). signed u v.1) (sym v.2.0))) (apart s v.1 N c (close_same (m * up e) (down e) v.1 c N (down_pos e) v.2.1 w));
    }

pub rounded : (x : Float) (n : ℤ) (c : ℕ) → 0 < c → Most x 20 → Is x n c → Rounded x n c
rounded nan n c C h v = absurd v.2
rounded (inf s) n c C h v = absurd v.2
rounded (fin s m e) n c C h v = rounded_parts s m e n c C h v
