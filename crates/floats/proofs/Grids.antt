-- The grid numbers are just the floats that survive a sum where floats are 1/256 apart. Assumes nothing.
use Rattle.std.proofs.Common.{◌≡◌, ℕ, zero, suc, ◌+◌, ◌-◌, ◌*◌, ◌^◌, ◌<◌, ◌≤◌, true, false, not, T, ℤ, pos, negsuc, ◌+ℤ◌, ◌-ℤ◌, nat_abs, sym, refl, ap, ◌∙◌, subst, inl, inr, arith, lit≤, ltb→lt, leb→le, pow_pos, pow_mono, pow-add}
use lib.Ieee.{Float, nan, inf, fin, binary64, of_bits, of_int, add, sub, lt, le, eq, fits, is_nan}
use lib.Ieee.Fits.{add-fits}
use lib.Ieee.Scale.{finite}
use Rattle.std.specs.Float.{float_zero as zeroF, float_with_sign}
use Rattle.std.specs.Float.Order.{not_above_negative, at_least_lem, le_of_lt, le_of_not-lt, lt_of_le_of_lt}
use Rattle.std.proofs.lemmas.Int.{ints}
use Rattle.floats.specs.Value.{Is, Val}
use Rattle.floats.specs.Page.{GridNumber, UpTo}
use Rattle.floats.specs.Coarse.{back, coarse as limit}
use Rattle.floats.proofs.Rounded.{order}
use Rattle.floats.proofs.Compared.{is_lt, is_le, is_eq}
use Rattle.floats.proofs.Exactly.{exact, val_add, val_sub}
use Rattle.floats.proofs.Monotone.{bounds}
use Rattle.floats.proofs.Sums.{add_mono}
use Rattle.floats.proofs.Sizes.{abs_is, abs_is_back, abs_from_zero, eq_is, up_to_only, up_to_every}

-- ---- at most a whole number in size
pub whole_float : (n : ℕ) → n < 2 ^ 53 → Is (of_int binary64 (pos n)) (pos n) 1
unfolding of_int
whole_float n h = exact binary64 (of_int binary64 (pos n)) (pos n) 0 (omega arith) h (false, n, refl, refl)

pub sized_only : (x a : Float) (n : ℕ) → a ≡ float_with_sign false x → n < 2 ^ 53 → T (le a (of_int binary64 (pos n))) → UpTo n x
sized_only x a n e h t = up_to_only x (of_int binary64 (pos n)) n (whole_float n h) (subst (λ (z : Float). T (le z (of_int binary64 (pos n)))) e t)

pub sized_every : (x a : Float) (n : ℕ) → a ≡ float_with_sign false x → n < 2 ^ 53 → UpTo n x → T (le a (of_int binary64 (pos n)))
sized_every x a n e h u = subst (λ (z : Float). T (le z (of_int binary64 (pos n)))) (sym e) (up_to_every x (of_int binary64 (pos n)) n (whole_float n h) u)

-- ---- the numbers in the test
abbrev infinity : Float
infinity = of_bits binary64 0x7ff0_0000_0000_0000

coarse_is : limit ≡ fin false 1 (pos 44)
unfolding of_bits
coarse_is = refl

infinity_is : infinity ≡ inf false
unfolding of_bits
infinity_is = refl

abbrev coarse : Float
coarse = fin false 1 (pos 44)

coarse_val : Val coarse (pos (2 ^ 52)) 8
coarse_val = (false, 2 ^ 52, (refl, refl), refl)

-- ---- from 2 ^ 44 on every float is a grid number
-- a place below 1/256 leaves too few digits
place_up : (m k : ℕ) → m < 2 ^ 53 → 2 ^ 44 * 2 ^ k ≤ m * 1 → k ≤ 8
place_up m k M h = elim (order k 9) [
  | inl g ↦ omega arith
  | inr o ↦
      let g : 9 ≤ k = elim o [ inl e ↦ omega arith | inr l ↦ omega arith ] in
      absurd (omega (arith, pow_mono g))
]

pub grid_above : (x : Float) → T (fits binary64 x) → T (le coarse x) → T (lt x (inf false)) → (n : ℕ) × Val x (pos n) 8
grid_above nan F h t = absurd (unfold lt in t)
grid_above (inf true) F h t = absurd (unfold le lt eq in h)
grid_above (inf false) F h t = absurd (unfold lt in t)
grid_above (fin true m e) F h t = absurd (not_above_negative 44 m e h)
grid_above (fin false zero e) F h t = (0, (false, 0, (refl, omega arith), refl))
grid_above (fin false (suc m) (pos a)) F h t = (suc m * 2 ^ a * 256, (false, suc m * 2 ^ a * 256, (refl, omega arith), refl))
grid_above (fin false (suc m) (negsuc a)) F h t =
    let g : suc a ≤ 8 = place_up (suc m) (suc a) (bounds binary64 false m (negsuc a) F).0 (at_least_lem 44 (suc m) (negsuc a) h) in
    let j = 8 - suc a in
    let e : j + suc a ≡ 8 = omega arith in
    let p : 2 ^ j * 2 ^ suc a ≡ 256 = sym (pow-add 2 j (suc a)) ∙ ap (λ (z : ℕ). 2 ^ z) e in
    (suc m * 2 ^ j, (false, suc m * 2 ^ j, (refl, omega (arith, ap (λ (z : ℕ). suc m * z) p)), refl))

-- ---- below, a sum with 2 ^ 44 and back keeps just the grid numbers
abbrev there : Float → Float
there a = add binary64 a coarse

abbrev again : Float → Float
again a = sub binary64 (there a) coarse

finite_below : (a : Float) → T (le zeroF a) → T (lt a coarse) → T (finite a)
finite_below nan z h = absurd (unfold lt in h)
finite_below (inf true) z h = absurd (unfold le lt eq in z)
finite_below (inf false) z h = absurd (unfold lt in h)
finite_below (fin s m e) z h = tt

nothing_there : there zeroF ≡ coarse
unfolding add
nothing_there = refl

twice_there : there coarse ≡ fin false 1 (pos 45)
unfolding add
twice_there = refl

-- the sum lies from 2 ^ 44 to 2 ^ 45
sum_from : (a : Float) → T (le zeroF a) → T (finite a) → T (le coarse (there a))
sum_from a z f = subst (λ (x : Float). T (le x (there a))) nothing_there (add_mono binary64 zeroF a coarse tt f tt z)

sum_to : (a : Float) → T (finite a) → T (lt a coarse) → T (le (there a) (fin false 1 (pos 45)))
sum_to a f h = subst (λ (x : Float). T (le (there a) x)) twice_there (add_mono binary64 a coarse coarse f tt tt (le_of_lt a coarse h))

sum_numerator : (a : Float) (n : ℕ) → T (le (there a) (fin false 1 (pos 45))) → Val (there a) (pos n) 8 → n ≤ 2 ^ 53
sum_numerator a n h v = leb→le n (2 ^ 53) (subst T (is_le (there a) (fin false 1 (pos 45)) (pos n) (pos (2 ^ 53)) (2 ^ 8) (pow_pos 8) v (false, 2 ^ 53, (refl, refl), refl)) h)

pub kept_only : (a : Float) → T (le zeroF a) → T (lt a coarse) → T (eq (again a) a) → GridNumber a
kept_only a z h e =
    let f = finite_below a z h in
    let high = sum_to a f h in
    let g = grid_above (there a) (add-fits binary64 a coarse) (sum_from a z f) (lt_of_le_of_lt (there a) (fin false 1 (pos 45)) (inf false) high (unfold lt in tt)) in
    let n = g.0 in
    let N : n ≤ 2 ^ 53 = sum_numerator a n high g.1 in
    let v = val_sub binary64 (there a) coarse (pos n) (pos (2 ^ 52)) 8 (lit≤ tt) (omega (arith, ints)) g.1 coarse_val in
    (pos n -ℤ pos (2 ^ 52), eq_is (again a) a (pos n -ℤ pos (2 ^ 52)) (2 ^ 8) (pow_pos 8) v e)

pub kept_every : (a : Float) (n : ℕ) → Val a (pos n) 8 → T (lt a coarse) → T (eq (again a) a)
kept_every a n v h =
    let N : n < 2 ^ 52 = ltb→lt n (2 ^ 52) (subst T (is_lt a coarse (pos n) (pos (2 ^ 52)) (2 ^ 8) (pow_pos 8) v coarse_val) h) in
    let up = val_add binary64 a coarse (pos n) (pos (2 ^ 52)) 8 (lit≤ tt) (omega arith) v coarse_val in
    let down = val_sub binary64 (there a) coarse (pos n +ℤ pos (2 ^ 52)) (pos (2 ^ 52)) 8 (lit≤ tt) (omega (arith, ints)) up coarse_val in
    subst T (sym (is_eq (again a) a _ (pos n) (2 ^ 8) (pow_pos 8) down v (omega (arith, ints)))) tt

-- ---- the test, for a number x and its size a
only_size : (x a : Float) → a ≡ float_with_sign false x → GridNumber a → GridNumber x
only_size x a e g = let b = abs_is_back x g.0 (2 ^ 8) (subst (λ (z : Float). Val z g.0 8) e g.1) in (b.0, b.1)

size_val : (x a : Float) → a ≡ float_with_sign false x → (g : GridNumber x) → Val a (pos (nat_abs g.0)) 8
size_val x a e g = subst (λ (z : Float). Val z (pos (nat_abs g.0)) 8) (sym e) (abs_is x g.0 (2 ^ 8) g.1)

below_infinity : (x : Float) (k : ℤ) (c : ℕ) → Is x k c → T (lt x (inf false))
below_infinity nan k c v = absurd v.2
below_infinity (inf s) k c v = absurd v.2
below_infinity (fin s m e) k c v = unfold lt in tt

number_below : (x y : Float) → T (lt x y) → T (not (is_nan x))
number_below nan y h = absurd (unfold lt in h)
number_below (inf s) y h = unfold is_nan in tt
number_below (fin s m e) y h = unfold is_nan in tt

pub small_only : (x a : Float) → a ≡ float_with_sign false x → T (lt a limit) → T (eq (back a) a) → GridNumber x
small_only x a e h t =
    let below : T (lt a coarse) = subst (λ (z : Float). T (lt a z)) coarse_is h in
    let from : T (le zeroF a) = subst (λ (z : Float). T (le zeroF z)) (sym e) (abs_from_zero x (subst (λ (z : Float). T (not (is_nan z))) e (number_below a coarse below))) in
    only_size x a e (kept_only a from below (subst (λ (z : Float). T (eq (sub binary64 (add binary64 a z) z) a)) coarse_is t))

pub small_every : (x a : Float) → a ≡ float_with_sign false x → T (lt a limit) → GridNumber x → T (eq (back a) a)
small_every x a e h g =
    subst (λ (z : Float). T (eq (sub binary64 (add binary64 a z) z) a)) (sym coarse_is)
    (kept_every a (nat_abs g.0) (size_val x a e g) (subst (λ (z : Float). T (lt a z)) coarse_is h))

pub large_only : (x a : Float) → a ≡ float_with_sign false x → T (fits binary64 a) → T (not (lt a limit)) → T (lt a infinity) → GridNumber x
large_only x a e F n t =
    let below : T (lt a (inf false)) = subst (λ (z : Float). T (lt a z)) infinity_is t in
    let from : T (le coarse a) = le_of_not-lt a coarse (number_below a (inf false) below) (unfold is_nan in tt) (subst (λ (z : Float). T (not (lt a z))) coarse_is n) in
    let g = grid_above a F from below in
    only_size x a e (pos g.0, g.1)

pub large_every : (x a : Float) → a ≡ float_with_sign false x → GridNumber x → T (lt a infinity)
large_every x a e g = subst (λ (z : Float). T (lt a z)) (sym infinity_is) (below_infinity a (pos (nat_abs g.0)) (2 ^ 8) (size_val x a e g))
