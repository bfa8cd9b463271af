-- The nearest root is the library's definition of the square root: a root to 2271 binary places, and then rounded once. Assumes nothing.
use Rattle.std.proofs.Common.{◌≡◌, ℕ, zero, suc, ◌+◌, ◌-◌, ◌*◌, ◌/◌, ◌%◌, ◌^◌, ◌<◌, ◌≤◌, Bool, true, false, cond, not, T, eqb, leb, sym, refl, ap, ◌∙◌, subst, inl, inr, true≢false, le_of_eq, lt_of_lt_of_le, le_of_suc-le-suc, lt_of_le_of_lt, le_of_lt, lt_irrefl, mul-le-mul_right, div-lt_iff_lt-mul, le_antisymm, mul-lt-mul_of_pos_right, mul-pos, lt_of_not-le, le-div_iff_mul-le, mul-div_cancel, arith, eqb→eq, ltb→lt, leb→le, pow_pos, pow_mono, pow-add}
use Prim.Native.Nat.{compare, Ordering}
use native.Mathlib.Nat.{pow-succ'}
use lib.Dec.{is_le, compare_is_eq, nleb→lt, eqb_refl}
use lib.Arith.{digits_div, digits_mod}
use lib.Ieee.{Float, nan, inf, fin, binary64, up, down, size, nearest, units, round, lt}
use lib.Ieee.Digits.{size-lt, size-le}
use lib.Ieee.Fits.{core, round_is, round-fits, down_pos}
use lib.Ieee.Exact.{HasValue, units_val}
use Rattle.std.specs.Float.{float_zero as zeroF}
use Rattle.std.specs.Float.Ieee.{root_below, root_twice, sqrt}
use Rattle.std.proofs.lemmas.Nat.{mul-le}
use Rattle.elementary.specs.Roots.{Units, NearestWhole}
use Rattle.elementary.proofs.UnitSizes.{units_same}
use Rattle.std.proofs.lemmas.Bool.{cases_lt}

-- ---- the whole part of a root
abbrev Whole : ℕ → ℕ → Type 0
Whole n s = (s * s ≤ n) × (n < (s + 1) * (s + 1))

more_digit : (n s : ℕ) → Whole (n / 4) s → Whole n (cond (leb ((2 * s + 1) * (2 * s + 1)) n) (2 * s + 1) (2 * s))
more_digit n s h = go (leb ((2 * s + 1) * (2 * s + 1)) n) (leb→le ((2 * s + 1) * (2 * s + 1)) n) (nleb→lt ((2 * s + 1) * (2 * s + 1)) n)
  where
    go : (b : Bool) → (T b → (2 * s + 1) * (2 * s + 1) ≤ n) → (T (not b) → n < (2 * s + 1) * (2 * s + 1)) → Whole n (cond b (2 * s + 1) (2 * s))
    go true y n' = (y tt, omega (arith, h.1))
    go false y n' = (omega (arith, h.0), n' tt)

floor_whole : (k n : ℕ) → n < 2 ^ k → Whole n (root_below k n)
unfolding root_below
floor_whole zero n h = (omega arith, h)
floor_whole (suc k) n h = more_digit n (root_below k (n / 4)) (floor_whole k (n / 4) (quarter (2 ^ k) (subst (λ (z : ℕ). n < z) (pow-succ' 2 k) h)))
  where
    quarter : (p : ℕ) → n < 2 * p → n / 4 < p
    quarter p h = omega arith

-- ---- twice the root, between twice the numbers whose squares lie around n
record Twice (n t : ℕ) : Type 0 where
  over : (a : ℕ) → a * a < n → 2 * a < t
  from : (a : ℕ) → a * a ≤ n → 2 * a ≤ t
  under : (b : ℕ) → n < b * b → t < 2 * b

square_below : (a s : ℕ) → a * a < (s + 1) * (s + 1) → a ≤ s
square_below a s h = le_of_suc-le-suc (lt_of_not-le (λ (g : suc s ≤ a). omega (arith, mul-le (suc s) (suc s) a a g g)))

square_above : (b s : ℕ) → s * s < b * b → s < b
square_above b s h = lt_of_not-le (λ (g : b ≤ s). omega (arith, mul-le b b s s g g))

twice_of : (n s : ℕ) → Whole n s → Twice n (2 * s + cond (eqb (s * s) n) 0 1)
twice_of n s h = go (eqb (s * s) n) (eqb→eq (s * s) n) (λ e. subst (λ (z : ℕ). T (eqb (s * s) z)) e (eqb_refl (s * s)))
  where
    strict : (a : ℕ) → a * a < s * s → 2 * a < 2 * s + 0
    strict a l = omega (arith, square_above s a l)

    go : (b : Bool) → (T b → s * s ≡ n) → (s * s ≡ n → T b) → Twice n (2 * s + cond b 0 1)
    go true y k = record {
      over = λ a l. strict a (omega (arith, y tt));
      from = λ a l. omega (arith, square_below a s (omega (arith, h.1)));
      under = λ b l. omega (arith, square_above b s (omega (arith, h.0)));
    }
    go false y k = record {
      over = λ a l. omega (arith, square_below a s (omega (arith, h.1)));
      from = λ a l. omega (arith, square_below a s (omega (arith, h.1)));
      under = λ b l. omega (arith, square_above b s (omega (arith, h.0)));
    }

twice_root : (n : ℕ) → Twice n (root_twice n)
unfolding root_twice
twice_root n = twice_of n (root_below (size n) n) (floor_whole (size n) n (size-lt n))

-- ---- the nearest number to n / U, by comparisons that `round` makes
clash : (a b : ℕ) → a < b → b ≤ a → ⊥
clash a b h l = omega arith

compare_lt : (a b : ℕ) → a < b → compare a b ≡ Ordering.lt
compare_lt a b h = go (compare a b) (eqb→eq a b) (nleb→lt a b)
  where
    go : (o : Ordering) → (T (compare_is_eq o) → a ≡ b) → (T (not (is_le o)) → b < a) → o ≡ Ordering.lt
    go Ordering.lt e n = refl
    go Ordering.eq e n = absurd (clash a b h (le_of_eq (sym (e tt))))
    go Ordering.gt e n = absurd (clash a b h (le_of_lt (n tt)))

compare_gt : (a b : ℕ) → b < a → compare a b ≡ Ordering.gt
compare_gt a b h = go (compare a b) (leb→le a b)
  where
    go : (o : Ordering) → (T (is_le o) → a ≤ b) → o ≡ Ordering.gt
    go Ordering.lt l = absurd (clash b a h (l tt))
    go Ordering.eq l = absurd (clash b a h (l tt))
    go Ordering.gt l = refl

nearest_at : (n U q r : ℕ) → r < U → n ≡ q * U + r → nearest (n / U) (compare (n % U * 2) U) ≡ nearest q (compare (r * 2) U)
nearest_at n U q r h e =
    ap (λ (z : ℕ). nearest (z / U) (compare (z % U * 2) U)) e
    ∙ ap (λ (z : ℕ). nearest z (compare ((q * U + r) % U * 2) U)) (digits_div q h)
    ∙ ap (λ (z : ℕ). nearest q (compare (z * 2) U)) (digits_mod q h)

rounded : (n U q : ℕ) → 0 < q → (2 * q - 1) * U < 2 * n → 2 * n < (2 * q + 1) * U → nearest (n / U) (compare (n % U * 2) U) ≡ q
rounded n U q Q a b = elim (cases_lt n (q * U)) [
  | inr l ↦
      let r = n - q * U in
      nearest_at n U q r (omega arith) (omega arith) ∙ ap (nearest q) (compare_lt (r * 2) U (omega arith))
  | inl l ↦
      let p = q - 1 in
      let e : q ≡ p + 1 = omega arith in
      let x : q * U ≡ (p + 1) * U = ap (λ (z : ℕ). z * U) e in
      let y : (2 * q - 1) * U ≡ (2 * p + 1) * U = ap (λ (z : ℕ). z * U) (odd q p e) in
      let r = n - p * U in
      nearest_at n U p r (omega arith) (omega arith) ∙ ap (nearest p) (compare_gt (r * 2) U (omega arith)) ∙ sym (e ∙ add_one p)
]
  where
    odd : (q p : ℕ) → q ≡ p + 1 → 2 * q - 1 ≡ 2 * p + 1
    odd q p e = omega arith

    add_one : (p : ℕ) → p + 1 ≡ suc p
    add_one p = omega arith

-- ---- `round`, where n / den lies around q * 2 ^ j
size_is : (n z : ℕ) → 2 ^ z ≤ n → n < 2 ^ suc z → size n ≡ suc z
size_is n z h l = le_antisymm (size-le n (suc z) l) (lt_of_not-le (λ (g : size n ≤ z). lt_irrefl (2 ^ z) (lt_of_lt_of_le (lt_of_le_of_lt h (size-lt n)) (pow_mono g))))

round_to : (num den q j : ℕ) → 0 < den → 2 ^ 52 * (den * 2 ^ j) ≤ num * 2 ^ 1074 → 0 < q → q < 2 ^ 53
    → (2 * q - 1) * (den * 2 ^ j) < 2 * (num * 2 ^ 1074) → 2 * (num * 2 ^ 1074) < (2 * q + 1) * (den * 2 ^ j) → round binary64 false num den ≡ units binary64 false q j
round_to num den q j P a Q S b c =
    let n = num * 2 ^ 1074 in
    let U = den * 2 ^ j in
    let lo : 2 ^ (52 + j) ≤ n / den = (le-div_iff_mul-le P).1 (subst (λ (z : ℕ). z ≤ n) (turned (2 ^ 52) den (2 ^ j) ∙ ap (λ (z : ℕ). z * den) (sym (pow-add 2 52 j))) a) in
    let hi : n / den < 2 ^ (53 + j) = (div-lt_iff_lt-mul P).1 (subst (λ (z : ℕ). n < z) (turned (2 ^ 53) den (2 ^ j) ∙ ap (λ (z : ℕ). z * den) (sym (pow-add 2 53 j))) (less n q U S c)) in
    let k : size (n / den) - 53 ≡ j = dropped (size (n / den)) j (size_is (n / den) (52 + j) lo (subst (λ (z : ℕ). n / den < 2 ^ z) (next j) hi)) in
    round_is binary64 false num den ∙ ap (core binary64 false n den) k ∙ ap (λ (z : ℕ). units binary64 false z j) (rounded n U q Q b c)
  where
    turned : (a d J : ℕ) → a * (d * J) ≡ a * J * d
    turned a d J = omega arith

    less : (n q U : ℕ) → q < 2 ^ 53 → 2 * n < (2 * q + 1) * U → n < 2 ^ 53 * U
    less n q U h l = let k : (2 * q + 1) * U ≤ 2 * 2 ^ 53 * U = mul-le-mul_right U (omega arith) in omega arith

    next : (j : ℕ) → 53 + j ≡ suc (52 + j)
    next j = omega arith

    dropped : (z j : ℕ) → z ≡ suc (52 + j) → z - 53 ≡ j
    dropped z j e = omega arith

-- ---- the library's root of v units
sqrt_at : (x : Float) (v : ℕ) → T (lt zeroF x) → HasValue x false v (2 ^ 1074) → sqrt binary64 x ≡ round binary64 false (root_twice (v * 2 ^ 3468)) (2 ^ 2272)
unfolding sqrt
sqrt_at nan v p h = absurd h
sqrt_at (inf s) v p h = absurd h
sqrt_at (fin true m e) v p h = absurd (true≢false h.0)
sqrt_at (fin false zero e) v p h = absurd (unfold lt in none (down e) (up e) (ltb→lt (0 * 1 * down e) (0 * up e * 1) p))
  where
    none : (d u : ℕ) → 0 * 1 * d < 0 * u * 1 → ⊥
    none d u l = omega arith
sqrt_at (fin false (suc m) e) v p h =
    ap (λ (z : ℕ). round binary64 false (root_twice z) (2 ^ 2272))
    (ap (λ (z : ℕ). z / down e) (scaled (suc m * up e) (2 ^ 1074) (2 ^ 3468) v (down e) h.1) ∙ mul-div_cancel (v * 2 ^ 3468) (down_pos e))
  where
    scaled : (n P W v d : ℕ) → n * P ≡ v * d → n * (P * W) ≡ v * W * d
    scaled n P W v d e = omega (arith, ap (λ (z : ℕ). z * W) e)

-- with J = 2 ^ j and W = 2 ^ 1196 the number whose root is taken is D * J * J * 4 * W * W
module _ (q J D W t : ℕ) (pos : 0 < J * W) (near : NearestWhole D q) (Q : 0 < q) (large : 2 ^ 52 * 2 ^ 52 ≤ D) (twice : Twice (D * (J * J) * (4 * (W * W))) t) where
  lower : (2 * q - 1) * (2 * (W * J)) < t
  lower =
      let p = q - 1 in
      let e : q ≡ p + 1 = omega arith in
      let o : 2 * q - 1 ≡ 2 * p + 1 = omega arith in
      let d : (p + 1) * (p + 1) < D + (p + 1) = subst (λ (z : ℕ). z * z < D + z) e near.0 in
      let m : 4 * (p * p) + 4 * p + 4 ≤ 4 * D = omega arith in
      let s : (2 * p + 1) * (J * W) * ((2 * p + 1) * (J * W)) < D * (J * J) * (4 * (W * W)) = omega (arith, mul-le-mul_right (J * W * (J * W)) m, mul-pos pos pos) in
      subst (λ (z : ℕ). z * (2 * (W * J)) < t) (sym o) (omega (arith, twice.over ((2 * p + 1) * (J * W)) s))

  upper : t < (2 * q + 1) * (2 * (W * J))
  upper =
      let s : D * (J * J) * (4 * (W * W)) < (2 * q + 1) * (J * W) * ((2 * q + 1) * (J * W)) = omega (arith, mul-le-mul_right (4 * (J * W * (J * W))) near.1, mul-pos pos pos) in
      omega (arith, twice.under ((2 * q + 1) * (J * W)) s)

  reaches : 2 ^ 52 * (4 * (W * J)) ≤ t
  reaches =
      let s : 2 ^ 52 * (2 * (J * W)) * (2 ^ 52 * (2 * (J * W))) ≤ D * (J * J) * (4 * (W * W)) = omega (arith, mul-le-mul_right (4 * (J * W * (J * W))) large) in
      omega (arith, twice.from (2 ^ 52 * (2 * (J * W))) s)

-- the nearest root is the defined one
pub defined : (x r : Float) (v q j D : ℕ) → T (lt zeroF x) → Units x v → Units r (q * 2 ^ j) → 2 ^ 52 ≤ q → q < 2 ^ 53 → q * 2 ^ j < 2 ^ 2098 → NearestWhole D q
    → 2 ^ 52 * 2 ^ 52 ≤ D → v * 2 ^ 1074 ≡ D * (2 ^ j * 2 ^ j) → r ≡ sqrt binary64 x
defined x r v q j D p X R Q S top near large square =
    let J = 2 ^ j in
    let W = 2 ^ 1196 in
    let P = 2 ^ 1074 in
    let t = root_twice (v * 2 ^ 3468) in
    let twice : Twice (D * (J * J) * (4 * (W * W))) t = subst (λ (z : ℕ). Twice z t) (counted v P (2 ^ 2394) (D * (J * J)) square) (twice_root (v * 2 ^ 3468)) in
    let some : 0 < q = lt_of_lt_of_le (pow_pos 52) Q in
    let JW : 0 < J * W = mul-pos (pow_pos j) (pow_pos 1196) in
    let is : round binary64 false t (2 ^ 2272) ≡ units binary64 false q j =
    round_to t (2 ^ 2272) q j (pow_pos 2272)
    (first (2 ^ 52) W J P t (reaches q J D W t JW near some large twice)) some S
    (second (2 * q - 1) W J P t (pow_pos 1074) (lower q J D W t JW near some large twice))
    (third (2 * q + 1) W J P t (pow_pos 1074) (upper q J D W t JW near some large twice)) in
    units_same r (sqrt binary64 x) (q * J) R
    (subst (λ (z : Float). Units z (q * J)) (sym (sqrt_at x v p X.1))
    (round-fits binary64 false t (2 ^ 2272), subst (λ (z : Float). HasValue z false (q * J) P) (sym is) (units_val binary64 false q j top)))
  where
    counted : (v P G E : ℕ) → v * P ≡ E → v * (P * G) ≡ E * G
    counted v P G E e = omega (arith, ap (λ (z : ℕ). z * G) e)

    first : (L W J P t : ℕ) → L * (4 * (W * J)) ≤ t → L * (4 * W * P * J) ≤ t * P
    first L W J P t h = omega (arith, mul-le-mul_right P h)

    second : (a W J P t : ℕ) → 0 < P → a * (2 * (W * J)) < t → a * (4 * W * P * J) < 2 * (t * P)
    second a W J P t p h = omega (arith, mul-lt-mul_of_pos_right h p)

    third : (a W J P t : ℕ) → 0 < P → t < a * (2 * (W * J)) → 2 * (t * P) < a * (4 * W * P * J)
    third a W J P t p h = omega (arith, mul-lt-mul_of_pos_right h p)
