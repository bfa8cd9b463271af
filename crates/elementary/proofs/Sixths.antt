-- Sixth powers, and the least sixteenth whose sixth power is enough. Assumes nothing.
use Rattle.std.proofs.Common.{◌≡◌, ℕ, zero, suc, ◌+◌, ◌*◌, ◌^◌, ◌<◌, ◌≤◌, Bool, true, false, cond, not, ◌&&◌, ◌||◌, T, T_not, Less, Equal, Greater, leb, ℤ, pos, sym, refl, ap, ◌∙◌, subst, inl, inr, add-zero, mul-le-mul_right, zero-mul, le_of_mul-le-mul_right, arith, lit<, lit≤, le→leb, leb→le}
use native.Mathlib.Nat.{pow-succ', pow-zero, pow-le-pow_left, eq_of_mul-eq-mul_right}
use lib.Dec.{nleb→lt}
use lib.Signed.{le_z}
use Rattle.std.proofs.lemmas.Int.{ints}
use lib.Ieee.{Float, nan, inf, fin, binary64, unlike, up, down, round, of_bits, of_int, mul, lt, le, eq, fits, to_unsigned}
use lib.Ieee.Bits.{is_true, is_false}
use lib.Ieee.Fits.{and_l, and_r, down_pos, mul-fits}
use Rattle.std.specs.Prelude.{Some, None}
use Rattle.std.specs.Float.{ceil}
use Rattle.std.specs.Bool.{passes, fails}
use Rattle.std.specs.Ordering.{float_partial_cmp, partial_le, partial_lt, is_some_and, is_le as not_greater}
use Rattle.std.specs.declared.ops.RangeInclusive.{RangeInclusive}
use Rattle.std.specs.Range.{range_inclusive_start, range_inclusive_end, range_inclusive_exhausted, range_inclusive_contains}
use Rattle.std.proofs.lemmas.Bool.{cond-true, cond-false}
use Rattle.std.proofs.num.Values.{round-zero}
use Rattle.floats.specs.Value.{signed, Is, Val, In}
use Rattle.floats.proofs.Rounded.{order}
use Rattle.floats.proofs.Compared.{is_le}
use Rattle.floats.proofs.Monotone.{rescale}
use Rattle.floats.proofs.Sizes.{whole_is}
use Rattle.floats.proofs.Bounded.{in_mul}
use Rattle.floats.proofs.Grids.{whole_float}
use Rattle.elementary.specs.SixthRoots.{LeastSixth, most, scale, in_range, SixthRoot, first_from, sixteenth as sixteenth_float, need_of, sixth_root_of}
use Rattle.elementary.proofs.Numbers.{no_number}
use Rattle.elementary.proofs.Scaled.{Ceiling, parts, no_parts, times_power, ceil_reads}

-- ---- the sixth power
pub sixth_is : (k : ℕ) → k * k * k * (k * k * k) ≡ k ^ 6
sixth_is k = sym (pow-succ' k 5 ∙ ap (λ (z : ℕ). k * z) (pow-succ' k 4 ∙ ap (λ (z : ℕ). k * z) (pow-succ' k 3 ∙ ap (λ (z : ℕ). k * z) (pow-succ' k 2 ∙ ap (λ (z : ℕ). k * z) (pow-succ' k 1 ∙ ap (λ (z : ℕ). k * z) (pow-succ' k 0 ∙ ap (λ (z : ℕ). k * z) (pow-zero k)))))) ∙ omega arith)

pub sixth_mono : (j k : ℕ) → j ≤ k → j ^ 6 ≤ k ^ 6
sixth_mono j k h = pow-le-pow_left h 6

pub sixth_most : (k : ℕ) → k ≤ 1024 → k ^ 6 ≤ 2 ^ 60
sixth_most k h = sixth_mono k 1024 h

-- ---- the number that the sixth power has to reach
most_is : Is most (pos (2 ^ 36)) 1
unfolding of_bits
most_is = (false, 2 ^ 36, (refl, refl), refl)

sixteenth_is : Val (of_bits binary64 0x3fb0_0000_0000_0000) (pos 1) 4
unfolding of_bits
sixteenth_is = (false, 1, (refl, refl), refl)

scale_is : scale ≡ fin false 1 (pos 24)
unfolding of_bits
scale_is = refl

-- 0 × 2 ^ 24
no_scaled : (s : Bool) (m : ℕ) (e : ℤ) (c : ℕ) → m * up e ≡ 0 → Is (mul binary64 (fin s m e) (fin false 1 (pos 24))) (pos 0) c
unfolding mul
no_scaled s m e c z =
    subst (λ (x : Float). Is x (pos 0) c)
    (sym (ap (λ (y : ℕ). round binary64 (unlike s false) y (down e * 1)) (ap (λ (y : ℕ). y * (1 * 2 ^ 24)) z ∙ zero-mul (1 * 2 ^ 24)) ∙ round-zero binary64 (unlike s false) (down e * 1) (omega (arith, down_pos e))))
    (of (unlike s false))
  where
    of : (t : Bool) → Is (fin t 0 (pos 0)) (pos 0) c
    of true = (true, 0, (refl, zero-mul c), refl)
    of false = (false, 0, (refl, zero-mul c), refl)

-- v × 2 ^ 24 is exact
scaled_is : (v : Float) (n c : ℕ) → 0 < c → T (fits binary64 v) → Is v (pos n) c → n ≤ 2 ^ 36 * c → Is (mul binary64 v (fin false 1 (pos 24))) (pos (n * 2 ^ 24)) c
scaled_is nan n c C F w h = absurd w.2
scaled_is (inf s) n c C F w h = absurd w.2
scaled_is (fin true m e) n c C F w h =
    let z = no_parts m e n c C w in
    subst (λ (y : ℕ). Is (mul binary64 (fin true m e) (fin false 1 (pos 24))) (pos y) c) (sym (ap (λ (y : ℕ). y * 2 ^ 24) z.0)) (no_scaled true m e c z.1)
scaled_is (fin false zero e) n c C F w h =
    let z : n ≡ 0 = eq_of_mul-eq-mul_right (down e) (down_pos e) n 0 (sym (parts 0 e n c w) ∙ omega arith) in
    subst (λ (y : ℕ). Is (mul binary64 (fin false 0 e) (fin false 1 (pos 24))) (pos y) c) (sym (ap (λ (y : ℕ). y * 2 ^ 24) z)) (no_scaled false 0 e c (zero-mul (up e)))
scaled_is (fin false (suc m) e) n c C F w h =
    let p = parts (suc m) e n c w in
    let small : suc m * up e ≤ 2 ^ 36 * down e = le_of_mul-le-mul_right (omega (arith, mul-le-mul_right (down e) h)) C in
    let t = times_power binary64 m e 24 36 F small (lit< tt) in
    (false, n * 2 ^ 24, rescale _ false (suc m * up e * 2 ^ 24) (down e) (n * 2 ^ 24) c (down_pos e) (omega (arith, ap (λ (z : ℕ). z * 2 ^ 24) p)) t, refl)

pub needed : (v : Float) (n c : ℕ) → 0 < c → T (fits binary64 v) → Is v (pos n) c → n ≤ 2 ^ 36 * c → (N : ℕ) × (to_unsigned 64 (ceil binary64 (mul binary64 v scale)) ≡ N) × Ceiling (n * 2 ^ 24) c N
needed v n c C F w h =
    let r = ceil_reads (mul binary64 v (fin false 1 (pos 24))) (n * 2 ^ 24) c C (mul-fits binary64 v (fin false 1 (pos 24))) (scaled_is v n c C F w h) (omega arith) in
    (r.0, ap (λ (x : Float). to_unsigned 64 (ceil binary64 (mul binary64 v x))) scale_is ∙ r.1, r.2)

-- ---- the range
zero_is : (c : ℕ) → Is (of_bits binary64 0) (pos 0) c
unfolding of_bits
zero_is c = (false, 0, (refl, zero-mul c), refl)

most_over : (c : ℕ) → Is most (pos (2 ^ 36 * c)) c
most_over c = whole_is most (2 ^ 36) c most_is

no_size : (x : ℕ) → T (le_z (pos 0) (signed true x)) → x ≡ 0
no_size zero t = refl
no_size (suc x) t = absurd t

pub ranged : (v : Float) → T (le (of_bits binary64 0) v) → T (le v most) → (n : ℕ) × (c : ℕ) × (0 < c) × Is v (pos n) c × (n ≤ 2 ^ 36 * c)
ranged nan z h = absurd (unfold le lt eq in h)
ranged (inf true) z h = absurd (unfold le lt eq of_bits in z)
ranged (inf false) z h = absurd (unfold le lt eq of_bits in h)
ranged (fin true m e) z h =
    let t = subst T (is_le (of_bits binary64 0) (fin true m e) (pos 0) (signed true (m * up e)) (down e) (down_pos e) (zero_is (down e)) (true, m * up e, (refl, refl), refl)) z in
    (0, 1, omega arith, (true, 0, (refl, omega (arith, no_size (m * up e) t)), refl), omega arith)
ranged (fin false m e) z h =
    let own : Is (fin false m e) (pos (m * up e)) (down e) = (false, m * up e, (refl, refl), refl) in
    (m * up e, down e, down_pos e, own, leb→le (m * up e) (2 ^ 36 * down e) (subst T (is_le (fin false m e) most (pos (m * up e)) (pos (2 ^ 36 * down e)) (down e) (down_pos e) own (most_over (down e))) h))

pub ranged_back : (v : Float) (n c : ℕ) → 0 < c → Is v (pos n) c → n ≤ 2 ^ 36 * c → T (le (of_bits binary64 0) v) × T (le v most)
ranged_back v n c C w h = (
  subst T (sym (is_le (of_bits binary64 0) v (pos 0) (pos n) c C (zero_is c) w)) (le→leb 0 n (omega arith)),
  subst T (sym (is_le v most (pos n) (pos (2 ^ 36 * c)) c C w (most_over c))) (le→leb n (2 ^ 36 * c) h),
)

-- ---- the answer
pub need_most : (n c N : ℕ) → n ≤ 2 ^ 36 * c → Ceiling (n * 2 ^ 24) c N → N ≤ 2 ^ 60
need_most n c N h w = elim (order N (2 ^ 60 + 1)) [
  | inl l ↦ omega arith
  | inr o ↦
      let g : 2 ^ 60 < N = elim o [ inl e ↦ omega arith | inr l ↦ omega arith ] in
      absurd (omega (arith, w.least (2 ^ 60) g))
]

pub least_sixth : (n c N k : ℕ) → Ceiling (n * 2 ^ 24) c N → (1 ≤ k) × (k ≤ 1024) → N ≤ k ^ 6 → ((j : ℕ) → j < k → 1 ≤ j → j ^ 6 < N) → LeastSixth n c k
least_sixth n c N k w b e l = record {
  from_one = b.0;
  to_most = b.1;
  enough = omega (arith, w.enough, mul-le-mul_right c e);
  least = λ j o h. w.least (j ^ 6) (l j h o);
}

pub sixteenth : (k : ℕ) → k ≤ 1024 → Val (mul binary64 (of_int binary64 (pos k)) (of_bits binary64 0x3fb0_0000_0000_0000)) (pos k) 4
sixteenth k h = subst (λ (z : ℤ). Val (mul binary64 (of_int binary64 (pos k)) (of_bits binary64 0x3fb0_0000_0000_0000)) z 4) (omega (arith, ints)) (in_mul {i = 0} {j = 4} {m = 1024} {n = 1} tt tt whole one).val
  where
    whole : In (of_int binary64 (pos k)) (pos k) 0 1024
    whole = record { val = whole_float k (omega arith); size = h }

    one : In (of_bits binary64 0x3fb0_0000_0000_0000) (pos 1) 4 1
    one = record { val = sixteenth_is; size = lit≤ tt }

-- ---- the test of the range: both comparisons
both_true : (s t : Bool) → T s → T t → T (s && t)
both_true true t h k = k
both_true false t h k = h

-- and one that fails
pub not_first : (s t : Bool) → s ≡ false → T (not (s && t))
not_first s t e = subst (λ (b : Bool). T (not (b && t))) (sym e) tt

pub not_second : (s t : Bool) → t ≡ false → T (not (s && t))
not_second true t e = subst (λ (b : Bool). T (not b)) (sym e) tt
not_second false t e = tt

partial_le_is : (x y : Float) → partial_le float_partial_cmp x y ≡ le x y
unfolding le
partial_le_is x y = at (lt x y) (eq x y) (lt y x)
  where
    at : (p q r : Bool) → is_some_and not_greater (cond p (Some Less) (cond q (Some Equal) (cond r (Some Greater) None))) ≡ (p || q)
    at true q r = refl
    at false true r = refl
    at false false true = refl
    at false false false = refl

module _ (r : RangeInclusive Float) (v : Float) (t : Bool) (from : range_inclusive_start r ≡ of_bits binary64 0) (to : range_inclusive_end r ≡ most) (whole : range_inclusive_exhausted r ≡ false)
    (told : t ≡ range_inclusive_contains float_partial_cmp r v) where
  tested : t ≡ in_range v
  tested =
      told ∙ (λ i. partial_le_is (range_inclusive_start r) v i && cond (whole i) (partial_lt float_partial_cmp v (range_inclusive_end r)) (partial_le_is v (range_inclusive_end r) i))
      ∙ (λ i. le (from i) v && le v (to i))

  pub inside : t ≡ true → T (in_range v)
  inside e = passes (in_range v) (sym tested ∙ e)

  pub outside : t ≡ false → T (not (in_range v))
  outside e = fails (in_range v) (sym tested ∙ e)

pub in_range_root : (v : Float) (N k : ℕ) → T (fits binary64 v) → N ≡ to_unsigned 64 (ceil binary64 (mul binary64 v scale)) → T (in_range v)
    → (1 ≤ k) × (k ≤ 1024) → N ≤ k ^ 6 → ((j : ℕ) → j < k → 1 ≤ j → j ^ 6 < N) → SixthRoot v (mul binary64 (of_int binary64 (pos k)) (of_bits binary64 0x3fb0_0000_0000_0000))
in_range_root v N k F e t b o l = record {
  root = λ n c C w g.
      let r = needed v n c C F w g in
      (k, least_sixth n c N k (subst (Ceiling (n * 2 ^ 24) c) (sym (e ∙ r.1)) r.2) b o l, sixteenth k b.1);
  outside = λ u. absurd (T_not (in_range v) u t);
}

pub out_of_range_root : (v : Float) → T (not (in_range v)) → SixthRoot v (of_bits binary64 0x7ff8_0000_0000_0000)
out_of_range_root v t = record {
  root = λ n c C w g. let r = ranged_back v n c C w g in absurd (T_not (in_range v) t (both_true (le (of_bits binary64 0) v) (le v most) r.0 r.1));
  outside = λ _. no_number;
}

pub need_fits : (v : Float) (N : ℕ) → T (fits binary64 v) → N ≡ to_unsigned 64 (ceil binary64 (mul binary64 v scale)) → T (in_range v) → N ≤ 2 ^ 60
need_fits v N F e t =
    let o = ranged v (and_l (le (of_bits binary64 0) v) (le v most) t) (and_r (le (of_bits binary64 0) v) (le v most) t) in
    let r = needed v o.0 o.1 o.2 F o.3 o.4 in
    need_most o.0 o.1 N o.4 (subst (Ceiling (o.0 * 2 ^ 24) o.1) (sym (e ∙ r.1)) r.2)

-- ---- the function
-- r is the least number from 1 to b whose sixth power is at least N
abbrev Least : ℕ → ℕ → ℕ → Type 0
Least b N r = (1 ≤ r) × (r ≤ b) × (N ≤ r ^ 6) × ((j : ℕ) → j < r → 1 ≤ j → j ^ 6 < N)

first_step : (more k N : ℕ) → 1 ≤ k → ((j : ℕ) → j < k → 1 ≤ j → j ^ 6 < N) → (((j : ℕ) → j < suc k → 1 ≤ j → j ^ 6 < N) → Least (suc k + more) N (first_from more (suc k) N)) → Least (k + suc more) N (first_from (suc more) k N)
first_step more k N o l next = at (leb N (k ^ 6)) refl
  where
    before : k ^ 6 < N → (j : ℕ) → j < suc k → 1 ≤ j → j ^ 6 < N
    before below j h p = elim (order j k) [
      | inl g ↦ l j g p
      | inr q ↦ elim q [ inl e ↦ subst (λ (z : ℕ). z ^ 6 < N) (sym e) below | inr g ↦ absurd (omega arith) ]
    ]

    at : (t : Bool) → leb N (k ^ 6) ≡ t → Least (k + suc more) N (cond t k (first_from more (suc k) N))
    at true e = (o, omega arith, leb→le N (k ^ 6) (subst T (sym e) tt), l)
    at false e = let r = next (before (nleb→lt N (k ^ 6) (subst (λ (b : Bool). T (not b)) (sym e) tt))) in (r.0, omega (arith, r.1), r.2, r.3)

-- the first number from k on is the least one, where none before k does
first_least : (more k N : ℕ) → 1 ≤ k → N ≤ (k + more) ^ 6 → ((j : ℕ) → j < k → 1 ≤ j → j ^ 6 < N) → Least (k + more) N (first_from more k N)
first_least zero k N o h l = (o, omega arith, subst (λ (z : ℕ). N ≤ z ^ 6) (add-zero k) h, l)
first_least (suc more) k N o h l = first_step more k N o l (λ b. first_least more (suc k) N (omega arith) (subst (λ (z : ℕ). N ≤ z ^ 6) (omega arith) h) b)

least_once : (N j k : ℕ) → 1 ≤ j → 1 ≤ k → N ≤ j ^ 6 → N ≤ k ^ 6 → ((i : ℕ) → i < j → 1 ≤ i → i ^ 6 < N) → ((i : ℕ) → i < k → 1 ≤ i → i ^ 6 < N) → j ≡ k
least_once N j k oj ok hj hk lj lk = elim (order j k) [
  | inl g ↦ absurd (omega (arith, lk j g oj))
  | inr o ↦ elim o [ inl e ↦ e | inr g ↦ absurd (omega (arith, lj k g ok)) ]
]

pub in_range_defined : (v : Float) (N k : ℕ) → N ≡ need_of v → N ≤ 2 ^ 60 → T (in_range v) → (1 ≤ k) × (k ≤ 1024) → N ≤ k ^ 6 → ((j : ℕ) → j < k → 1 ≤ j → j ^ 6 < N)
    → mul binary64 (of_int binary64 (pos k)) sixteenth_float ≡ sixth_root_of v
unfolding sixth_root_of
in_range_defined v N k e m t b o l =
    let r = first_least 1023 1 N (omega arith) m (λ j h' o'. absurd (omega arith)) in
    let same : k ≡ first_from 1023 1 N = least_once N k (first_from 1023 1 N) b.0 r.0 o r.2 l r.3 in
    ap (λ (n : ℕ). mul binary64 (of_int binary64 (pos n)) sixteenth_float) (same ∙ ap (first_from 1023 1) e)
    ∙ sym (cond-true (in_range v) _ _ (is_true (in_range v) t))

pub out_of_range_defined : (v : Float) → T (not (in_range v)) → of_bits binary64 0x7ff8_0000_0000_0000 ≡ sixth_root_of v
unfolding sixth_root_of
out_of_range_defined v t = sym (cond-false (in_range v) _ _ (is_false (in_range v) t))
