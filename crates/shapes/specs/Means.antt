-- The rule of a triangle in terms of weighted means is the one that tests on which side of each edge a point lies. Assumes nothing.
use Rattle.std.specs.Prelude.{◌≡◌, ℕ, zero, suc, ◌+◌, ◌*◌, ◌<◌, ◌≤◌, Bool, true, false, cond, ◌&&◌, T, [], ◌∷◌, ℤ, pos, negsuc, ◌+ℤ◌, ◌-ℤ◌, ◌*ℤ◌, ◌≤ℤ◌, ◌<ℤ◌, int_le, int_lt, unsigned_abs, refl}
use Rattle.std.proofs.Common.{sym, ap, ◌∙◌, subst, mul-le-mul_left, arith}
use Rattle.std.specs.Int.Signed.{le_z_yes, lt_z_yes, clash_ℤ}
use Rattle.std.proofs.Math.Facts.{and_yes, yes_and}
use borrow.Author.Differences.{up, down}
use Rattle.std.specs.Int.{int_min, int_max}
use Rattle.std.proofs.lemmas.Int.{ints, clamps, by_lt_z}
use Rattle.floats.proofs.Compared.{eqZ}
use Rattle.floats.proofs.Ring.{Expr, num, ◌⊕◌, ◌⊖◌, ◌⊗◌, ◌⊜◌, ring}
use Rattle.plane.specs.Winding.{Gives}
use Rattle.shapes.specs.Corners.{twice_area, Mean, InOrOnEdge, Inside, RuleOfTriangle}

-- ---- the rule by sides
-- the side of the line from a to b on which the point (u, v) lies
abbrev pub turnZ : ℤ → ℤ → ℤ → ℤ → ℤ → ℤ → ℤ
turnZ ax ay bx by u v = (bx -ℤ ax) *ℤ (v -ℤ ay) -ℤ (by -ℤ ay) *ℤ (u -ℤ ax)

-- the point lies in the box round the corners
abbrev pub boxedZ : ℤ → ℤ → ℤ → ℤ → ℤ → ℤ → ℤ → ℤ → Bool
boxedZ ax ay bx by cx cy u v =
    int_le (int_min ax (int_min bx cx)) u && (int_le u (int_max ax (int_max bx cx)) && (int_le (int_min ay (int_min by cy)) v && int_le v (int_max ay (int_max by cy))))

-- the turn that all three sides agree on: 1 where none is below 0, -1 where each is, and 0 where they differ
abbrev pub agreedZ : ℤ → ℤ → ℤ → ℤ
agreedZ s t u =
    cond (int_le (pos 0) s && (int_le (pos 0) t && int_le (pos 0) u)) (pos 1) (cond (int_lt s (pos 0) && (int_lt t (pos 0) && int_lt u (pos 0))) (negsuc 0) (pos 0))

-- how a triangle winds round the point
abbrev pub windZ : ℤ → ℤ → ℤ → ℤ → ℤ → ℤ → ℤ → ℤ → ℤ
windZ ax ay bx by cx cy u v =
    cond (eqZ (twice_area ax ay bx by cx cy) (pos 0)) (pos 0)
    (cond (boxedZ ax ay bx by cx cy u v) (agreedZ (turnZ ax ay bx by u v) (turnZ bx by cx cy u v) (turnZ cx cy ax ay u v)) (pos 0))

-- ---- scaled by a natural number
scaled_le : (n : ℕ) {a b : ℤ} → a ≤ℤ b → (pos n *ℤ a) ≤ℤ (pos n *ℤ b)
scaled_le n {a} {b} h =
    let le : up a + down b ≤ up b + down a = omega (arith, ints) in
    omega (arith, ints, mul-le-mul_left n le)

scaled_lt : (n : ℕ) {a b : ℤ} → 0 < n → a <ℤ b → (pos n *ℤ a) <ℤ (pos n *ℤ b)
scaled_lt n {a} {b} n⁺ h =
    let lt : suc (up a + down b) ≤ up b + down a = omega (arith, ints) in
    omega (arith, ints, mul-le-mul_left n lt)

unscaled_le : (n : ℕ) {a b : ℤ} → 0 < n → (pos n *ℤ a) ≤ℤ (pos n *ℤ b) → a ≤ℤ b
unscaled_le n {a} {b} n⁺ h = by_lt_z b a (λ l. clash_ℤ (scaled_lt n n⁺ l) h) (λ l. l)

unscaled_lt : (n : ℕ) {a b : ℤ} → (pos n *ℤ a) <ℤ (pos n *ℤ b) → a <ℤ b
unscaled_lt n {a} {b} h = by_lt_z a b (λ l. l) (λ l. clash_ℤ h (scaled_le n l))

-- a number that is at most 0 does not grow where it is scaled by a number above 0
scaled_falls : (n : ℕ) {a : ℤ} → 0 < n → a ≤ℤ pos 0 → (pos n *ℤ a) ≤ℤ a
scaled_falls zero {a} n⁺ h = elim n⁺ [ ]
scaled_falls (suc n) {a} n⁺ h = omega (arith, ints, scaled_le n h)

-- ---- means: `Mean` as a record, which shows its numbers
record IsMean (i j k : ℕ) (a b c u : ℤ) : Type 0 where
  mean : Mean i j k a b c u

mean_of_one : {i j k : ℕ} (m : ℤ) → IsMean i j k m m m m
mean_of_one {i} {j} {k} m = record { mean = omega (arith, ints) }

-- the same mean, of the corners from the next one on
mean_round : {i j k : ℕ} {a b c u : ℤ} → IsMean i j k a b c u → IsMean j k i b c a u
mean_round {i} {j} {k} {a} {b} {c} {u} e = record { mean = omega (arith, ints) }

mean_difference : {i j k : ℕ} {a b c u x y z w : ℤ} → IsMean i j k a b c u → IsMean i j k x y z w → IsMean i j k (a -ℤ x) (b -ℤ y) (c -ℤ z) (u -ℤ w)
mean_difference {i} {j} {k} {a} {b} {c} {u} {x} {y} {z} {w} e f = record {
  mean =
      ring (pos i ∷ pos j ∷ pos k ∷ a ∷ b ∷ c ∷ x ∷ y ∷ z ∷ [])
      (λ i j k a b c x y z. i ⊗ (a ⊖ x) ⊕ j ⊗ (b ⊖ y) ⊕ k ⊗ (c ⊖ z) ⊜ i ⊗ a ⊕ j ⊗ b ⊕ k ⊗ c ⊖ (i ⊗ x ⊕ j ⊗ y ⊕ k ⊗ z)) tt
      ∙ (λ t. e.mean t -ℤ f.mean t)
      ∙ ring (pos (i + j + k) ∷ u ∷ w ∷ []) (λ n u w. n ⊗ u ⊖ n ⊗ w ⊜ n ⊗ (u ⊖ w)) tt;
}

mean_times : {i j k : ℕ} {a b c u : ℤ} (d : ℤ) → IsMean i j k a b c u → IsMean i j k (d *ℤ a) (d *ℤ b) (d *ℤ c) (d *ℤ u)
mean_times {i} {j} {k} {a} {b} {c} {u} d e = record {
  mean =
      ring (pos i ∷ pos j ∷ pos k ∷ d ∷ a ∷ b ∷ c ∷ []) (λ i j k d a b c. i ⊗ (d ⊗ a) ⊕ j ⊗ (d ⊗ b) ⊕ k ⊗ (d ⊗ c) ⊜ d ⊗ (i ⊗ a ⊕ j ⊗ b ⊕ k ⊗ c)) tt
      ∙ ap (λ (z : ℤ). d *ℤ z) e.mean
      ∙ ring (pos (i + j + k) ∷ d ∷ u ∷ []) (λ n d u. d ⊗ (n ⊗ u) ⊜ n ⊗ (d ⊗ u)) tt;
}

-- ---- a mean and the bounds of what it is the mean of
sum_le : {a b c x y z : ℤ} → a ≤ℤ x → b ≤ℤ y → c ≤ℤ z → (a +ℤ b +ℤ c) ≤ℤ (x +ℤ y +ℤ z)
sum_le {a} {b} {c} {x} {y} {z} p q r = omega (arith, ints)

sum_negative : {a b c : ℤ} → a <ℤ pos 0 → b <ℤ pos 0 → c <ℤ pos 0 → (a +ℤ b +ℤ c) <ℤ pos 0
sum_negative {a} {b} {c} p q r = omega (arith, ints)

mean_at_least : {i j k : ℕ} {a b c u m : ℤ} → 0 < i + j + k → IsMean i j k a b c u → m ≤ℤ a → m ≤ℤ b → m ≤ℤ c → m ≤ℤ u
mean_at_least {i} {j} {k} {a} {b} {c} {u} {m} n⁺ e p q r =
    let h = sum_le (scaled_le i p) (scaled_le j q) (scaled_le k r) in
    unscaled_le (i + j + k) n⁺ (rw ((mean_of_one {i = i} {j = j} {k = k} m).mean, e.mean) at h)

mean_at_most : {i j k : ℕ} {a b c u m : ℤ} → 0 < i + j + k → IsMean i j k a b c u → a ≤ℤ m → b ≤ℤ m → c ≤ℤ m → u ≤ℤ m
mean_at_most {i} {j} {k} {a} {b} {c} {u} {m} n⁺ e p q r =
    let h = sum_le (scaled_le i p) (scaled_le j q) (scaled_le k r) in
    unscaled_le (i + j + k) n⁺ (rw ((mean_of_one {i = i} {j = j} {k = k} m).mean, e.mean) at h)

mean_negative : {i j k : ℕ} {a b c u : ℤ} → 0 < i → 0 < j → 0 < k → IsMean i j k a b c u → a ≤ℤ pos 0 → b ≤ℤ pos 0 → c ≤ℤ pos 0 → (a +ℤ b +ℤ c) <ℤ pos 0 → u <ℤ pos 0
mean_negative {i} {j} {k} {a} {b} {c} {u} i⁺ j⁺ k⁺ e p q r s =
    let h = sum_le (scaled_falls i i⁺ p) (scaled_falls j j⁺ q) (scaled_falls k k⁺ r) in
    unscaled_lt (i + j + k) (below (rw e.mean at h) s)
  where
    below : {x y : ℤ} → x ≤ℤ y → y <ℤ pos 0 → x <ℤ pos ((i + j + k) * 0)
    below {x} {y} p q = omega (arith, ints)

-- ---- the sides of the edges
abbrev turn : Expr → Expr → Expr → Expr → Expr → Expr → Expr
turn ax ay bx by u v = (bx ⊖ ax) ⊗ (v ⊖ ay) ⊖ (by ⊖ ay) ⊗ (u ⊖ ax)

-- the start and the end of an edge lie on its line
turn_start : (ax ay bx by : ℤ) → turnZ ax ay bx by ax ay ≡ pos 0
turn_start ax ay bx by = ring (ax ∷ ay ∷ bx ∷ by ∷ []) (λ ax ay bx by. turn ax ay bx by ax ay ⊜ num (pos 0)) tt

turn_end : (ax ay bx by : ℤ) → turnZ ax ay bx by bx by ≡ pos 0
turn_end ax ay bx by = ring (ax ∷ ay ∷ bx ∷ by ∷ []) (λ ax ay bx by. turn ax ay bx by bx by ⊜ num (pos 0)) tt

-- twice the area is the same from each corner on, and the sum of the three sides
turn_round : (ax ay bx by cx cy : ℤ) → turnZ ax ay bx by cx cy ≡ turnZ bx by cx cy ax ay
turn_round ax ay bx by cx cy = ring (ax ∷ ay ∷ bx ∷ by ∷ cx ∷ cy ∷ []) (λ ax ay bx by cx cy. turn ax ay bx by cx cy ⊜ turn bx by cx cy ax ay) tt

area_from_turns : (ax ay bx by cx cy u v : ℤ) → twice_area ax ay bx by cx cy ≡ turnZ bx by cx cy u v +ℤ turnZ cx cy ax ay u v +ℤ turnZ ax ay bx by u v
area_from_turns ax ay bx by cx cy u v =
    ring (ax ∷ ay ∷ bx ∷ by ∷ cx ∷ cy ∷ u ∷ v ∷ []) (λ ax ay bx by cx cy u v. turn ax ay bx by cx cy ⊜ turn bx by cx cy u v ⊕ turn cx cy ax ay u v ⊕ turn ax ay bx by u v) tt

-- each corner weighted by the side of the edge across from it
balance_x : (ax ay bx by cx cy u v : ℤ) → turnZ bx by cx cy u v *ℤ ax +ℤ turnZ cx cy ax ay u v *ℤ bx +ℤ turnZ ax ay bx by u v *ℤ cx ≡ (turnZ bx by cx cy u v +ℤ turnZ cx cy ax ay u v +ℤ turnZ ax ay bx by u v) *ℤ u
balance_x ax ay bx by cx cy u v =
    ring (ax ∷ ay ∷ bx ∷ by ∷ cx ∷ cy ∷ u ∷ v ∷ [])
    (λ ax ay bx by cx cy u v. turn bx by cx cy u v ⊗ ax ⊕ turn cx cy ax ay u v ⊗ bx ⊕ turn ax ay bx by u v ⊗ cx ⊜ (turn bx by cx cy u v ⊕ turn cx cy ax ay u v ⊕ turn ax ay bx by u v) ⊗ u) tt

balance_y : (ax ay bx by cx cy u v : ℤ) → turnZ bx by cx cy u v *ℤ ay +ℤ turnZ cx cy ax ay u v *ℤ by +ℤ turnZ ax ay bx by u v *ℤ cy ≡ (turnZ bx by cx cy u v +ℤ turnZ cx cy ax ay u v +ℤ turnZ ax ay bx by u v) *ℤ v
balance_y ax ay bx by cx cy u v =
    ring (ax ∷ ay ∷ bx ∷ by ∷ cx ∷ cy ∷ u ∷ v ∷ [])
    (λ ax ay bx by cx cy u v. turn bx by cx cy u v ⊗ ay ⊕ turn cx cy ax ay u v ⊗ by ⊕ turn ax ay bx by u v ⊗ cy ⊜ (turn bx by cx cy u v ⊕ turn cx cy ax ay u v ⊕ turn ax ay bx by u v) ⊗ v) tt

-- ---- from a mean to the sides: the side of a mean is the mean of the sides
turn_of_mean : {i j k : ℕ} {ax ay bx by cx cy u v : ℤ} (px py qx qy : ℤ) → IsMean i j k ax bx cx u → IsMean i j k ay by cy v → IsMean i j k (turnZ px py qx qy ax ay) (turnZ px py qx qy bx by) (turnZ px py qx qy cx cy) (turnZ px py qx qy u v)
turn_of_mean px py qx qy e f =
    mean_difference (mean_times (qx -ℤ px) (mean_difference f (mean_of_one py))) (mean_times (qy -ℤ py) (mean_difference e (mean_of_one px)))

same_le : {a b : ℤ} → a ≡ b → a ≤ℤ b
same_le {a} {b} e = omega (arith, ints)

weak : {a b : ℤ} → a <ℤ b → a ≤ℤ b
weak {a} {b} h = omega (arith, ints)

side_of_mean : {i j k : ℕ} {ax ay bx by cx cy u v : ℤ} → 0 < i + j + k → IsMean i j k ax bx cx u → IsMean i j k ay by cy v → pos 0 ≤ℤ turnZ ax ay bx by cx cy → pos 0 ≤ℤ turnZ ax ay bx by u v
side_of_mean {ax = ax} {ay = ay} {bx = bx} {by = by} n⁺ e f h =
    mean_at_least n⁺ (turn_of_mean ax ay bx by e f) (same_le (sym (turn_start ax ay bx by))) (same_le (sym (turn_end ax ay bx by))) h

side_of_inside : {i j k : ℕ} {ax ay bx by cx cy u v : ℤ} → 0 < i → 0 < j → 0 < k → IsMean i j k ax bx cx u → IsMean i j k ay by cy v → turnZ ax ay bx by cx cy <ℤ pos 0 → turnZ ax ay bx by u v <ℤ pos 0
side_of_inside {ax = ax} {ay = ay} {bx = bx} {by = by} i⁺ j⁺ k⁺ e f h =
    mean_negative i⁺ j⁺ k⁺ (turn_of_mean ax ay bx by e f) (same_le (turn_start ax ay bx by)) (same_le (turn_end ax ay bx by)) (weak h)
    (only (turn_start ax ay bx by) (turn_end ax ay bx by) h)
  where
    only : {a b c : ℤ} → a ≡ pos 0 → b ≡ pos 0 → c <ℤ pos 0 → (a +ℤ b +ℤ c) <ℤ pos 0
    only {a} {b} {c} p q h = omega (arith, ints)

-- ---- a mean lies in the box
least : (a b c : ℤ) → (int_min a (int_min b c) ≤ℤ a) × (int_min a (int_min b c) ≤ℤ b) × (int_min a (int_min b c) ≤ℤ c)
least a b c = (omega (arith, ints, clamps), omega (arith, ints, clamps), omega (arith, ints, clamps))

greatest : (a b c : ℤ) → (a ≤ℤ int_max a (int_max b c)) × (b ≤ℤ int_max a (int_max b c)) × (c ≤ℤ int_max a (int_max b c))
greatest a b c = (omega (arith, ints, clamps), omega (arith, ints, clamps), omega (arith, ints, clamps))

boxed_low : {i j k : ℕ} {a b c u : ℤ} → 0 < i + j + k → IsMean i j k a b c u → int_min a (int_min b c) ≤ℤ u
boxed_low {a = a} {b = b} {c = c} n⁺ e = let m = least a b c in mean_at_least n⁺ e m.0 m.1 m.2

boxed_high : {i j k : ℕ} {a b c u : ℤ} → 0 < i + j + k → IsMean i j k a b c u → u ≤ℤ int_max a (int_max b c)
boxed_high {a = a} {b = b} {c = c} n⁺ e = let m = greatest a b c in mean_at_most n⁺ e m.0 m.1 m.2

boxed_mean : {i j k : ℕ} {ax ay bx by cx cy u v : ℤ} → 0 < i + j + k → IsMean i j k ax bx cx u → IsMean i j k ay by cy v → T (boxedZ ax ay bx by cx cy u v)
boxed_mean n⁺ e f = yes_and _ _ (boxed_low n⁺ e).le (yes_and _ _ (boxed_high n⁺ e).le (yes_and _ _ (boxed_low n⁺ f).le (boxed_high n⁺ f).le))

-- ---- from the sides to a mean: their sizes are the weights
weights : (s t r a b c u : ℤ) → pos 0 ≤ℤ s → pos 0 ≤ℤ t → pos 0 ≤ℤ r → s *ℤ a +ℤ t *ℤ b +ℤ r *ℤ c ≡ (s +ℤ t +ℤ r) *ℤ u → Mean (unsigned_abs s) (unsigned_abs t) (unsigned_abs r) a b c u
weights (pos i) (pos j) (pos k) a b c u p q h e = e
weights (pos i) (pos j) (negsuc k) a b c u p q h e = absurd h.le
weights (pos i) (negsuc j) r a b c u p q h e = absurd q.le
weights (negsuc i) t r a b c u p q h e = absurd p.le

weights_negative : (s t r a b c u : ℤ) → s <ℤ pos 0 → t <ℤ pos 0 → r <ℤ pos 0 → s *ℤ a +ℤ t *ℤ b +ℤ r *ℤ c ≡ (s +ℤ t +ℤ r) *ℤ u → Mean (unsigned_abs s) (unsigned_abs t) (unsigned_abs r) a b c u
weights_negative (negsuc i) (negsuc j) (negsuc k) a b c u p q h e = omega (arith, ints)
weights_negative (negsuc i) (negsuc j) (pos k) a b c u p q h e = absurd (omega (arith, ints))
weights_negative (negsuc i) (pos j) r a b c u p q h e = absurd (omega (arith, ints))
weights_negative (pos i) t r a b c u p q h e = absurd (omega (arith, ints))

size : {s : ℤ} → s <ℤ pos 0 → 0 < unsigned_abs s
size {s} h = omega (arith, ints)

sizes : (s t r : ℤ) → pos 0 <ℤ (s +ℤ t +ℤ r) → 0 < unsigned_abs s + unsigned_abs t + unsigned_abs r
sizes s t r h = omega (arith, ints)

-- ---- the answer of the rule, by its tests: no area, in the box, no side below 0, every side below 0
abbrev answer : Bool → Bool → Bool → Bool → ℤ
answer e b p q = cond e (pos 0) (cond b (cond p (pos 1) (cond q (negsuc 0) (pos 0))) (pos 0))

answer_one : (e b p q : Bool) → (T e → ⊥) → T b → T p → answer e b p q ≡ pos 1
answer_one true b p q n h k = absurd (n tt)
answer_one false false p q n h k = absurd h
answer_one false true false q n h k = absurd k
answer_one false true true q n h k = refl

answer_minus_one : (e b p q : Bool) → (T e → ⊥) → T b → (T p → ⊥) → T q → answer e b p q ≡ negsuc 0
answer_minus_one true b p q n h m k = absurd (n tt)
answer_minus_one false false p q n h m k = absurd h
answer_minus_one false true true q n h m k = absurd (m tt)
answer_minus_one false true false true n h m k = refl
answer_minus_one false true false false n h m k = absurd k

answer_zero : (e b p q : Bool) → (T p → ⊥) → (T q → ⊥) → answer e b p q ≡ pos 0
answer_zero true b p q m n = refl
answer_zero false false p q m n = refl
answer_zero false true true q m n = absurd (m tt)
answer_zero false true false true m n = absurd (n tt)
answer_zero false true false false m n = refl

answer_flat : (e b p q : Bool) → T e → answer e b p q ≡ pos 0
answer_flat true b p q h = refl
answer_flat false b p q h = absurd h

-- ---- the test of no area
level_out : (d : ℤ) → T (eqZ d (pos 0)) → d ≡ pos 0
level_out d h = let p = and_yes (int_le d (pos 0)) (int_le (pos 0) d) h in antisym (le_z_yes p.0) (le_z_yes p.1)
  where
    antisym : {a b : ℤ} → a ≤ℤ b → b ≤ℤ a → a ≡ b
    antisym {a} {b} p q = omega (arith, ints)

level_in : (d : ℤ) → d ≡ pos 0 → T (eqZ d (pos 0))
level_in d e = subst (λ (z : ℤ). T (eqZ z (pos 0))) (sym e) tt

above_not_level : (d : ℤ) → pos 0 <ℤ d → T (eqZ d (pos 0)) → ⊥
above_not_level d h t = let e = level_out d t in omega (arith, ints)

below_not_level : (d : ℤ) → d <ℤ pos 0 → T (eqZ d (pos 0)) → ⊥
below_not_level d h t = let e = level_out d t in omega (arith, ints)

-- ---- the rule
module _ (ax ay bx by cx cy u v : ℤ) where
  abbrev area : ℤ
  area = twice_area ax ay bx by cx cy

  abbrev side_ab : ℤ
  side_ab = turnZ ax ay bx by u v

  abbrev side_bc : ℤ
  side_bc = turnZ bx by cx cy u v

  abbrev side_ca : ℤ
  side_ca = turnZ cx cy ax ay u v

  abbrev flat : Bool
  flat = eqZ area (pos 0)

  abbrev boxed : Bool
  boxed = boxedZ ax ay bx by cx cy u v

  abbrev none_below : Bool
  none_below = int_le (pos 0) side_ab && (int_le (pos 0) side_bc && int_le (pos 0) side_ca)

  abbrev all_below : Bool
  all_below = int_lt side_ab (pos 0) && (int_lt side_bc (pos 0) && int_lt side_ca (pos 0))

  -- what the tests of the sides say
  none_below_out : T none_below → (pos 0 ≤ℤ side_ab) × (pos 0 ≤ℤ side_bc) × (pos 0 ≤ℤ side_ca)
  none_below_out h = let p = and_yes _ _ h in let q = and_yes _ _ p.1 in (le_z_yes p.0, le_z_yes q.0, le_z_yes q.1)

  all_below_out : T all_below → (side_ab <ℤ pos 0) × (side_bc <ℤ pos 0) × (side_ca <ℤ pos 0)
  all_below_out h = let p = and_yes _ _ h in let q = and_yes _ _ p.1 in (lt_z_yes p.0, lt_z_yes q.0, lt_z_yes q.1)

  none_below_area : T none_below → pos 0 ≤ℤ area
  none_below_area h = let s = none_below_out h in rw (area_from_turns ax ay bx by cx cy u v) (sum_le s.1 s.2 s.0)

  all_below_area : T all_below → area <ℤ pos 0
  all_below_area h = let s = all_below_out h in rw (area_from_turns ax ay bx by cx cy u v) (sum_negative s.1 s.2 s.0)

  -- and the means that they give
  none_below_mean : T none_below → pos 0 <ℤ area → InOrOnEdge ax ay bx by cx cy u v
  none_below_mean h d =
      let s = none_below_out h in
      let e = area_from_turns ax ay bx by cx cy u v in (
        unsigned_abs side_bc,
        unsigned_abs side_ca,
        unsigned_abs side_ab,
        sizes side_bc side_ca side_ab (rw e at d),
        weights side_bc side_ca side_ab ax bx cx u s.1 s.2 s.0 (balance_x ax ay bx by cx cy u v),
        weights side_bc side_ca side_ab ay by cy v s.1 s.2 s.0 (balance_y ax ay bx by cx cy u v),
      )

  all_below_inside : T all_below → Inside ax ay bx by cx cy u v
  all_below_inside h =
      let s = all_below_out h in (
        unsigned_abs side_bc,
        unsigned_abs side_ca,
        unsigned_abs side_ab,
        size s.1,
        size s.2,
        size s.0,
        weights_negative side_bc side_ca side_ab ax bx cx u s.1 s.2 s.0 (balance_x ax ay bx by cx cy u v),
        weights_negative side_bc side_ca side_ab ay by cy v s.1 s.2 s.0 (balance_y ax ay bx by cx cy u v),
      )

  -- the sides of a mean
  mean_none_below : {i j k : ℕ} → 0 < i + j + k → IsMean i j k ax bx cx u → IsMean i j k ay by cy v → pos 0 ≤ℤ area → T none_below
  mean_none_below {i} {j} {k} n⁺ e f h =
      let g = rw (turn_round ax ay bx by cx cy) at h in
      yes_and _ _ (side_of_mean n⁺ e f h).le
      (yes_and _ _ (side_of_mean (omega arith) (mean_round e) (mean_round f) g).le
      (side_of_mean (omega arith) (mean_round (mean_round e)) (mean_round (mean_round f)) (rw (turn_round bx by cx cy ax ay) at g)).le)

  inside_all_below : {i j k : ℕ} → 0 < i → 0 < j → 0 < k → IsMean i j k ax bx cx u → IsMean i j k ay by cy v → area <ℤ pos 0 → T all_below
  inside_all_below i⁺ j⁺ k⁺ e f h =
      let g = rw (turn_round ax ay bx by cx cy) at h in
      yes_and _ _ (side_of_inside i⁺ j⁺ k⁺ e f h).lt
      (yes_and _ _ (side_of_inside j⁺ k⁺ i⁺ (mean_round e) (mean_round f) g).lt
      (side_of_inside k⁺ i⁺ j⁺ (mean_round (mean_round e)) (mean_round (mean_round f)) (rw (turn_round bx by cx cy ax ay) at g)).lt)

  -- the rule for each sign of the area
  positive_area : pos 0 <ℤ area → Gives (InOrOnEdge ax ay bx by cx cy u v) (pos 1) (windZ ax ay bx by cx cy u v)
  positive_area d = record { inside = held; outside = λ n. answer_zero flat boxed none_below all_below (λ t. n (none_below_mean t d)) (λ t. clash_ℤ d (weak (all_below_area t))) }
    where
      held : InOrOnEdge ax ay bx by cx cy u v → windZ ax ay bx by cx cy u v ≡ pos 1
      held m =
          let e : IsMean m.0 m.1 m.2 ax bx cx u = record { mean = m.4 } in
          let f : IsMean m.0 m.1 m.2 ay by cy v = record { mean = m.5 } in
          answer_one flat boxed none_below all_below (above_not_level area d) (boxed_mean m.3 e f) (mean_none_below m.3 e f (weak d))

  negative_area : area <ℤ pos 0 → Gives (Inside ax ay bx by cx cy u v) (negsuc 0) (windZ ax ay bx by cx cy u v)
  negative_area d = record { inside = held; outside = λ n. answer_zero flat boxed none_below all_below (λ t. clash_ℤ d (none_below_area t)) (λ t. n (all_below_inside t)) }
    where
      held : Inside ax ay bx by cx cy u v → windZ ax ay bx by cx cy u v ≡ negsuc 0
      held m =
          let e : IsMean m.0 m.1 m.2 ax bx cx u = record { mean = m.6 } in
          let f : IsMean m.0 m.1 m.2 ay by cy v = record { mean = m.7 } in
          let n⁺ : 0 < m.0 + m.1 + m.2 = omega (arith, m.3) in
          answer_minus_one flat boxed none_below all_below (below_not_level area d) (boxed_mean n⁺ e f) (λ t. clash_ℤ d (none_below_area t)) (inside_all_below m.3 m.4 m.5 e f d)

  no_area : area ≡ pos 0 → windZ ax ay bx by cx cy u v ≡ pos 0
  no_area e = answer_flat flat boxed none_below all_below (level_in area e)

-- The rule by sides is the rule of a triangle.
pub whole_rule : (ax ay bx by cx cy u v : ℤ) → RuleOfTriangle ax ay bx by cx cy u v (windZ ax ay bx by cx cy u v)
whole_rule ax ay bx by cx cy u v = record {
  positive = positive_area ax ay bx by cx cy u v;
  negative = negative_area ax ay bx by cx cy u v;
  flat = no_area ax ay bx by cx cy u v;
}
