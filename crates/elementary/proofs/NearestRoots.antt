-- A whole root to the nearest gives the nearest `f64`: between two neighbours of 53 binary digits stands no other. And only one `f64` is nearest. Assumes nothing.
use Rattle.std.proofs.Common.{◌≡◌, ℕ, suc, ◌+◌, ◌-◌, ◌*◌, ◌^◌, ◌<◌, ◌≤◌, false, T, sym, ap, ◌∙◌, subst, inl, inr, le_of_eq, le_of_suc-le-suc, mul-le-mul_right, mul_assoc, lt_of_mul-lt-mul_right, eq-or-lt_of_le, mul-lt-mul_of_pos_right, mul-pos, lt_of_not-le, arith, lt→ltb, pow_pos, pow-add}
use native.Mathlib.Nat.{pow-succ'}
use lib.Ieee.{Float, le}
use lib.Ieee.Order.{le_of_values}
use Rattle.std.specs.Float.Order.{lt_irrefl, lt_of_lt_of_le, lt_at}
use Rattle.std.proofs.lemmas.Nat.{mul-le}
use Rattle.floats.proofs.Rounded.{order}
use Rattle.elementary.specs.Roots.{Units, NearestRoot, RootLaws, NearestWhole}
use Rattle.elementary.proofs.UnitSizes.{value_same, units_digits, units_same}

-- ---- what stands above q * 2 ^ j, of 53 digits and zeros after them, stands a whole 2 ^ j above, where q has 53 digits
same_place : (a d q J : ℕ) → 0 < J → q * J < a * d * J → (q + 1) * J ≤ a * d * J
same_place a d q J p h =
    let l : q < a * d = lt_of_mul-lt-mul_right J h in
    mul-le-mul_right J (omega arith)

lower_place : (a q L d I : ℕ) → a < 2 * L → L ≤ q → 1 ≤ d → q * (2 * d * I) < a * I → ⊥
lower_place a q L d I A Q D h =
    let k : 2 * L * I ≤ 2 * q * I = mul-le-mul_right I (omega arith) in
    let l : a * I ≤ 2 * L * I = mul-le-mul_right I (omega arith) in
    let m : 2 * q * I * 1 ≤ 2 * q * I * d = mul-le (2 * q * I) 1 (2 * q * I) d (omega arith) D in
    omega arith

gap : (a i q j : ℕ) → a < 2 ^ 53 → 2 ^ 52 ≤ q → q * 2 ^ j < a * 2 ^ i → (q + 1) * 2 ^ j ≤ a * 2 ^ i
gap a i q j A Q h = elim (order i j) [ inl l ↦ absurd (lower l) | inr o ↦ elim o [ inl e ↦ upper (omega arith) | inr l ↦ upper (omega arith) ] ]
  where
    lower : i < j → ⊥
    lower l =
        let r : j ≡ suc (j - suc i) + i = omega arith in
        let e : 2 ^ j ≡ 2 * 2 ^ (j - suc i) * 2 ^ i = ap (λ (z : ℕ). 2 ^ z) r ∙ pow-add 2 (suc (j - suc i)) i ∙ ap (λ (z : ℕ). z * 2 ^ i) (pow-succ' 2 (j - suc i)) in
        lower_place a q (2 ^ 52) (2 ^ (j - suc i)) (2 ^ i) A Q (pow_pos (j - suc i)) (subst (λ (z : ℕ). q * z < a * 2 ^ i) e h)

    upper : j ≤ i → (q + 1) * 2 ^ j ≤ a * 2 ^ i
    upper l =
        let r : i ≡ i - j + j = omega arith in
        let e : a * 2 ^ i ≡ a * 2 ^ (i - j) * 2 ^ j = ap (λ (z : ℕ). a * 2 ^ z) r ∙ ap (λ (z : ℕ). a * z) (pow-add 2 (i - j) j) ∙ sym (mul_assoc a (2 ^ (i - j)) (2 ^ j)) in
        subst (λ (z : ℕ). (q + 1) * 2 ^ j ≤ z) (sym e) (same_place a (2 ^ (i - j)) q (2 ^ j) (pow_pos j) (subst (λ (z : ℕ). q * 2 ^ j < z) e h))

-- ---- squares on either side of the middles
module _ (q J D : ℕ) (pos : 0 < J) (near : NearestWhole D q) where
  over : (u : ℕ) → (q + 1) * J ≤ u → 4 * (D * (J * J)) < (q * J + u) * (q * J + u)
  over u h =
      let s : (2 * q + 1) * J * ((2 * q + 1) * J) ≤ (q * J + u) * (q * J + u) = mul-le ((2 * q + 1) * J) ((2 * q + 1) * J) (q * J + u) (q * J + u) (omega arith) (omega arith) in
      omega (arith, mul-le-mul_right (J * J) near.1, mul-pos pos pos)

  under : (p u : ℕ) → q ≡ p + 1 → u ≤ p * J → (q * J + u) * (q * J + u) < 4 * (D * (J * J))
  under p u e h =
      let k : q * J ≡ (p + 1) * J = ap (λ (z : ℕ). z * J) e in
      let s : (q * J + u) * (q * J + u) ≤ (2 * p + 1) * J * ((2 * p + 1) * J) = mul-le (q * J + u) (q * J + u) ((2 * p + 1) * J) ((2 * p + 1) * J) (omega arith) (omega arith) in
      let d : (p + 1) * (p + 1) < D + (p + 1) = subst (λ (z : ℕ). z * z < D + z) e near.0 in
      let m : p * p + p + 1 ≤ D = omega arith in
      omega (arith, mul-le-mul_right (J * J) m, mul-pos pos pos)

squared : (q D J : ℕ) → q * q ≤ D → q * J * (q * J) ≤ D * (J * J)
squared q D J h = omega (arith, mul-le-mul_right (J * J) h)

some_lead : (q : ℕ) → 2 ^ 52 ≤ q → 0 < q
some_lead q h = omega arith

-- where the root is at least w, every smaller number is below the middle
pub below_exact : (n w u : ℕ) → w * w ≤ n → u < w → (w + u) * (w + u) < 4 * n
below_exact n w u h l = omega (arith, mul-le (w + u + 1) (w + u + 1) (2 * w) (2 * w) (omega arith) (omega arith))

pub above_exact : (n w u : ℕ) → n ≤ w * w → w < u → 4 * n < (w + u) * (w + u)
above_exact n w u h l = omega (arith, mul-le (2 * w + 1) (2 * w + 1) (w + u) (w + u) (omega arith) (omega arith))

-- ---- the nearest float, from a nearest whole root q of D, where the root of x is that of D times 2 ^ j units
module _ (x r : Float) (v q j D : ℕ) (X : Units x v) (R : Units r (q * 2 ^ j)) (Q : 2 ^ 52 ≤ q) (near : NearestWhole D q)
    (large : 2 ^ 52 * 2 ^ 52 ≤ D) (square : v * 2 ^ 1074 ≡ D * (2 ^ j * 2 ^ j)) where
  beyond : (z : Float) (u : ℕ) → Units z u → q * 2 ^ j < u → 4 * (v * 2 ^ 1074) < (q * 2 ^ j + u) * (q * 2 ^ j + u)
  beyond z u Z h =
      let d = units_digits z u Z in
      let g : (q + 1) * 2 ^ j ≤ u = subst (λ (y : ℕ). (q + 1) * 2 ^ j ≤ y) (sym d.3) (gap d.0 d.1 q j d.2 Q (subst (λ (y : ℕ). q * 2 ^ j < y) d.3 h)) in
      subst (λ (y : ℕ). 4 * y < (q * 2 ^ j + u) * (q * 2 ^ j + u)) (sym square) (over q (2 ^ j) D (pow_pos j) near u g)

  least : (u : ℕ) → 2 ^ 52 ≡ q → u < q * 2 ^ j → (q * 2 ^ j + u) * (q * 2 ^ j + u) < 4 * (D * (2 ^ j * 2 ^ j))
  least u e h =
      let l : q * q ≤ D = subst (λ (y : ℕ). y * y ≤ D) e large in
      below_exact (D * (2 ^ j * 2 ^ j)) (q * 2 ^ j) u (squared q D (2 ^ j) l) h

  short : (z : Float) (u p : ℕ) → Units z u → 2 ^ 52 ≤ p → u < (p + 1) * 2 ^ j → u ≤ p * 2 ^ j
  short z u p Z P h =
      let d = units_digits z u Z in
      le_of_suc-le-suc (lt_of_not-le (λ (g : suc (p * 2 ^ j) ≤ u).
      let k : (p + 1) * 2 ^ j ≤ u = subst (λ (y : ℕ). (p + 1) * 2 ^ j ≤ y) (sym d.3) (gap d.0 d.1 p j d.2 P (subst (λ (y : ℕ). p * 2 ^ j < y) d.3 g)) in
      omega arith))

  beneath : (z : Float) (u : ℕ) → Units z u → u < q * 2 ^ j → (q * 2 ^ j + u) * (q * 2 ^ j + u) < 4 * (v * 2 ^ 1074)
  beneath z u Z h =
      subst (λ (y : ℕ). (q * 2 ^ j + u) * (q * 2 ^ j + u) < 4 * y) (sym square)
      (elim (eq-or-lt_of_le Q) [
        | inl e ↦ least u e h
        | inr l ↦
            let p = q - 1 in
            let e : q ≡ p + 1 = omega arith in
            under q (2 ^ j) D (pow_pos j) near p u e (short z u p Z (omega arith) (subst (λ (y : ℕ). u < y * 2 ^ j) e h))
      ])

  pub nearest_root : NearestRoot x r
  nearest_root = record { v = v; w = q * 2 ^ j; root_of = X; root_is = R; positive = mul-pos (some_lead q Q) (pow_pos j); above = beyond; below = beneath }

-- ---- an exact root
pub exact_root : (x r : Float) (v w : ℕ) → Units x v → Units r w → 0 < w → v * 2 ^ 1074 ≡ w * w → NearestRoot x r
exact_root x r v w X R W e = record {
  v = v;
  w = w;
  root_of = X;
  root_is = R;
  positive = W;
  above = λ z u Z h. above_exact (v * 2 ^ 1074) w u (le_of_eq e) h;
  below = λ z u Z h. below_exact (v * 2 ^ 1074) w u (le_of_eq (sym e)) h;
}

-- ---- one root
apart : (n w u : ℕ) → 4 * n < (w + u) * (w + u) → (u + w) * (u + w) < 4 * n → ⊥
apart n w u h k = omega arith

pub root_unique : (x r t : Float) → NearestRoot x r → NearestRoot x t → r ≡ t
root_unique x r t R S =
    let e : S.v ≡ R.v = value_same x false false S.v R.v (2 ^ 1074) S.root_of.1 R.root_of.1 in
    elim (order R.w S.w) [
      | inl l ↦ absurd (apart (R.v * 2 ^ 1074) R.w S.w (R.above t S.w S.root_is l)
          (subst (λ (y : ℕ). (S.w + R.w) * (S.w + R.w) < 4 * (y * 2 ^ 1074)) e (S.below r R.w R.root_is l)))
      | inr o ↦ elim o [
        | inl i ↦ units_same r t R.w R.root_is (subst (Units t) (sym i) S.root_is)
        | inr l ↦ absurd (apart (R.v * 2 ^ 1074) S.w R.w
            (subst (λ (y : ℕ). 4 * (y * 2 ^ 1074) < (S.w + R.w) * (S.w + R.w)) e (S.above r R.w R.root_is l)) (R.below t S.w S.root_is l))
      ]
    ]

-- ---- a larger number has no smaller root
least_first : (n k w u : ℕ) → (w + u) * (w + u) < 4 * n → 4 * k < (u + w) * (u + w) → n ≤ k → ⊥
least_first n k w u a b h = omega arith

pub root_mono : (x y r t : Float) (R : NearestRoot x r) (S : NearestRoot y t) → R.v ≤ S.v → R.w ≤ S.w
root_mono x y r t R S h =
    le_of_suc-le-suc (lt_of_not-le (λ (g : suc S.w ≤ R.w).
    least_first (R.v * 2 ^ 1074) (S.v * 2 ^ 1074) R.w S.w (R.below t S.w S.root_is g) (S.above r R.w R.root_is g) (mul-le-mul_right (2 ^ 1074) h)))

units_le : (x y : Float) (v u : ℕ) → Units x v → Units y u → T (le x y) → v ≤ u
units_le x y v u X Y h =
    le_of_suc-le-suc (lt_of_not-le (λ (g : suc u ≤ v).
    lt_irrefl y (lt_of_lt_of_le y x y
    (subst T (sym (lt_at y x u (2 ^ 1074) v (2 ^ 1074) (pow_pos 1074) (pow_pos 1074) Y.1 X.1)) (lt→ltb (u * 2 ^ 1074) (v * 2 ^ 1074) (mul-lt-mul_of_pos_right g (pow_pos 1074)))) h)))

pub laws : RootLaws
laws = record {
  unique = root_unique;
  exact = λ x r v w X R W e. exact_root x r v w X R W (sym e);
  ordered = λ x y r t R S h.
      le_of_values r t R.w (2 ^ 1074) S.w (2 ^ 1074) (pow_pos 1074) (pow_pos 1074) R.root_is.1 S.root_is.1
      (mul-le-mul_right (2 ^ 1074) (root_mono x y r t R S (units_le x y R.v S.v R.root_of S.root_of h)));
}
