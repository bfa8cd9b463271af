-- The bits of a root, put together from a nearest whole root and a halved exponent, are those of the nearest `f64`. Assumes nothing.
use Rattle.std.proofs.Common.{◌≡◌, ℕ, zero, suc, ◌+◌, ◌-◌, ◌*◌, ◌/◌, ◌%◌, ◌^◌, ◌<◌, ◌≤◌, false, not, T, ◌⊎◌, sym, refl, ap, ◌∙◌, subst, inl, inr, le_of_suc-le-suc, lt_of_le_of_lt, le_of_lt, mul-le-mul_right, lt_of_not-le, arith, lit<, pow_pos, pow_mono, pow-add}
use lib.Ieee.{Float, binary64, lt, fits, of_bits, to_bits, nan_bits}
use lib.Ieee.Exact.{HasValue}
use lib.Ieee.Bits.{of_bits-to_bits, of_bits-fits}
use Rattle.std.specs.Float.{float_zero as zeroF, float_is_finite, sqrt}
use Rattle.std.proofs.lemmas.Nat.{mul-le}
use Rattle.std.proofs.num.Patterns.{up_to_infinity}
use Rattle.elementary.specs.Roots.{Units, NearestRoot, NearestWhole}
use Rattle.floats.proofs.Monotone.{rescale}
use Rattle.elementary.proofs.UnitSizes.{value_same, units_of}
use Rattle.elementary.proofs.BitFields.{normal_value}
use Rattle.elementary.proofs.NearestRoots.{nearest_root}
use Rattle.elementary.proofs.RootDefined.{defined}

-- ---- an even exponent: the digits m, doubled where the exponent k is odd
parity : (k : ℕ) → (k % 2 ≡ 0) ⊎ (k % 2 ≡ 1)
parity k = go (k % 2) (omega arith)
  where
    too_large : (r : ℕ) → suc (suc r) < 2 → ⊥
    too_large r h = omega arith

    go : (r : ℕ) → r < 2 → (r ≡ 0) ⊎ (r ≡ 1)
    go zero h = inl refl
    go (suc zero) h = inr refl
    go (suc (suc r)) h = absurd (too_large r h)

evened : (m r : ℕ) → (r ≡ 0) ⊎ (r ≡ 1) → 2 ^ 52 ≤ m → m < 2 ^ 53 → (2 ^ 52 ≤ m * (1 + r)) × (m * (1 + r) + 2 ≤ 2 ^ 54)
evened m r (inl e) h l = let s : m * (1 + r) ≡ m * 1 = ap (λ (z : ℕ). m * (1 + z)) e in (omega arith, omega arith)
evened m r (inr e) h l = let s : m * (1 + r) ≡ m * 2 = ap (λ (z : ℕ). m * (1 + z)) e in (omega arith, omega arith)

pub even_digits : (m k : ℕ) → 2 ^ 52 ≤ m → m < 2 ^ 53 → (2 ^ 52 ≤ m * (1 + k % 2)) × (m * (1 + k % 2) + 2 ≤ 2 ^ 54)
even_digits m k = evened m (k % 2) (parity k)

-- ---- the whole root has 53 digits
root_digits : (d q : ℕ) → 2 ^ 52 ≤ d → d + 2 ≤ 2 ^ 54 → NearestWhole (d * 2 ^ 52) q → (2 ^ 52 ≤ q) × (q < 2 ^ 53)
root_digits d q h l n = (
  le_of_suc-le-suc (lt_of_not-le (λ (g : suc q ≤ 2 ^ 52). omega (arith, n.1, mul-le q (suc q) (2 ^ 52 - 1) (2 ^ 52) (omega arith) g))),
  lt_of_not-le (λ (g : 2 ^ 53 ≤ q). omega (arith, n.0, larger q g)),
)
  where
    expanded : (q p : ℕ) → q * (p + 1) ≡ q * p + q
    expanded q p = omega arith

    larger : (q : ℕ) → 2 ^ 53 ≤ q → 2 ^ 53 * (2 ^ 53 - 1) + q ≤ q * q
    larger q g =
        let p = q - 1 in
        let e : q ≡ p + 1 = omega arith in
        let k : q * q ≡ q * p + q = ap (λ (z : ℕ). q * z) e ∙ expanded q p in
        omega (arith, mul-le (2 ^ 53) (2 ^ 53 - 1) q p g (omega arith))

pub root_below : (m k q : ℕ) → 2 ^ 52 ≤ m → m < 2 ^ 53 → NearestWhole (m * (1 + k % 2) * 2 ^ 52) q → q < 2 ^ 53
root_below m k q a b n = let e = even_digits m k a b in (root_digits (m * (1 + k % 2)) q e.0 e.1 n).1

-- ---- the bits: h is the exponent to add
pub root_bits_le : (k h q : ℕ) → k < 2098 → h < 900 → q < 2 ^ 53 → (k / 2 + h) * 2 ^ 52 + q ≤ 0x7ff0_0000_0000_0000
root_bits_le k h q K H l = omega arith

pub root_bits : (k h q : ℕ) → k < 2098 → h < 900 → q < 2 ^ 53 → T (not (nan_bits binary64 ((k / 2 + h) * 2 ^ 52 + q)))
root_bits k h q K H l = up_to_infinity binary64 ((k / 2 + h) * 2 ^ 52 + q) (root_bits_le k h q K H l)

read_back : (j q : ℕ) → j < 2000 → 2 ^ 52 ≤ q → q < 2 ^ 53 → Units (of_bits binary64 (j * 2 ^ 52 + q)) (q * 2 ^ j)
read_back j q h l g =
    let b = j * 2 ^ 52 + q in
    let t = q - 2 ^ 52 in
    let e : 2 ^ 52 + t ≡ q = omega arith in
    (of_bits-fits binary64 b, subst (λ (z : ℕ). HasValue (of_bits binary64 b) false (z * 2 ^ j) (2 ^ 1074)) e (normal_value b j t (omega arith) (omega arith) (omega arith)))

-- ---- the squares agree
halves : (k r : ℕ) → (r ≡ 0) ⊎ (r ≡ 1) → k % 2 ≡ r → 2 ^ k ≡ (1 + r) * (2 ^ (k / 2) * 2 ^ (k / 2))
halves k r (inl e) f =
    let s : k ≡ k / 2 + k / 2 = omega arith in
    ap (λ (z : ℕ). 2 ^ z) s ∙ pow-add 2 (k / 2) (k / 2) ∙ plain (2 ^ (k / 2) * 2 ^ (k / 2)) ∙ ap (λ (z : ℕ). (1 + z) * (2 ^ (k / 2) * 2 ^ (k / 2))) (sym e)
  where
    plain : (n : ℕ) → n ≡ (1 + 0) * n
    plain n = omega arith
halves k r (inr e) f =
    let s : k ≡ 1 + (k / 2 + k / 2) = omega arith in
    ap (λ (z : ℕ). 2 ^ z) s ∙ pow-add 2 1 (k / 2 + k / 2) ∙ ap (λ (z : ℕ). 2 * z) (pow-add 2 (k / 2) (k / 2)) ∙ ap (λ (z : ℕ). (1 + z) * (2 ^ (k / 2) * 2 ^ (k / 2))) (sym e)

-- H is 2 ^ (k / 2), G is 2 ^ h, L is 2 ^ 52 and P is 2 ^ 1074
multiplied : (v m r K H G L P : ℕ) → K ≡ (1 + r) * (H * H) → m * K ≡ v * L → L * L * (G * G) ≡ P → v * P ≡ m * (1 + r) * L * (H * G * (H * G))
multiplied v m r K H G L P e f g = omega (arith, ap (λ (z : ℕ). v * z) g, ap (λ (z : ℕ). z * (L * (G * G))) f, ap (λ (z : ℕ). m * z * (L * (G * G))) e)

units_squared : (h : ℕ) → 52 + 52 + (h + h) ≡ 1074 → 2 ^ 52 * 2 ^ 52 * (2 ^ h * 2 ^ h) ≡ 2 ^ 1074
units_squared h e = ap (λ (z : ℕ). 2 ^ 52 * 2 ^ 52 * z) (sym (pow-add 2 h h)) ∙ sym (pow-add 2 104 (h + h)) ∙ ap (λ (z : ℕ). 2 ^ z) e

square : (v m k h : ℕ) → 52 + 52 + (h + h) ≡ 1074 → m * 2 ^ k ≡ v * 2 ^ 52 → v * 2 ^ 1074 ≡ m * (1 + k % 2) * 2 ^ 52 * (2 ^ (k / 2 + h) * 2 ^ (k / 2 + h))
square v m k h x e =
    multiplied v m (k % 2) (2 ^ k) (2 ^ (k / 2)) (2 ^ h) (2 ^ 52) (2 ^ 1074) (halves k (k % 2) (parity k) refl) e (units_squared h x)
    ∙ ap (λ (z : ℕ). m * (1 + k % 2) * 2 ^ 52 * (z * z)) (sym (pow-add 2 (k / 2) h))

-- ---- all together: the exponents 52, 52 and twice h make 1074
few : (q J L G : ℕ) → q < L → J ≤ G → q * J ≤ L * G
few q J L G h l = mul-le q J L G (le_of_lt h) l

module _ (x : Float) (m k q : ℕ) (f : T (fits binary64 x)) (p : T (lt zeroF x)) (t : T (float_is_finite x))
    (value : HasValue (of_bits binary64 (to_bits binary64 x)) false (m * 2 ^ k) (2 ^ 1126)) (a : 2 ^ 52 ≤ m) (b : m < 2 ^ 53) (K : k < 2098) (n : NearestWhole (m * (1 + k % 2) * 2 ^ 52) q) where
  both : (h : ℕ) → 52 + 52 + (h + h) ≡ 1074 → NearestRoot x (of_bits binary64 ((k / 2 + h) * 2 ^ 52 + q)) × (of_bits binary64 ((k / 2 + h) * 2 ^ 52 + q) ≡ sqrt binary64 x)
  both h sum =
      let u = units_of x f p t in
      let v = u.0 in
      let j = k / 2 + h in
      let r = of_bits binary64 (j * 2 ^ 52 + q) in
      let e = even_digits m k a b in
      let D = m * (1 + k % 2) * 2 ^ 52 in
      let g = root_digits (m * (1 + k % 2)) q e.0 e.1 n in
      let own : HasValue x false (m * 2 ^ k) (2 ^ 1126) = subst (λ (z : Float). HasValue z false (m * 2 ^ k) (2 ^ 1126)) (of_bits-to_bits binary64 x f) value in
      let scaled : HasValue x false (v * 2 ^ 52) (2 ^ 1126) = rescale x false v (2 ^ 1074) (v * 2 ^ 52) (2 ^ 1126) (pow_pos 1074) (moved v (2 ^ 52) (2 ^ 1074)) u.2.1 in
      let same : v * 2 ^ 1074 ≡ D * (2 ^ j * 2 ^ j) = square v m k h sum (value_same x false false (m * 2 ^ k) (v * 2 ^ 52) (2 ^ 1126) own scaled) in
      let large : 2 ^ 52 * 2 ^ 52 ≤ D = mul-le-mul_right (2 ^ 52) e.0 in
      let J : j < 2000 = omega arith in
      let read : Units r (q * 2 ^ j) = read_back j q J g.0 g.1 in
      let top : q * 2 ^ j < 2 ^ 2098 = lt_of_le_of_lt (few q (2 ^ j) (2 ^ 53) (2 ^ 2000) g.1 (pow_mono (le_of_lt J))) (lit< tt) in
      (nearest_root x r v q j D u.2 read g.0 n large same, defined x r v q j D p u.2 read g.0 g.1 top n large same)
    where
      moved : (v L P : ℕ) → v * (P * L) ≡ v * L * P
      moved v L P = omega arith

  pub assembled : (h : ℕ) → 52 + 52 + (h + h) ≡ 1074 → NearestRoot x (of_bits binary64 ((k / 2 + h) * 2 ^ 52 + q))
  assembled h sum = (both h sum).0

  pub assembled_defined : (h : ℕ) → 52 + 52 + (h + h) ≡ 1074 → of_bits binary64 ((k / 2 + h) * 2 ^ 52 + q) ≡ sqrt binary64 x
  assembled_defined h sum = (both h sum).1
