-- A row of a turn with an offset keeps or turns round the order of the coordinate that it takes, for finite floats of any size. Assumes nothing.
use Rattle.std.specs.Prelude.{◌≡◌, ℕ, ◌*◌, ◌<◌, T, ◌⊎◌, ℤ, pos, negsuc, ◌*ℤ◌, ◌≤ℤ◌, refl, Float}
use Rattle.std.proofs.Common.{ap, subst, inl, inr, mul-pos, arith}
use Rattle.std.specs.Float.{nan, inf, fin, binary64}
use Rattle.std.specs.Float.Ieee.{add, mul, le, is_nan}
use Rattle.std.specs.Float.Ieee.Scale.{finite}
use Rattle.std.proofs.lemmas.Int.{ints}
use Rattle.floats.specs.Value.{Is, Val, Rounds}
use Rattle.floats.specs.Zeros.{Alike, IsZero}
use Rattle.floats.proofs.Alike.{zeros_agree, rounded_zero}
use Rattle.floats.proofs.Rounded.{rounds_mul}
use Rattle.floats.proofs.Monotone.{rounds_mono, round_number}
use Rattle.floats.proofs.Sums.{common, order_of, add_mono_all, add_number, add_comm}
use Rattle.plane.specs.Affines.{blend}
use Rattle.layers.specs.Turns.{Row, x⁺, x⁻, y⁺, y⁻, of_x, of_y}
use Rattle.layers.specs.Boxes.{Number}

-- ---- sums with a finite number
pub sum_number : (x e : Float) → Number x → T (finite e) → Number (add binary64 x e)
sum_number nan e X E = absurd (unfold is_nan in X)
sum_number (inf s) nan X E = absurd E
sum_number (inf s) (inf t) X E = absurd E
sum_number (inf s) (fin t n d) X E = unfold add is_nan in tt
sum_number (fin s m k) e X E = add_number binary64 (fin s m k) e tt E

pub sum_order : (x y e : Float) → T (le x y) → Number x → Number y → T (finite e) → T (le (add binary64 x e) (add binary64 y e))
sum_order x y e h X Y E = add_mono_all binary64 x y e h (sum_number x e X E) (sum_number y e Y E)

-- ---- products by 1, -1 and 0
product_rounds : (s x : Float) (σ k : ℤ) (c : ℕ) → 0 < c → Val s σ 0 → Is x k c → Rounds binary64 (mul binary64 s x) (σ *ℤ k) (1 * c)
product_rounds s x σ k c C S X = rounds_mul binary64 s x σ k 1 c (omega arith) C S X

pub product_number : (s x : Float) (σ : ℤ) → Val s σ 0 → T (finite x) → Number (mul binary64 s x)
product_number s x σ S X =
    let m = common x x x X X X in
    round_number binary64 (mul binary64 s x) (σ *ℤ m.k) (1 * m.c) (product_rounds s x σ m.k m.c m.above S m.first)

product_order : (s x y : Float) (σ : ℤ) → Val s σ 0 → T (finite x) → T (finite y) → ((k l : ℤ) → k ≤ℤ l → (σ *ℤ k) ≤ℤ (σ *ℤ l)) → T (le x y) → T (le (mul binary64 s x) (mul binary64 s y))
product_order s x y σ S X Y f h =
    let m = common x y y X Y Y in
    rounds_mono binary64 (mul binary64 s x) (mul binary64 s y) (σ *ℤ m.k) (σ *ℤ m.l) (1 * m.c) (mul-pos (omega arith) m.above)
    (product_rounds s x σ m.k m.c m.above S m.first) (product_rounds s y σ m.l m.c m.above S m.second)
    (f m.k m.l (order_of x y m.k m.l m.c m.above m.first m.second h))

product_turned : (s x y : Float) (σ : ℤ) → Val s σ 0 → T (finite x) → T (finite y) → ((k l : ℤ) → k ≤ℤ l → (σ *ℤ l) ≤ℤ (σ *ℤ k)) → T (le x y) → T (le (mul binary64 s y) (mul binary64 s x))
product_turned s x y σ S X Y f h =
    let m = common x y y X Y Y in
    rounds_mono binary64 (mul binary64 s y) (mul binary64 s x) (σ *ℤ m.l) (σ *ℤ m.k) (1 * m.c) (mul-pos (omega arith) m.above)
    (product_rounds s y σ m.l m.c m.above S m.second) (product_rounds s x σ m.k m.c m.above S m.first)
    (f m.k m.l (order_of x y m.k m.l m.c m.above m.first m.second h))

once : (k l : ℤ) → k ≤ℤ l → (pos 1 *ℤ k) ≤ℤ (pos 1 *ℤ l)
once k l h = omega (arith, ints)

turned_round : (k l : ℤ) → k ≤ℤ l → (negsuc 0 *ℤ l) ≤ℤ (negsuc 0 *ℤ k)
turned_round k l h = omega (arith, ints)

none : (k : ℤ) → pos 0 *ℤ k ≡ pos 0
none k = omega (arith, ints)

product_zero : (t y : Float) → Val t (pos 0) 0 → T (finite y) → IsZero (mul binary64 t y)
product_zero t y R Y =
    let m = common y y y Y Y Y in
    rounded_zero binary64 (mul binary64 t y) (1 * m.c) (mul-pos (omega arith) m.above)
    (subst (λ (z : ℤ). Rounds binary64 (mul binary64 t y) z (1 * m.c)) (none m.k) (product_rounds t y (pos 0) m.k m.c m.above R m.first))

zero_finite : (z : Float) → IsZero z → T (finite z)
zero_finite nan h = h
zero_finite (inf s) h = h
zero_finite (fin s m e) h = tt

-- ---- a row with its offset
abbrev pub carried : Float → Float → Float → Float → Float → Float
carried s x t y o = add binary64 (blend s x t y) o

-- one product is a zero, and the other is in order
in_order : (s x x' t y y' o : Float) → Number (mul binary64 s x) → Number (mul binary64 s x') → T (le (mul binary64 s x) (mul binary64 s x')) → IsZero (mul binary64 t y) → IsZero (mul binary64 t y') → T (finite o)
    → T (le (carried s x t y o) (carried s x' t y' o))
in_order s x x' t y y' o P P' h Z Z' O =
    let p = mul binary64 s x in
    let p' = mul binary64 s x' in
    let z = mul binary64 t y in
    let z' = mul binary64 t y' in
    let F = zero_finite z Z in
    let F' = zero_finite z' Z' in
    let alike : Alike (add binary64 p' z) (add binary64 p' z') = zeros_agree.of_add p' p' z z' (inl refl) (inr (Z, Z')) in
    let step : T (le (add binary64 p z) (add binary64 p' z')) = subst T (zeros_agree.of_le _ _ _ _ (inl refl) alike) (sum_order p p' z h P P' F) in
    sum_order (add binary64 p z) (add binary64 p' z') o step (sum_number p z P F) (sum_number p' z' P' F') O

-- the coordinates the other way round
exchanged : (s x t y o : Float) → carried t y s x o ≡ carried s x t y o
exchanged s x t y o = ap (λ (b : Float). add binary64 b o) (add_comm binary64 (mul binary64 t y) (mul binary64 s x))

-- v lies between a and d, whichever is the lesser
abbrev pub Between : Float → Float → Float → Type 0
Between a v d = (T (le a v) × T (le v d)) ⊎ (T (le d v) × T (le v a))

-- finite coordinates in order
pub record Ordered (x₀ x x₁ : Float) : Type 0 where
  pub first : T (finite x₀)
  pub middle : T (finite x)
  pub last : T (finite x₁)
  pub low : T (le x₀ x)
  pub high : T (le x x₁)

between_up : (s t o x₀ x x₁ y₀ y y₁ : Float) → Val s (pos 1) 0 → Val t (pos 0) 0 → T (finite o) → Ordered x₀ x x₁ → Ordered y₀ y y₁ → Between (carried s x₀ t y₀ o) (carried s x t y o) (carried s x₁ t y₁ o)
between_up s t o x₀ x x₁ y₀ y y₁ S R O X Y =
    inl (
      in_order s x₀ x t y₀ y o (product_number s x₀ (pos 1) S X.first) (product_number s x (pos 1) S X.middle) (product_order s x₀ x (pos 1) S X.first X.middle once X.low) (product_zero t y₀ R Y.first) (product_zero t y R Y.middle) O,
      in_order s x x₁ t y y₁ o (product_number s x (pos 1) S X.middle) (product_number s x₁ (pos 1) S X.last) (product_order s x x₁ (pos 1) S X.middle X.last once X.high) (product_zero t y R Y.middle) (product_zero t y₁ R Y.last) O,
    )

between_down : (s t o x₀ x x₁ y₀ y y₁ : Float) → Val s (negsuc 0) 0 → Val t (pos 0) 0 → T (finite o) → Ordered x₀ x x₁ → Ordered y₀ y y₁ → Between (carried s x₀ t y₀ o) (carried s x t y o) (carried s x₁ t y₁ o)
between_down s t o x₀ x x₁ y₀ y y₁ S R O X Y =
    inr (
      in_order s x₁ x t y₁ y o (product_number s x₁ (negsuc 0) S X.last) (product_number s x (negsuc 0) S X.middle) (product_turned s x x₁ (negsuc 0) S X.middle X.last turned_round X.high) (product_zero t y₁ R Y.last) (product_zero t y R Y.middle) O,
      in_order s x x₀ t y y₀ o (product_number s x (negsuc 0) S X.middle) (product_number s x₀ (negsuc 0) S X.first) (product_turned s x₀ x (negsuc 0) S X.first X.middle turned_round X.low) (product_zero t y R Y.middle) (product_zero t y₀ R Y.first) O,
    )

swapped : (s t o x₀ x x₁ y₀ y y₁ : Float) → Between (carried t y₀ s x₀ o) (carried t y s x o) (carried t y₁ s x₁ o) → Between (carried s x₀ t y₀ o) (carried s x t y o) (carried s x₁ t y₁ o)
swapped s t o x₀ x x₁ y₀ y y₁ = subst (λ (z : Float × Float × Float). Between z.0 z.1 z.2) (λ i. (exchanged s x₀ t y₀ o i, exchanged s x t y o i, exchanged s x₁ t y₁ o i))

pub between : (r : Row) (s t o x₀ x x₁ y₀ y y₁ : Float) → Val s (of_x r) 0 → Val t (of_y r) 0 → T (finite o) → Ordered x₀ x x₁ → Ordered y₀ y y₁ → Between (carried s x₀ t y₀ o) (carried s x t y o) (carried s x₁ t y₁ o)
between x⁺ s t o x₀ x x₁ y₀ y y₁ S R O X Y = between_up s t o x₀ x x₁ y₀ y y₁ S R O X Y
between x⁻ s t o x₀ x x₁ y₀ y y₁ S R O X Y = between_down s t o x₀ x x₁ y₀ y y₁ S R O X Y
between y⁺ s t o x₀ x x₁ y₀ y y₁ S R O X Y = swapped s t o x₀ x x₁ y₀ y y₁ (between_up t s o y₀ y y₁ x₀ x x₁ R S O Y X)
between y⁻ s t o x₀ x x₁ y₀ y y₁ S R O X Y = swapped s t o x₀ x x₁ y₀ y y₁ (between_down t s o y₀ y y₁ x₀ x x₁ R S O Y X)

pub carried_number : (r : Row) (s t o x y : Float) → Val s (of_x r) 0 → Val t (of_y r) 0 → T (finite o) → T (finite x) → T (finite y) → Number (carried s x t y o)
carried_number x⁺ s t o x y S R O X Y = sum_number _ o (sum_number _ _ (product_number s x (pos 1) S X) (zero_finite _ (product_zero t y R Y))) O
carried_number x⁻ s t o x y S R O X Y = sum_number _ o (sum_number _ _ (product_number s x (negsuc 0) S X) (zero_finite _ (product_zero t y R Y))) O
carried_number y⁺ s t o x y S R O X Y = subst Number (exchanged s x t y o) (sum_number _ o (sum_number _ _ (product_number t y (pos 1) R Y) (zero_finite _ (product_zero s x S X))) O)
carried_number y⁻ s t o x y S R O X Y = subst Number (exchanged s x t y o) (sum_number _ o (sum_number _ _ (product_number t y (negsuc 0) R Y) (zero_finite _ (product_zero s x S X))) O)
