-- Moves in whole numbers: a move is a turn with an offset in units of 1/256, and products, points carried forward and points taken back are exact. Assumes nothing.
use Rattle.std.specs.Prelude.{◌≡◌, ℕ, ◌+◌, ◌*◌, ◌^◌, ◌≤◌, Bool, true, false, ◌&&◌, ◌||◌, T, ◌⊎◌, ℤ, pos, negsuc, ◌+ℤ◌, ◌*ℤ◌, nat_le, nat_lt, unsigned_abs, refl, Float}
use Rattle.std.proofs.Common.{sym, subst, inl, inr, le_refl, arith, leb→le, lit≤, pow_pos}
use Rattle.std.specs.Float.{binary64}
use Rattle.std.specs.Float.Ieee.{of_bits, mul, eq}
use Rattle.std.specs.Float.Ieee.Fits.{and_l, and_r, and_i}
use Rattle.floats.specs.Value.{In, Rounds}
use Rattle.floats.specs.Page.{on_grid, on_page}
use Rattle.floats.proofs.Rounded.{rounds_add}
use Rattle.floats.proofs.Compared.{eqZ}
use Rattle.floats.proofs.Bounded.{in_add, in_mul, in_neg, in_eq}
use Rattle.floats.proofs.Tested.{one_test, on_grid_only, on_grid_every, up_to_whole, equal_is}
use Rattle.plane.specs.declared.affine.Affine.{Affine}
use Rattle.plane.specs.Affines.{nought, one, blend}
use Rattle.layers.specs.Moves.{minus_one, turns_by, is_turn, unit, units_and_zeros, unmoved, grid_offset, page_offset, is_move}
use Rattle.layers.specs.Turns.{Turn, t₀, t₁, t₂, t₃, t₄, t₅, t₆, t₇, ta, tb, tc, td}

-- ---- the constants
pub one_in : In one (pos 1) 0 1
unfolding of_bits
one_in = record { val = (false, 1, (refl, refl), refl); size = lit≤ tt }

pub nought_in : In nought (pos 0) 0 1
unfolding of_bits
nought_in = record { val = (false, 0, (refl, refl), refl); size = lit≤ tt }

pub minus_in : In minus_one (negsuc 0) 0 1
minus_in = in_neg one_in

-- ---- turns
-- m turns by t
pub record Turned (m : Affine) (t : Turn) : Type 0 where
  pub a : In m.a (ta t) 0 1
  pub b : In m.b (tb t) 0 1
  pub c : In m.c (tc t) 0 1
  pub d : In m.d (td t) 0 1

equal_in : {y : Float} {k : ℤ} (x : Float) → In y k 0 1 → T (eq x y) → In x k 0 1
equal_in {y} {k} x v t = record { val = equal_is x y k 1 (omega arith) v.val t; size = v.size }

turned_by : {a b c d : Float} (m : Affine) (t : Turn) → In a (ta t) 0 1 → In b (tb t) 0 1 → In c (tc t) 0 1 → In d (td t) 0 1 → T (turns_by m a b c d) → Turned m t
turned_by {a} {b} {c} {d} m t A B C D h =
    let p = eq m.a a in
    let q = eq m.b b in
    let r = eq m.c c in
    let s = eq m.d d in
    let g = and_r p (q && (r && s)) h in
    let k = and_r q (r && s) g in
    record {
      a = equal_in m.a A (and_l p (q && (r && s)) h);
      b = equal_in m.b B (and_l q (r && s) g);
      c = equal_in m.c C (and_l r s k);
      d = equal_in m.d D (and_r r s k);
    }

either : {A : Type 0} (p q : Bool) → (T p → A) → (T q → A) → T (p || q) → A
either true q f g h = f tt
either false q f g h = g h

pub turn_of : (m : Affine) → T (is_turn m) → (t : Turn) × Turned m t
turn_of m =
    let p₀ = turns_by m one nought nought one in
    let p₁ = turns_by m nought one minus_one nought in
    let p₂ = turns_by m minus_one nought nought minus_one in
    let p₃ = turns_by m nought minus_one one nought in
    let p₄ = turns_by m one nought nought minus_one in
    let p₅ = turns_by m minus_one nought nought one in
    let p₆ = turns_by m nought one one nought in
    let p₇ = turns_by m nought minus_one minus_one nought in
    either p₀ (p₁ || (p₂ || (p₃ || (p₄ || (p₅ || (p₆ || p₇)))))) (λ h. (t₀, turned_by m t₀ one_in nought_in nought_in one_in h))
    (either p₁ (p₂ || (p₃ || (p₄ || (p₅ || (p₆ || p₇))))) (λ h. (t₁, turned_by m t₁ nought_in one_in minus_in nought_in h))
    (either p₂ (p₃ || (p₄ || (p₅ || (p₆ || p₇)))) (λ h. (t₂, turned_by m t₂ minus_in nought_in nought_in minus_in h))
    (either p₃ (p₄ || (p₅ || (p₆ || p₇))) (λ h. (t₃, turned_by m t₃ nought_in minus_in one_in nought_in h))
    (either p₄ (p₅ || (p₆ || p₇)) (λ h. (t₄, turned_by m t₄ one_in nought_in nought_in minus_in h))
    (either p₅ (p₆ || p₇) (λ h. (t₅, turned_by m t₅ minus_in nought_in nought_in one_in h))
    (either p₆ p₇ (λ h. (t₆, turned_by m t₆ nought_in one_in one_in nought_in h))
    (λ h. (t₇, turned_by m t₇ nought_in minus_in minus_in nought_in h))))))))

-- the test, by what each number equals
abbrev choice : Bool → Bool → Bool → Bool → Bool → Bool → Bool → Bool → Bool → Bool → Bool → Bool → Bool
choice a⁺ a⁰ a⁻ b⁺ b⁰ b⁻ c⁺ c⁰ c⁻ d⁺ d⁰ d⁻ =
    (a⁺ && (b⁰ && (c⁰ && d⁺)))
    || ((a⁰ && (b⁺ && (c⁻ && d⁰)))
    || ((a⁻ && (b⁰ && (c⁰ && d⁻)))
    || ((a⁰ && (b⁻ && (c⁺ && d⁰)))
    || ((a⁺ && (b⁰ && (c⁰ && d⁻)))
    || ((a⁻ && (b⁰ && (c⁰ && d⁺)))
    || ((a⁰ && (b⁺ && (c⁺ && d⁰)))
    || (a⁰ && (b⁻ && (c⁻ && d⁰)))))))))

abbrev of_turn : Turn → Bool
of_turn t =
    choice (eqZ (ta t) (pos 1)) (eqZ (ta t) (pos 0)) (eqZ (ta t) (negsuc 0)) (eqZ (tb t) (pos 1)) (eqZ (tb t) (pos 0)) (eqZ (tb t) (negsuc 0))
    (eqZ (tc t) (pos 1)) (eqZ (tc t) (pos 0)) (eqZ (tc t) (negsuc 0)) (eqZ (td t) (pos 1)) (eqZ (td t) (pos 0)) (eqZ (td t) (negsuc 0))

each_turn : (t : Turn) → T (of_turn t)
each_turn t₀ = tt
each_turn t₁ = tt
each_turn t₂ = tt
each_turn t₃ = tt
each_turn t₄ = tt
each_turn t₅ = tt
each_turn t₆ = tt
each_turn t₇ = tt

pub turned_tested : (m : Affine) (t : Turn) → Turned m t → T (is_turn m)
turned_tested m t v =
    let same : is_turn m ≡ of_turn t =
    λ i. choice (in_eq v.a one_in i) (in_eq v.a nought_in i) (in_eq v.a minus_in i) (in_eq v.b one_in i) (in_eq v.b nought_in i) (in_eq v.b minus_in i)
    (in_eq v.c one_in i) (in_eq v.c nought_in i) (in_eq v.c minus_in i) (in_eq v.d one_in i) (in_eq v.d nought_in i) (in_eq v.d minus_in i) in
    subst T (sym same) (each_turn t)

-- the test that the code makes
unit_of : (x : Float) → T (unit x) → In x (pos 1) 0 1 ⊎ In x (negsuc 0) 0 1
unit_of x = either (eq x one) (eq x minus_one) (λ h. inl (equal_in x one_in h)) (λ h. inr (equal_in x minus_in h))

record UnitsAndZeros (p q r s : Float) : Type 0 where
  first : In p (pos 1) 0 1 ⊎ In p (negsuc 0) 0 1
  second : In q (pos 1) 0 1 ⊎ In q (negsuc 0) 0 1
  third : In r (pos 0) 0 1
  fourth : In s (pos 0) 0 1

units_of : (p q r s : Float) → T (units_and_zeros p q r s) → UnitsAndZeros p q r s
units_of p q r s h =
    let A = unit p in
    let B = unit q in
    let C = eq r nought in
    let D = eq s nought in
    let g = and_r A (B && (C && D)) h in
    let k = and_r B (C && D) g in
    record {
      first = unit_of p (and_l A (B && (C && D)) h);
      second = unit_of q (and_l B (C && D) g);
      third = equal_in r nought_in (and_l C D k);
      fourth = equal_in s nought_in (and_r C D k);
    }

along_axes : (m : Affine) → UnitsAndZeros m.a m.d m.b m.c → T (is_turn m)
along_axes m v = go v.first v.second
  where
    go : In m.a (pos 1) 0 1 ⊎ In m.a (negsuc 0) 0 1 → In m.d (pos 1) 0 1 ⊎ In m.d (negsuc 0) 0 1 → T (is_turn m)
    go (inl a) (inl d) = turned_tested m t₀ (record { a = a; b = v.third; c = v.fourth; d = d })
    go (inl a) (inr d) = turned_tested m t₄ (record { a = a; b = v.third; c = v.fourth; d = d })
    go (inr a) (inl d) = turned_tested m t₅ (record { a = a; b = v.third; c = v.fourth; d = d })
    go (inr a) (inr d) = turned_tested m t₂ (record { a = a; b = v.third; c = v.fourth; d = d })

across_axes : (m : Affine) → UnitsAndZeros m.b m.c m.a m.d → T (is_turn m)
across_axes m v = go v.first v.second
  where
    go : In m.b (pos 1) 0 1 ⊎ In m.b (negsuc 0) 0 1 → In m.c (pos 1) 0 1 ⊎ In m.c (negsuc 0) 0 1 → T (is_turn m)
    go (inl b) (inl c) = turned_tested m t₆ (record { a = v.third; b = b; c = c; d = v.fourth })
    go (inl b) (inr c) = turned_tested m t₁ (record { a = v.third; b = b; c = c; d = v.fourth })
    go (inr b) (inl c) = turned_tested m t₃ (record { a = v.third; b = b; c = c; d = v.fourth })
    go (inr b) (inr c) = turned_tested m t₇ (record { a = v.third; b = b; c = c; d = v.fourth })

abbrev unitZ : ℤ → Bool
unitZ k = eqZ k (pos 1) || eqZ k (negsuc 0)

abbrev unitsZ : ℤ → ℤ → ℤ → ℤ → Bool
unitsZ p q r s = unitZ p && (unitZ q && (eqZ r (pos 0) && eqZ s (pos 0)))

units_whole : {p q r s : Float} {k l m n : ℤ} → In p k 0 1 → In q l 0 1 → In r m 0 1 → In s n 0 1 → units_and_zeros p q r s ≡ unitsZ k l m n
units_whole P Q R S = λ i. (in_eq P one_in i || in_eq P minus_in i) && ((in_eq Q one_in i || in_eq Q minus_in i) && (in_eq R nought_in i && in_eq S nought_in i))

each_tested : (t : Turn) → T (unitsZ (ta t) (td t) (tb t) (tc t) || unitsZ (tb t) (tc t) (ta t) (td t))
each_tested t₀ = tt
each_tested t₁ = tt
each_tested t₂ = tt
each_tested t₃ = tt
each_tested t₄ = tt
each_tested t₅ = tt
each_tested t₆ = tt
each_tested t₇ = tt

pub turn_test : (m : Affine) → units_and_zeros m.a m.d m.b m.c || units_and_zeros m.b m.c m.a m.d ≡ is_turn m
turn_test m =
    one_test (units_and_zeros m.a m.d m.b m.c || units_and_zeros m.b m.c m.a m.d) (is_turn m)
    (either (units_and_zeros m.a m.d m.b m.c) (units_and_zeros m.b m.c m.a m.d)
    (λ h. along_axes m (units_of m.a m.d m.b m.c h))
    (λ h. across_axes m (units_of m.b m.c m.a m.d h)))
    (λ h. let w = turn_of m h in let v = w.1 in subst T (λ i. sym (units_whole v.a v.d v.b v.c) i || sym (units_whole v.b v.c v.a v.d) i) (each_tested w.0))

-- ---- numbers in units, with a bound
-- the same number under another bound
pub resized : {x : Float} {k : ℤ} {i m : ℕ} (n : ℕ) → unsigned_abs k ≤ n → In x k i m → In x k i n
resized n h v = record { val = v.val; size = h }

-- one of 1, 0 and -1 times a number
pub unit_mul : {s x : Float} {σ k : ℤ} (i n : ℕ) → T (nat_le i 1074) → T (nat_lt n (2 ^ 53)) → In s σ 0 1 → In x k i n → In (mul binary64 s x) (σ *ℤ k) i n
unit_mul {s} {x} {σ} {k} i n I B v w =
    let P : ℕ → ℕ → Type 0 = λ j m. In (mul binary64 s x) (σ *ℤ k) j m in
    let e : 0 + i ≡ i = omega arith in
    let d : 1 * n ≡ n = omega arith in
    subst (λ (j : ℕ). P j n) e (subst (P (0 + i)) d (in_mul (subst (λ (j : ℕ). T (nat_le j 1074)) (sym e) I) (subst (λ (m : ℕ). T (nat_lt m (2 ^ 53))) (sym d) B) v w))

-- both products of a row, and their sum
pub blend_in : {s x t y : Float} {σ k τ l : ℤ} (i n : ℕ) → T (nat_le i 1074) → T (nat_lt n (2 ^ 53)) → T (nat_lt (n + n) (2 ^ 53)) → In s σ 0 1 → In x k i n → In t τ 0 1 → In y l i n
    → In (blend s x t y) (σ *ℤ k +ℤ τ *ℤ l) i (n + n)
blend_in i n I B D S X R Y = in_add I D (unit_mul i n I B S X) (unit_mul i n I B R Y)

pub blend_rounds : {s x t y : Float} {σ k τ l : ℤ} (i n : ℕ) → T (nat_le i 1074) → T (nat_lt n (2 ^ 53)) → In s σ 0 1 → In x k i n → In t τ 0 1 → In y l i n
    → Rounds binary64 (blend s x t y) (σ *ℤ k +ℤ τ *ℤ l) (2 ^ i)
blend_rounds i n I B S X R Y = rounds_add binary64 _ _ _ _ (2 ^ i) (pow_pos i) (unit_mul i n I B S X).val (unit_mul i n I B R Y).val

-- ---- moves
-- m turns by t, and its offset is k / 256 and l / 256, neither of them above n in size
pub record Whole (m : Affine) (t : Turn) (k l : ℤ) (n : ℕ) : Type 0 where
  pub turn : Turned m t
  pub e : In m.e k 8 n
  pub f : In m.f l 8 n

-- the end of the page
abbrev pub page : ℕ
page = 1048576

on_page_in : (x : Float) → T (on_grid x) → T (on_page x) → (k : ℤ) × In x k 8 page
on_page_in x g h =
    let G = on_grid_only x g in
    let k = G.0 in
    let v : In x k 8 (unsigned_abs k) = record { val = G.1; size = le_refl (unsigned_abs k) } in
    (k, record { val = G.1; size = leb→le (unsigned_abs k) page (subst T (up_to_whole 4096 (lit≤ tt) v) h) })

pub whole_of : (m : Affine) → T (is_move m) → (t : Turn) × (e f : ℤ) × Whole m t e f page
whole_of m h =
    let g = and_r (is_turn m) (grid_offset m && page_offset m) h in
    let G = and_l (grid_offset m) (page_offset m) g in
    let P = and_r (grid_offset m) (page_offset m) g in
    let t = turn_of m (and_l (is_turn m) (grid_offset m && page_offset m) h) in
    let E = on_page_in m.e (and_l (on_grid m.e) (on_grid m.f) G) (and_l (on_page m.e) (on_page m.f) P) in
    let F = on_page_in m.f (and_r (on_grid m.e) (on_grid m.f) G) (and_r (on_page m.e) (on_page m.f) P) in
    (t.0, E.0, F.0, record { turn = t.1; e = E.1; f = F.1 })

pub whole_turn : (m : Affine) (t : Turn) (e f : ℤ) (n : ℕ) → Whole m t e f n → T (is_turn m && grid_offset m)
whole_turn m t e f n v =
    and_i (is_turn m) (grid_offset m) (turned_tested m t v.turn) (and_i (on_grid m.e) (on_grid m.f) (on_grid_every m.e (e, v.e.val)) (on_grid_every m.f (f, v.f.val)))

-- what is a turn with an offset on the grid is a move just where the offset is on the page
pub move_of : (m : Affine) (t : Turn) (e f : ℤ) (n : ℕ) → Whole m t e f n → T (page_offset m) → T (is_move m)
move_of m t e f n v h =
    let w = whole_turn m t e f n v in
    and_i (is_turn m) (grid_offset m && page_offset m) (and_l (is_turn m) (grid_offset m) w) (and_i (grid_offset m) (page_offset m) (and_r (is_turn m) (grid_offset m) w) h)

-- ---- no turn and no offset
none_in : In nought (pos 0) 8 page
unfolding of_bits
none_in = record { val = (false, 0, (refl, refl), refl); size = lit≤ tt }

pub unmoved_whole : Whole unmoved t₀ (pos 0) (pos 0) page
unmoved_whole = record { turn = record { a = one_in; b = nought_in; c = nought_in; d = one_in }; e = none_in; f = none_in }

pub unmoved_move : T (is_move unmoved)
unmoved_move =
    let on : T (on_page nought) = subst T (sym (up_to_whole 4096 (lit≤ tt) none_in)) tt in
    move_of unmoved t₀ (pos 0) (pos 0) page unmoved_whole (and_i (on_page nought) (on_page nought) on on)
