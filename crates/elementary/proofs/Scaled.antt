-- A float times a power of two is exact while it does not overflow, and a float rounded up to a whole number is the least whole number that is no smaller. Assumes nothing.
use Rattle.std.proofs.Common.{◌≡◌, ℕ, zero, suc, ◌+◌, ◌-◌, ◌*◌, ◌/◌, ◌^◌, ◌<◌, ◌≤◌, min, Bool, true, false, T, ℤ, pos, negsuc, sym, refl, ap, ◌∙◌, subst, inl, inr, true≢false, lt_of_le_of_lt, mul-le-mul_right, mul_assoc, lt_of_mul-lt-mul_right, mul-le-mul_left, mul-lt-mul_of_pos_right, mul-one, div-mul-le_self, le_of_mul-le-mul_right, div-one, arith, lit≤, pow_pos, pow_mono, pow-add}
use mathlib.Core.Bool.{false≢true}
use native.Mathlib.Nat.{lt-div-mul-add, mul-div_left, zero-div, div-eq_of_lt, eq_of_mul-eq-mul_right, pow-succ'}
use Rattle.std.proofs.lemmas.Int.{ints}
use Rattle.std.proofs.num.Values.{round-zero}
use lib.Pow.{pow-lt}
use lib.Ieee.{Float, nan, inf, fin, Format, binary64, prec, emax, low, up, down, round, mul, to_unsigned, fits}
use lib.Ieee.Fits.{down_pos}
use lib.Ieee.Exact.{HasValue, round_exact}
use Rattle.std.specs.Float.{ceil, ratio_ceil, ratio_floor, round_with}
use Rattle.floats.specs.Value.{signed, Is}
use Rattle.floats.proofs.Rounded.{order}
use Rattle.floats.proofs.Monotone.{bounds, place}

-- ---- times a power of two
-- a place in units of the smallest float, t places up
shifted : (m u d j t L : ℕ) → u * L ≡ 2 ^ j * d → m * u * (1 * 2 ^ t) * L ≡ m * 2 ^ (j + t) * (d * 1)
shifted m u d j t L h = omega (arith, ap (λ (z : ℕ). m * 2 ^ t * z) h, ap (λ (z : ℕ). m * d * z) (pow-add 2 j t))

-- it stays below what overflows
below_overflow : (m u d j t b L M : ℕ) → 0 < d → u * L ≡ 2 ^ j * d → m * u ≤ 2 ^ b * d → 2 ^ (b + t) < M → 0 < L → m * 2 ^ (j + t) < L * M
below_overflow m u d j t b L M D h k g P =
    let at_place : m * 2 ^ j ≤ 2 ^ b * L = le_of_mul-le-mul_right (omega (arith, ap (λ (z : ℕ). m * z) h, mul-le-mul_right L k)) D in
    let up_there : m * 2 ^ (j + t) ≤ L * 2 ^ (b + t) =
    omega (arith, mul-le-mul_right (2 ^ t) at_place, ap (λ (z : ℕ). m * z) (pow-add 2 j t), ap (λ (z : ℕ). L * z) (pow-add 2 b t)) in
    lt_of_le_of_lt up_there (omega (arith, mul-lt-mul_of_pos_right g P))

-- v × 2 ^ t, for a v of at most 2 ^ b
pub times_power : (f : Format) (m : ℕ) (e : ℤ) (t b : ℕ) → T (fits f (fin false (suc m) e)) → suc m * up e ≤ 2 ^ b * down e → b + t < suc (emax f)
    → HasValue (mul f (fin false (suc m) e) (fin false 1 (pos t))) false (suc m * up e * 2 ^ t) (down e)
unfolding mul
times_power f m e t b F h g =
    let r = bounds f false m e F in
    let p = place (low f) e r.1 in
    let v = round_exact f false (suc m * up e * (1 * 2 ^ t)) (down e * 1) (suc m) (p.0 + t) (omega (arith, down_pos e)) r.0
    (subst (λ (z : ℕ). suc m * 2 ^ (p.0 + t) < z) (sym (pow-add 2 (low f) (suc (emax f))))
    (below_overflow (suc m) (up e) (down e) p.0 t b (2 ^ low f) (2 ^ suc (emax f)) (down_pos e) p.1 h (pow-lt g) (pow_pos (low f))))
    (shifted (suc m) (up e) (down e) p.0 t (2 ^ low f) p.1) in
    subst (λ (z : ℕ). HasValue (round f false (suc m * up e * (1 * 2 ^ t)) (down e * 1)) false (suc m * up e * 2 ^ t) z) (omega arith)
    (subst (λ (z : ℕ). HasValue (round f false (suc m * up e * (1 * 2 ^ t)) (down e * 1)) false z (down e * 1)) (omega arith) v)

-- ---- rounded up to a whole number
-- N is the least whole number that is at least n / c
pub record Ceiling (n c N : ℕ) : Type 0 where
  pub enough : n ≤ N * c
  pub least : (j : ℕ) → j < N → j * c < n

raised_ceiling : (n d : ℕ) → 0 < d → Ceiling n d (ratio_ceil n d)
raised_ceiling n d D = record {
  enough = omega (arith, lt-div-mul-add {a = n + d - 1} D);
  least = λ j h. omega (arith, div-mul-le_self (n + d - 1) d, mul-le-mul_right d h);
}

-- of a fraction with the same value
ceiling_same : (n c a d N : ℕ) → 0 < c → 0 < d → a * c ≡ n * d → Ceiling a d N → Ceiling n c N
ceiling_same n c a d N C D e w = record {
  enough = le_of_mul-le-mul_right (omega (arith, mul-le-mul_right c w.enough)) D;
  least = λ j h. lt_of_mul-lt-mul_right d (omega (arith, mul-lt-mul_of_pos_right (w.least j h) C));
}

-- a whole number that a float holds, read back
read_back : (x : Float) (N : ℕ) → N < 2 ^ 64 → HasValue x false N 1 → to_unsigned 64 x ≡ N
unfolding to_unsigned
read_back nan N h v = absurd v
read_back (inf s) N h v = absurd v
read_back (fin true m e) N h v = absurd (true≢false v.0)
read_back (fin false m e) N h v =
    let q : m * up e / down e ≡ N = ap (λ (z : ℕ). z / down e) (omega (arith, v.1)) ∙ mul-div_left N (down_pos e) in
    ap (λ (z : ℕ). min z (2 ^ 64 - 1)) q ∙ omega arith

-- a number below A, times P, stays below P × M
chain : (N A M P : ℕ) → N < A → A ≤ M → 0 < P → N * P < P * M
chain N A M P h g p = omega (arith, mul-lt-mul_of_pos_right h p, mul-le-mul_left P g)

-- whole numbers of at most 53 digits, and zeros after them, are floats
pub whole_value : (f : Format) (s : Bool) (N q a b : ℕ) → q < 2 ^ prec f → N ≡ q * 2 ^ a → N < 2 ^ b → b ≤ suc (emax f) → HasValue (round f s N 1) s N 1
whole_value f s N q a b Q e h g =
    let placed : N * 2 ^ low f ≡ q * 2 ^ (a + low f) = ap (λ (z : ℕ). z * 2 ^ low f) e ∙ mul_assoc q (2 ^ a) (2 ^ low f) ∙ ap (λ (z : ℕ). q * z) (sym (pow-add 2 a (low f))) in
    round_exact f s N 1 q (a + low f) (omega arith) Q
    (subst (λ (z : ℕ). z < 2 ^ (low f + suc (emax f))) placed
    (subst (λ (z : ℕ). N * 2 ^ low f < z) (sym (pow-add 2 (low f) (suc (emax f)))) (chain N (2 ^ b) (2 ^ suc (emax f)) (2 ^ low f) h (pow_mono g) (pow_pos (low f)))))
    (placed ∙ sym (mul-one (q * 2 ^ (a + low f))))

-- the whole number above has no more digits
raised_small : (m d : ℕ) → 1 < d → m < 2 ^ 53 → ratio_ceil m d < 2 ^ 53
raised_small m d D h = elim (order (ratio_ceil m d) (2 ^ 53)) [
  | inl l ↦ l
  | inr o ↦
      let g : 2 ^ 53 ≤ ratio_ceil m d = elim o [ inl e ↦ omega arith | inr l ↦ omega arith ] in
      absurd (omega (arith, div-mul-le_self (m + d - 1) d, mul-le-mul_right d g))
]

raised_whole : (n : ℕ) → ratio_ceil n 1 ≡ n
raised_whole n = omega (arith, div-one (n + 1 - 1))

-- the ceiling of at most 2 ^ 60 is at most that
ceiling_most : (n c N : ℕ) → n ≤ 2 ^ 60 * c → Ceiling n c N → N < 2 ^ 64
ceiling_most n c N h w = elim (order N (2 ^ 60 + 1)) [
  | inl l ↦ omega arith
  | inr o ↦
      let g : 2 ^ 60 < N = elim o [ inl e ↦ omega arith | inr l ↦ omega arith ] in
      absurd (omega (arith, w.least (2 ^ 60) g))
]

-- what a value says of the parts of a float
pub parts : (m : ℕ) (e : ℤ) (n c : ℕ) → Is (fin false m e) (pos n) c → m * up e * c ≡ n * down e
parts m e n c v = at v.0 v.1 v.2 v.3
  where
    at : (s : Bool) (a : ℕ) → HasValue (fin false m e) s a c → pos n ≡ signed s a → m * up e * c ≡ n * down e
    at false a w k = let g : n ≡ a = omega (arith, ints) in w.1 ∙ ap (λ (z : ℕ). z * down e) (sym g)
    at true a w k = absurd (false≢true w.0)

pub no_parts : (m : ℕ) (e : ℤ) (n c : ℕ) → 0 < c → Is (fin true m e) (pos n) c → (n ≡ 0) × (m * up e ≡ 0)
no_parts m e n c C v = at v.0 v.1 v.2 v.3
  where
    at : (s : Bool) (a : ℕ) → HasValue (fin true m e) s a c → pos n ≡ signed s a → (n ≡ 0) × (m * up e ≡ 0)
    at false a w k = absurd (true≢false w.0)
    at true a w k =
        let z : a ≡ 0 = omega (arith, ints) in
        (omega (arith, ints), eq_of_mul-eq-mul_right c C (m * up e) 0 (w.1 ∙ ap (λ (y : ℕ). y * down e) z ∙ omega arith))

reads_zero : (s : Bool) (N : ℕ) → N ≡ 0 → to_unsigned 64 (round binary64 s N 1) ≡ 0
unfolding to_unsigned
reads_zero s N z = ap (λ (y : ℕ). to_unsigned 64 (round binary64 s y 1)) z ∙ ap (to_unsigned 64) (round-zero binary64 s 1 (omega arith)) ∙ of s
  where
    of : (t : Bool) → to_unsigned 64 (fin t 0 (pos 0)) ≡ 0
    of true = refl
    of false = refl

no_ceiling : (n c : ℕ) → n ≡ 0 → Ceiling n c 0
no_ceiling n c z = record { enough = omega arith; least = λ j h. absurd (omega arith) }

-- w rounded up, as a whole number
pub ceil_reads : (w : Float) (n c : ℕ) → 0 < c → T (fits binary64 w) → Is w (pos n) c → n ≤ 2 ^ 60 * c → (N : ℕ) × (to_unsigned 64 (ceil binary64 w) ≡ N) × Ceiling n c N
unfolding round_with
ceil_reads nan n c C F v h = absurd v.2
ceil_reads (inf s) n c C F v h = absurd v.2
ceil_reads (fin true m e) n c C F v h =
    let z = no_parts m e n c C v in
    (0, reads_zero true (ratio_floor (m * up e) (down e)) (ap (λ (y : ℕ). y / down e) z.1 ∙ zero-div (down e)), no_ceiling n c z.0)
ceil_reads (fin false zero e) n c C F v h =
    let z : n ≡ 0 = eq_of_mul-eq-mul_right (down e) (down_pos e) n 0 (sym (parts 0 e n c v) ∙ omega arith) in
    (0, reads_zero false (ratio_ceil (0 * up e) (down e)) (div-eq_of_lt (omega (arith, down_pos e))), no_ceiling n c z)
ceil_reads (fin false (suc m) (pos a)) n c C F v h =
    let N = ratio_ceil (suc m * 2 ^ a) 1 in
    let w = ceiling_same n c (suc m * 2 ^ a) 1 N C (omega arith) (parts (suc m) (pos a) n c v) (raised_ceiling (suc m * 2 ^ a) 1 (omega arith)) in
    let most = ceiling_most n c N h w in
    (N, read_back _ N most (whole_value binary64 false N (suc m) a 64 (bounds binary64 false m (pos a) F).0 (raised_whole (suc m * 2 ^ a)) most (lit≤ tt)), w)
ceil_reads (fin false (suc m) (negsuc a)) n c C F v h =
    let D = 2 ^ suc a in
    let N = ratio_ceil (suc m * 1) D in
    let w = ceiling_same n c (suc m * 1) D N C (pow_pos (suc a)) (parts (suc m) (negsuc a) n c v) (raised_ceiling (suc m * 1) D (pow_pos (suc a))) in
    let most = ceiling_most n c N h w in
    let one : 1 < D = omega (arith, pow-succ' 2 a, pow_pos a) in
    (N, read_back _ N most (whole_value binary64 false N N 0 64 (raised_small (suc m * 1) D one (omega (arith, (bounds binary64 false m (negsuc a) F).0))) (omega arith) most (lit≤ tt)), w)
