-- Rounding keeps the order, of numbers of either sign; and a float that its format holds is its own rounding. Assumes nothing.
use Rattle.std.proofs.Common.{◌≡◌, ℕ, zero, suc, ◌+◌, ◌-◌, ◌*◌, ◌%◌, ◌^◌, ◌<◌, ◌≤◌, Bool, true, false, cond, not, ◌&&◌, ◌||◌, T, eqb, ltb, leb, ℤ, pos, negsuc, neg_ℤ, ◌≤ℤ◌, sym, refl, ap, ◌∙◌, subst, inl, inr, true≢false, mul-le-mul_right, lt_of_mul-lt-mul_right, mul-lt-mul_of_pos_right, mul-pos, arith, eqb→eq, ltb→lt, leb→le, pow_pos, pow-add, lt-ltb}
use mathlib.Core.Bool.{false≢true}
use native.Mathlib.Nat.{pow-succ', eq_of_mul-eq-mul_right}
use lib.Signed.{le_z}
use lib.Pow.{pow-lt}
use lib.Ieee.{Float, nan, inf, fin, Format, prec, emax, low, up, down, odd, units, round, neg, le, fits, is_nan}
use lib.Ieee.Fits.{down_pos, and_l, and_r, round_is, round-fits}
use lib.Ieee.Exact.{HasValue, odd_sign, round_exact}
use lib.Ieee.Order.{round_mono}
use lib.Ieee.Scale.{round_same}
use Rattle.std.proofs.num.Values.{neg-round, round-zero, same_value}
use Rattle.std.proofs.lemmas.Int.{ints}
use Rattle.floats.specs.Value.{signed, Is, Rounds}
use Rattle.floats.proofs.Rounded.{is_neg, order}
use Rattle.floats.proofs.Compared.{is_le}

-- ---- any finite float, over a multiple of its own denominator
pub own : (s : Bool) (m : ℕ) (e : ℤ) (q : ℕ) → Is (fin s m e) (signed s (m * up e * q)) (down e * q)
own s m e q = (s, m * up e * q, (refl, omega arith), refl)

own_right : (s : Bool) (m : ℕ) (e : ℤ) (q : ℕ) → Is (fin s m e) (signed s (m * up e * q)) (q * down e)
own_right s m e q = (s, m * up e * q, (refl, omega arith), refl)

-- ---- the sign of what `round` makes
abbrev Signed : Bool → Float → Type 0
Signed s nan = ⊥
Signed s (inf t) = t ≡ s
Signed s (fin t m e) = t ≡ s

value_sign : (x : Float) (s : Bool) (a c : ℕ) → HasValue x s a c → Signed s x
value_sign nan s a c h = h
value_sign (inf t) s a c h = absurd h
value_sign (fin t m e) s a c h = h.0

round_sign : (f : Format) (s : Bool) (a c : ℕ) → Signed s (round f s a c)
unfolding units
round_sign f s a c = subst (Signed s) (sym (round_is f s a c)) (at _ _)
  where
    go : (b : Bool) (q k : ℕ) → Signed s (cond b (odd (suc (prec f)) s q k (low f)) (inf s))
    go true q k = value_sign _ s _ _ (odd_sign (suc (prec f)) s q k (low f))
    go false q k = refl

    at : (q k : ℕ) → Signed s (units f s q k)
    at q k = go (ltb (q * 2 ^ k) (2 ^ (low f + suc (emax f)))) q k

across : (x y : Float) → Signed true x → Signed false y → T (le x y)
unfolding le
across nan y p q = absurd p
across (inf false) y p q = absurd (false≢true p)
across (inf true) nan p q = absurd q
across (inf true) (inf true) p q = absurd (true≢false q)
across (inf true) (inf false) p q = tt
across (inf true) (fin t n d) p q = tt
across (fin false m e) y p q = absurd (false≢true p)
across (fin true m e) nan p q = absurd q
across (fin true m e) (inf true) p q = absurd (true≢false q)
across (fin true m e) (inf false) p q = tt
across (fin true m e) (fin true n d) p q = absurd (true≢false q)
across (fin true m e) (fin false n d) p q = go (m * up e * down d) (n * up d * down e)
  where
    go : (a b : ℕ) → T (ltb 0 (a + b) || (eqb a b && (false || eqb a 0)))
    go zero zero = tt
    go zero (suc b) = subst (λ (t : Bool). T (t || (eqb 0 (suc b) && (false || eqb 0 0)))) (sym (lt-ltb 0 (0 + suc b) (omega arith))) tt
    go (suc a) b = subst (λ (t : Bool). T (t || (eqb (suc a) b && (false || eqb (suc a) 0)))) (sym (lt-ltb 0 (suc a + b) (omega arith))) tt

-- ---- a negation turns the order round
pub neg_le : (x y : Float) → T (le x y) → T (le (neg y) (neg x))
neg_le nan y h = absurd (unfold le in h)
neg_le (inf s) nan h = absurd (unfold le in h)
neg_le (inf true) (inf true) h = unfold le neg in tt
neg_le (inf true) (inf false) h = unfold le neg in tt
neg_le (inf false) (inf true) h = absurd (unfold le in h)
neg_le (inf false) (inf false) h = unfold le neg in tt
neg_le (inf true) (fin t n d) h = unfold le neg in tt
neg_le (inf false) (fin t n d) h = absurd (unfold le in h)
neg_le (fin s m e) nan h = absurd (unfold le in h)
neg_le (fin s m e) (inf true) h = absurd (unfold le in h)
neg_le (fin s m e) (inf false) h = unfold le neg in tt
neg_le (fin s m e) (fin t n d) h =
    let c = down e * down d in
    let C : 0 < c = mul-pos (down_pos e) (down_pos d) in
    let k = signed s (m * up e * down d) in
    let l = signed t (n * up d * down e) in
    let x = own s m e (down d) in
    let y = own_right t n d (down e) in
    let g : T (le_z k l) = subst T (is_le (fin s m e) (fin t n d) k l c C x y) h in
    let r : T (le_z (neg_ℤ l) (neg_ℤ k)) = grind (arith, ints) in
    subst T (sym (is_le (neg (fin t n d)) (neg (fin s m e)) (neg_ℤ l) (neg_ℤ k) c C (is_neg (fin t n d) l c y) (is_neg (fin s m e) k c x))) r

-- ---- monotone
mono : (f : Format) (s t : Bool) (a b c : ℕ) → 0 < c → signed s a ≤ℤ signed t b → T (le (round f s a c) (round f t b c))
mono f false false a b c C h = round_mono f a c b c C C (mul-le-mul_right c (omega (arith, ints)))
mono f true true a b c C h =
    subst (λ (z : Float). T (le z (round f true b c))) (neg-round f a c)
    (subst (λ (z : Float). T (le (neg (round f false a c)) z)) (neg-round f b c)
    (neg_le (round f false b c) (round f false a c) (round_mono f b c a c C C (mul-le-mul_right c (omega (arith, ints))))))
mono f true false a b c C h = across (round f true a c) (round f false b c) (round_sign f true a c) (round_sign f false b c)
mono f false true a b c C h =
    let p : a ≡ 0 = omega (arith, ints) in
    let q : b ≡ 0 = omega (arith, ints) in
    subst (λ (z : Float). T (le z (round f true b c))) (sym (ap (λ (n : ℕ). round f false n c) p ∙ round-zero f false c C))
    (subst (λ (z : Float). T (le (fin false 0 (pos 0)) z)) (sym (ap (λ (n : ℕ). round f true n c) q ∙ round-zero f true c C)) (unfold le in tt))

pub rounds_mono : (f : Format) (x y : Float) (k l : ℤ) (c : ℕ) → 0 < c → Rounds f x k c → Rounds f y l c → k ≤ℤ l → T (le x y)
rounds_mono f x y k l c C p q h =
    subst (λ (z : Float). T (le z y)) (sym p.2)
    (subst (λ (z : Float). T (le (round f p.0 p.1 c) z)) (sym q.2)
    (mono f p.0 q.0 p.1 q.1 c C (subst (λ (z : ℤ). z ≤ℤ signed q.0 q.1) p.3 (subst (λ (z : ℤ). k ≤ℤ z) q.3 h))))

-- ---- a float that the format holds
-- its significand, its smallest place and its size
pub bounds : (f : Format) (s : Bool) (m : ℕ) (e : ℤ) → T (fits f (fin s (suc m) e)) → (suc m < 2 ^ prec f) × (down e ≤ 2 ^ low f) × (suc m * up e < 2 ^ suc (emax f) * down e)
unfolding fits
bounds f s m e t =
    let A = eqb (suc m % 2) 1 in
    let B = ltb (suc m) (2 ^ prec f) in
    let C = leb (down e) (2 ^ low f) in
    let D = ltb (suc m * up e) (2 ^ suc (emax f) * down e) in
    (ltb→lt _ _ (and_r A B (and_l (A && B) C (and_l (A && B && C) D t))), leb→le _ _ (and_r (A && B) C (and_l (A && B && C) D t)), ltb→lt _ _ (and_r (A && B && C) D t))

-- from the order of two powers that of their exponents
pub exponents : (a l : ℕ) → 2 ^ a ≤ 2 ^ l → a ≤ l
exponents a l h = elim (order a l) [
  | inl g ↦ omega arith
  | inr o ↦ elim o [ inl e ↦ omega arith | inr g ↦ absurd (omega (arith, pow-lt g)) ]
]

-- a place of the format is a power of two times its smallest
pub place : (l : ℕ) (e : ℤ) → down e ≤ 2 ^ l → (j : ℕ) × (up e * 2 ^ l ≡ 2 ^ j * down e)
place l (pos a) h = (a + l, omega (arith, pow-add 2 a l))
place l (negsuc a) h =
    let g : suc a ≤ l = exponents (suc a) l h in
    let e : l - suc a + suc a ≡ l = omega arith in
    (l - suc a, omega (arith, pow-add 2 (l - suc a) (suc a), ap (λ (z : ℕ). 2 ^ z) e))

pub rescale : (x : Float) (s : Bool) (a c b d : ℕ) → 0 < c → a * d ≡ b * c → HasValue x s a c → HasValue x s b d
rescale nan s a c b d C h v = v
rescale (inf t) s a c b d C h v = v
rescale (fin t m e) s a c b d C h v = (v.0, eq_of_mul-eq-mul_right c C (m * up e * d) (b * down e) (omega (arith, ap (λ (z : ℕ). z * d) v.1, ap (λ (z : ℕ). z * down e) h)))

-- a zero is written without an exponent
not_one : (k : ℕ) → 2 ^ suc k ≡ 1 → ⊥
not_one k h = omega (arith, pow-succ' 2 k, pow_pos k)

zero_place : (f : Format) (s : Bool) (e : ℤ) → T (fits f (fin s zero e)) → e ≡ pos 0
unfolding fits
zero_place f s (pos zero) t = refl
zero_place f s (pos (suc k)) t = absurd (not_one k (omega (arith, eqb→eq (2 ^ suc k * 1) 1 t)))
zero_place f s (negsuc k) t = absurd (not_one k (omega (arith, eqb→eq (1 * 2 ^ suc k) 1 t)))

itself : (f : Format) (s : Bool) (m : ℕ) (e : ℤ) → T (fits f (fin s m e)) → fin s m e ≡ round f s (m * up e) (down e)
itself f s zero e t =
    ap (fin s 0) (zero_place f s e t) ∙ sym (round-zero f s 1 (omega arith)) ∙ round_same f s 0 1 (0 * up e) (down e) (omega arith) (down_pos e) (omega arith)
itself f s (suc m) e t =
    let b = bounds f s m e t in
    let p = place (low f) e b.1 in
    let j = p.0 in
    let q = suc m in
    let eq : q * up e * 2 ^ low f ≡ q * 2 ^ j * down e = omega (arith, ap (λ (z : ℕ). q * z) p.1) in
    let fine : q * 2 ^ j < 2 ^ (low f + suc (emax f)) =
    lt_of_mul-lt-mul_right (down e) (omega (arith, mul-lt-mul_of_pos_right b.2 (pow_pos (low f)), ap (λ (z : ℕ). z * down e) (pow-add 2 (low f) (suc (emax f))))) in
    let v : HasValue (round f s (q * up e) (down e)) s (q * up e) (down e) = round_exact f s (q * up e) (down e) q j (down_pos e) b.0 fine eq in
    same_value f (fin s q e) (round f s (q * up e) (down e)) s (q * 2 ^ j) t (round-fits f s (q * up e) (down e))
    (refl, eq) (rescale (round f s (q * up e) (down e)) s (q * up e) (down e) (q * 2 ^ j) (2 ^ low f) (down_pos e) eq v)

pub rounds_self : (f : Format) (x : Float) (k : ℤ) (c : ℕ) → 0 < c → T (fits f x) → Is x k c → Rounds f x k c
rounds_self f nan k c C t v = absurd v.2
rounds_self f (inf s) k c C t v = absurd v.2
rounds_self f (fin s m e) k c C t v =
    (v.0, v.1, itself f s m e t ∙ ap (λ (u : Bool). round f u (m * up e) (down e)) v.2.0 ∙ round_same f v.0 (m * up e) (down e) v.1 c (down_pos e) C v.2.1, v.3)

-- ---- no NaN
pub round_number : (f : Format) (x : Float) (k : ℤ) (c : ℕ) → Rounds f x k c → T (not (is_nan x))
round_number f x k c r = number x r.0 (subst (Signed r.0) (sym r.2) (round_sign f r.0 r.1 c))
  where
    number : (y : Float) (s : Bool) → Signed s y → T (not (is_nan y))
    number nan s h = absurd h
    number (inf t) s h = unfold is_nan in tt
    number (fin t m e) s h = unfold is_nan in tt

pub le_inf : (x : Float) → T (not (is_nan x)) → T (le x (inf false))
le_inf nan h = absurd (unfold is_nan in h)
le_inf (inf true) h = unfold le in tt
le_inf (inf false) h = unfold le in tt
le_inf (fin s m e) h = unfold le in tt

pub inf_le : (x : Float) → T (not (is_nan x)) → T (le (inf true) x)
inf_le nan h = absurd (unfold is_nan in h)
inf_le (inf true) h = unfold le in tt
inf_le (inf false) h = unfold le in tt
inf_le (fin s m e) h = unfold le in tt
