-- No operation and no comparison sees the sign of a zero. Assumes nothing.
use Rattle.std.proofs.Common.{◌≡◌, ℕ, ◌*◌, ◌<◌, Bool, true, false, cond, ◌||◌, eqb, ◌⊎◌, ℤ, pos, ◌+ℤ◌, ◌*ℤ◌, nat_abs, sym, refl, ap, ◌∙◌, subst, inl, inr, true≢false, arith}
use mathlib.Core.Bool.{false≢true}
use lib.Ieee.{Float, nan, inf, fin, Format, binary64, up, down, round, add, sub, mul, neg, lt, le, eq, is_nan}
use Rattle.std.specs.Float.{float_with_sign, float_min, float_max}
use lib.Ieee.Fits.{down_pos}
use Rattle.std.proofs.num.Values.{round-zero}
use Rattle.std.proofs.lemmas.Int.{ints}
use Rattle.floats.specs.Value.{signed, Is, Rounds}
use Rattle.floats.proofs.Rounded.{rounds_add, rounds_mul, abs_signed}
use Rattle.floats.proofs.Compared.{is_lt, is_le, is_eq_test}
use Rattle.floats.specs.Zeros.{IsZero, Alike}
use Rattle.floats.specs.Laws.{ZerosAgree}

trans : (x y z : Float) → Alike x y → Alike y z → Alike x z
trans x y z (inl p) (inl q) = inl (p ∙ q)
trans x y z (inl p) (inr q) = inr (subst IsZero (sym p) q.0, q.1)
trans x y z (inr p) (inl q) = inr (p.0, subst IsZero q p.1)
trans x y z (inr p) (inr q) = inr (p.0, q.1)

-- ---- one exact value, rounded
same_signed : (s t : Bool) (a b : ℕ) → signed s a ≡ signed t b → ((s ≡ t) × (a ≡ b)) ⊎ ((a ≡ 0) × (b ≡ 0))
same_signed false false a b e = inl (refl, omega (arith, ints))
same_signed true true a b e = inl (refl, omega (arith, ints))
same_signed false true a b e = inr (omega (arith, ints), omega (arith, ints))
same_signed true false a b e = inr (omega (arith, ints), omega (arith, ints))

zero_rounded : (f : Format) (s : Bool) (a c : ℕ) (x : Float) → 0 < c → x ≡ round f s a c → a ≡ 0 → IsZero x
zero_rounded f s a c x C e z = subst IsZero (sym (e ∙ ap (λ (n : ℕ). round f s n c) z ∙ round-zero f s c C)) refl

-- what is rounded from 0 is a zero
pub rounded_zero : (f : Format) (x : Float) (c : ℕ) → 0 < c → Rounds f x (pos 0) c → IsZero x
rounded_zero f x c C v = zero_rounded f v.0 v.1 c x C v.2 (sym (ap nat_abs v.3 ∙ abs_signed v.0 v.1))

pub rounds_alike : (f : Format) (x y : Float) (k : ℤ) (c : ℕ) → 0 < c → Rounds f x k c → Rounds f y k c → Alike x y
rounds_alike f x y k c C p q = elim (same_signed p.0 q.0 p.1 q.1 (sym p.3 ∙ q.3)) [
  | inl g ↦ inl (p.2 ∙ (λ i. round f (g.0 i) (g.1 i) c) ∙ sym q.2)
  | inr g ↦ inr (zero_rounded f p.0 p.1 c x C p.2 g.0, zero_rounded f q.0 q.1 c y C q.2 g.1)
]

-- ---- a zero is 0 over any denominator
nil : (s : Bool) → pos 0 ≡ signed s 0
nil true = refl
nil false = refl

zero_is : (x : Float) (c : ℕ) → IsZero x → Is x (pos 0) c
zero_is nan c z = absurd z
zero_is (inf s) c z = absurd z
zero_is (fin s m e) c z = (s, 0, (refl, ap (λ (n : ℕ). n * up e * c) z ∙ omega arith), nil s)

own : (t : Bool) (n : ℕ) (d : ℤ) → Is (fin t n d) (signed t (n * up d)) (down d)
own t n d = (t, n * up d, (refl, refl), refl)

-- ---- the sum
add_left : (f : Format) (x x' y : Float) → IsZero x → IsZero x' → Alike (add f x y) (add f x' y)
unfolding add
add_left f nan x' y z w = absurd z
add_left f (inf s) x' y z w = absurd z
add_left f (fin s m e) nan y z w = absurd w
add_left f (fin s m e) (inf u) y z w = absurd w
add_left f (fin s m e) (fin u n d) nan z w = inl refl
add_left f (fin s m e) (fin u n d) (inf t) z w = inl refl
add_left f (fin s m e) (fin u n d) (fin t o g) z w =
    let x = fin s m e in let x' = fin u n d in let y = fin t o g in
    rounds_alike f (add f x y) (add f x' y) (pos 0 +ℤ signed t (o * up g)) (down g) (down_pos g)
    (rounds_add f x y (pos 0) (signed t (o * up g)) (down g) (down_pos g) (zero_is x (down g) z) (own t o g))
    (rounds_add f x' y (pos 0) (signed t (o * up g)) (down g) (down_pos g) (zero_is x' (down g) w) (own t o g))

add_right : (f : Format) (y x x' : Float) → IsZero x → IsZero x' → Alike (add f y x) (add f y x')
unfolding add
add_right f y nan x' z w = absurd z
add_right f y (inf s) x' z w = absurd z
add_right f y (fin s m e) nan z w = absurd w
add_right f y (fin s m e) (inf u) z w = absurd w
add_right f nan (fin s m e) (fin u n d) z w = inl refl
add_right f (inf t) (fin s m e) (fin u n d) z w = inl refl
add_right f (fin t o g) (fin s m e) (fin u n d) z w =
    let x = fin s m e in let x' = fin u n d in let y = fin t o g in
    rounds_alike f (add f y x) (add f y x') (signed t (o * up g) +ℤ pos 0) (down g) (down_pos g)
    (rounds_add f y x (signed t (o * up g)) (pos 0) (down g) (down_pos g) (own t o g) (zero_is x (down g) z))
    (rounds_add f y x' (signed t (o * up g)) (pos 0) (down g) (down_pos g) (own t o g) (zero_is x' (down g) w))

-- ---- the product: with an infinity it is a NaN
no_product : (a b : ℕ) (p q : Float) → a ≡ 0 → b ≡ 0 → Alike (cond (eqb a 0) nan p) (cond (eqb b 0) nan q)
no_product a b p q z w = inl (ap (λ (n : ℕ). cond (eqb n 0) nan p) z ∙ sym (ap (λ (n : ℕ). cond (eqb n 0) nan q) w))

mul_left : (f : Format) (x x' y : Float) → IsZero x → IsZero x' → Alike (mul f x y) (mul f x' y)
unfolding mul
mul_left f nan x' y z w = absurd z
mul_left f (inf s) x' y z w = absurd z
mul_left f (fin s m e) nan y z w = absurd w
mul_left f (fin s m e) (inf u) y z w = absurd w
mul_left f (fin s m e) (fin u n d) nan z w = inl refl
mul_left f (fin s m e) (fin u n d) (inf t) z w = no_product m n _ _ z w
mul_left f (fin s m e) (fin u n d) (fin t o g) z w =
    let x = fin s m e in let x' = fin u n d in let y = fin t o g in
    rounds_alike f (mul f x y) (mul f x' y) (pos 0 *ℤ signed t (o * up g)) (1 * down g) (omega (arith, down_pos g))
    (rounds_mul f x y (pos 0) (signed t (o * up g)) 1 (down g) (omega arith) (down_pos g) (zero_is x 1 z) (own t o g))
    (rounds_mul f x' y (pos 0) (signed t (o * up g)) 1 (down g) (omega arith) (down_pos g) (zero_is x' 1 w) (own t o g))

mul_right : (f : Format) (y x x' : Float) → IsZero x → IsZero x' → Alike (mul f y x) (mul f y x')
unfolding mul
mul_right f y nan x' z w = absurd z
mul_right f y (inf s) x' z w = absurd z
mul_right f y (fin s m e) nan z w = absurd w
mul_right f y (fin s m e) (inf u) z w = absurd w
mul_right f nan (fin s m e) (fin u n d) z w = inl refl
mul_right f (inf t) (fin s m e) (fin u n d) z w = no_product m n _ _ z w
mul_right f (fin t o g) (fin s m e) (fin u n d) z w =
    let x = fin s m e in let x' = fin u n d in let y = fin t o g in
    rounds_alike f (mul f y x) (mul f y x') (signed t (o * up g) *ℤ pos 0) (down g * 1) (omega (arith, down_pos g))
    (rounds_mul f y x (signed t (o * up g)) (pos 0) (down g) 1 (down_pos g) (omega arith) (own t o g) (zero_is x 1 z))
    (rounds_mul f y x' (signed t (o * up g)) (pos 0) (down g) 1 (down_pos g) (omega arith) (own t o g) (zero_is x' 1 w))

-- ---- the comparisons
lt_left : (x x' y : Float) → IsZero x → IsZero x' → lt x y ≡ lt x' y
unfolding lt
lt_left nan x' y z w = absurd z
lt_left (inf s) x' y z w = absurd z
lt_left (fin s m e) nan y z w = absurd w
lt_left (fin s m e) (inf u) y z w = absurd w
lt_left (fin s m e) (fin u n d) nan z w = refl
lt_left (fin s m e) (fin u n d) (inf t) z w = refl
lt_left (fin s m e) (fin u n d) (fin t o g) z w =
    is_lt (fin s m e) (fin t o g) (pos 0) (signed t (o * up g)) (down g) (down_pos g) (zero_is (fin s m e) (down g) z) (own t o g)
    ∙ sym (is_lt (fin u n d) (fin t o g) (pos 0) (signed t (o * up g)) (down g) (down_pos g) (zero_is (fin u n d) (down g) w) (own t o g))

lt_right : (y x x' : Float) → IsZero x → IsZero x' → lt y x ≡ lt y x'
unfolding lt
lt_right y nan x' z w = absurd z
lt_right y (inf s) x' z w = absurd z
lt_right y (fin s m e) nan z w = absurd w
lt_right y (fin s m e) (inf u) z w = absurd w
lt_right nan (fin s m e) (fin u n d) z w = refl
lt_right (inf t) (fin s m e) (fin u n d) z w = refl
lt_right (fin t o g) (fin s m e) (fin u n d) z w =
    is_lt (fin t o g) (fin s m e) (signed t (o * up g)) (pos 0) (down g) (down_pos g) (own t o g) (zero_is (fin s m e) (down g) z)
    ∙ sym (is_lt (fin t o g) (fin u n d) (signed t (o * up g)) (pos 0) (down g) (down_pos g) (own t o g) (zero_is (fin u n d) (down g) w))

le_left : (x x' y : Float) → IsZero x → IsZero x' → le x y ≡ le x' y
unfolding le
le_left nan x' y z w = absurd z
le_left (inf s) x' y z w = absurd z
le_left (fin s m e) nan y z w = absurd w
le_left (fin s m e) (inf u) y z w = absurd w
le_left (fin s m e) (fin u n d) nan z w = refl
le_left (fin s m e) (fin u n d) (inf t) z w = refl
le_left (fin s m e) (fin u n d) (fin t o g) z w =
    is_le (fin s m e) (fin t o g) (pos 0) (signed t (o * up g)) (down g) (down_pos g) (zero_is (fin s m e) (down g) z) (own t o g)
    ∙ sym (is_le (fin u n d) (fin t o g) (pos 0) (signed t (o * up g)) (down g) (down_pos g) (zero_is (fin u n d) (down g) w) (own t o g))

le_right : (y x x' : Float) → IsZero x → IsZero x' → le y x ≡ le y x'
unfolding le
le_right y nan x' z w = absurd z
le_right y (inf s) x' z w = absurd z
le_right y (fin s m e) nan z w = absurd w
le_right y (fin s m e) (inf u) z w = absurd w
le_right nan (fin s m e) (fin u n d) z w = refl
le_right (inf t) (fin s m e) (fin u n d) z w = refl
le_right (fin t o g) (fin s m e) (fin u n d) z w =
    is_le (fin t o g) (fin s m e) (signed t (o * up g)) (pos 0) (down g) (down_pos g) (own t o g) (zero_is (fin s m e) (down g) z)
    ∙ sym (is_le (fin t o g) (fin u n d) (signed t (o * up g)) (pos 0) (down g) (down_pos g) (own t o g) (zero_is (fin u n d) (down g) w))

-- ---- from one argument to both
both : (g : Float → Float → Float) → ((x x' y : Float) → IsZero x → IsZero x' → Alike (g x y) (g x' y)) → ((y x x' : Float) → IsZero x → IsZero x' → Alike (g y x) (g y x'))
    → (x x' y y' : Float) → Alike x x' → Alike y y' → Alike (g x y) (g x' y')
both g l r x x' y y' p q = trans (g x y) (g x' y) (g x' y') (one p) (two q)
  where
    one : Alike x x' → Alike (g x y) (g x' y)
    one (inl e) = inl (ap (λ (z : Float). g z y) e)
    one (inr z) = l x x' y z.0 z.1

    two : Alike y y' → Alike (g x' y) (g x' y')
    two (inl e) = inl (ap (g x') e)
    two (inr z) = r x' y y' z.0 z.1

tests : (g : Float → Float → Bool) → ((x x' y : Float) → IsZero x → IsZero x' → g x y ≡ g x' y) → ((y x x' : Float) → IsZero x → IsZero x' → g y x ≡ g y x')
    → (x x' y y' : Float) → Alike x x' → Alike y y' → g x y ≡ g x' y'
tests g l r x x' y y' p q = one p ∙ two q
  where
    one : Alike x x' → g x y ≡ g x' y
    one (inl e) = ap (λ (z : Float). g z y) e
    one (inr z) = l x x' y z.0 z.1

    two : Alike y y' → g x' y ≡ g x' y'
    two (inl e) = ap (g x') e
    two (inr z) = r x' y y' z.0 z.1

neg_zero : (x : Float) → IsZero x → IsZero (neg x)
unfolding neg
neg_zero nan z = z
neg_zero (inf s) z = z
neg_zero (fin s m e) z = z

neg_alike : (x x' : Float) → Alike x x' → Alike (neg x) (neg x')
neg_alike x x' (inl e) = inl (ap neg e)
neg_alike x x' (inr z) = inr (neg_zero x z.0, neg_zero x' z.1)

sub_alike : (f : Format) (x x' y y' : Float) → Alike x x' → Alike y y' → Alike (sub f x y) (sub f x' y')
unfolding sub
sub_alike f x x' y y' p q = both (add f) (add_left f) (add_right f) x x' (neg y) (neg y') p (neg_alike y y' q)

-- ---- equality
eq_left : (x x' y : Float) → IsZero x → IsZero x' → eq x y ≡ eq x' y
unfolding eq
eq_left nan x' y z w = absurd z
eq_left (inf s) x' y z w = absurd z
eq_left (fin s m e) nan y z w = absurd w
eq_left (fin s m e) (inf u) y z w = absurd w
eq_left (fin s m e) (fin u n d) nan z w = refl
eq_left (fin s m e) (fin u n d) (inf t) z w = refl
eq_left (fin s m e) (fin u n d) (fin t o g) z w =
    is_eq_test (fin s m e) (fin t o g) (pos 0) (signed t (o * up g)) (down g) (down_pos g) (zero_is (fin s m e) (down g) z) (own t o g)
    ∙ sym (is_eq_test (fin u n d) (fin t o g) (pos 0) (signed t (o * up g)) (down g) (down_pos g) (zero_is (fin u n d) (down g) w) (own t o g))

eq_right : (y x x' : Float) → IsZero x → IsZero x' → eq y x ≡ eq y x'
unfolding eq
eq_right y nan x' z w = absurd z
eq_right y (inf s) x' z w = absurd z
eq_right y (fin s m e) nan z w = absurd w
eq_right y (fin s m e) (inf u) z w = absurd w
eq_right nan (fin s m e) (fin u n d) z w = refl
eq_right (inf t) (fin s m e) (fin u n d) z w = refl
eq_right (fin t o g) (fin s m e) (fin u n d) z w =
    is_eq_test (fin t o g) (fin s m e) (signed t (o * up g)) (pos 0) (down g) (down_pos g) (own t o g) (zero_is (fin s m e) (down g) z)
    ∙ sym (is_eq_test (fin t o g) (fin u n d) (signed t (o * up g)) (pos 0) (down g) (down_pos g) (own t o g) (zero_is (fin u n d) (down g) w))

-- ---- the size, and the lesser and the greater of two
abs_zero : (x : Float) → IsZero x → IsZero (float_with_sign false x)
unfolding float_with_sign
abs_zero nan z = z
abs_zero (inf s) z = z
abs_zero (fin s m e) z = z

abs_alike : (x x' : Float) → Alike x x' → Alike (float_with_sign false x) (float_with_sign false x')
abs_alike x x' (inl e) = inl (ap (float_with_sign false) e)
abs_alike x x' (inr z) = inr (abs_zero x z.0, abs_zero x' z.1)

number_zero : (x : Float) → IsZero x → is_nan x ≡ false
unfolding is_nan
number_zero nan z = absurd z
number_zero (inf s) z = refl
number_zero (fin s m e) z = refl

pub nan_alike : (x x' : Float) → Alike x x' → is_nan x ≡ is_nan x'
nan_alike x x' (inl e) = ap is_nan e
nan_alike x x' (inr z) = number_zero x z.0 ∙ sym (number_zero x' z.1)

chosen : (t t' : Bool) (x x' y y' : Float) → t ≡ t' → Alike x x' → Alike y y' → Alike (cond t x y) (cond t' x' y')
chosen true true x x' y y' e p q = p
chosen true false x x' y y' e p q = absurd (true≢false e)
chosen false true x x' y y' e p q = absurd (false≢true e)
chosen false false x x' y y' e p q = q

pub le_alike : (x x' y y' : Float) → Alike x x' → Alike y y' → le x y ≡ le x' y'
le_alike = tests le le_left le_right

min_alike : (x x' y y' : Float) → Alike x x' → Alike y y' → Alike (float_min x y) (float_min x' y')
min_alike x x' y y' p q = chosen (le x y || is_nan y) (le x' y' || is_nan y') x x' y y' (λ i. le_alike x x' y y' p q i || nan_alike y y' q i) p q

max_alike : (x x' y y' : Float) → Alike x x' → Alike y y' → Alike (float_max x y) (float_max x' y')
max_alike x x' y y' p q = chosen (le y x || is_nan y) (le y' x' || is_nan y') x x' y y' (λ i. le_alike y y' x x' q p i || nan_alike y y' q i) p q

pub zeros_agree : ZerosAgree
zeros_agree = record {
  of_add = both (add binary64) (add_left binary64) (add_right binary64);
  of_sub = sub_alike binary64;
  of_mul = both (mul binary64) (mul_left binary64) (mul_right binary64);
  of_neg = neg_alike;
  of_abs = abs_alike;
  of_min = min_alike;
  of_max = max_alike;
  of_lt = tests lt lt_left lt_right;
  of_le = le_alike;
  of_eq = tests eq eq_left eq_right;
}
