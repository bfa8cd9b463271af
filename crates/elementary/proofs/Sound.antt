-- The laws of the angles: the count of quarter turns, finite answers, and the axes. Assumes nothing.
use Rattle.std.proofs.Common.{◌≡◌, ℕ, suc, ◌+◌, ◌^◌, ◌<◌, ◌≤◌, Bool, true, false, cond, T, eqb, ltb, leb, ℤ, pos, nat_abs, sym, refl, subst, arith}
use lib.IntN.{+ℤ_idr}
use lib.Ieee.{Float, fin, binary64, of_bits, add, mul, neg, lt, le, eq}
use lib.Ieee.Bits.{is_true}
use lib.Ieee.Scale.{finite}
use Rattle.std.proofs.lemmas.Bool.{cond-true}
use Rattle.std.specs.Float.{float_with_sign, round_ties_even}
use Rattle.floats.specs.Value.{Is, Val}
use Rattle.floats.proofs.Exactly.{val_add}
use Rattle.floats.proofs.Distances.{neg_finite}
use Rattle.elementary.specs.Angles.{one, half_pi, half_pi_rest, two_over_pi, quarters, left_over, folded, near_sine, near_cosine, turned, quarter, largest_angle, sin_cos}
use Rattle.elementary.specs.Laws.{Taken, NearestWhole, Angles}
use Rattle.elementary.proofs.Axes.{at_nought, right, above, left, below}
use Rattle.elementary.proofs.Quarters.{rounded, is_read}
use Rattle.elementary.proofs.Most.{Most, most_finite, most_more, most_mul, most_sub, most_div, most_tested}

-- ---- bounds of the constants
one_most : Most one 0
unfolding of_bits float_with_sign le lt eq
one_most = most_tested one 0 tt

half_pi_most : Most half_pi 1
unfolding of_bits float_with_sign le lt eq
half_pi_most = most_tested half_pi 1 tt

rest_most : Most half_pi_rest 0
unfolding of_bits float_with_sign le lt eq
rest_most = most_tested half_pi_rest 0 tt

two_over_pi_most : Most two_over_pi 0
unfolding of_bits float_with_sign le lt eq
two_over_pi_most = most_tested two_over_pi 0 tt

largest_is : largest_angle ≡ fin false 1 (pos 20)
unfolding of_bits
largest_is = refl

taken_most : (th : Float) → Taken th → Most th 20
taken_most th t = most_tested th 20 (subst (λ (z : Float). T (le (float_with_sign false th) z)) largest_is t)

-- ---- the series stays finite
folded_most : {q p : Float} {a b : ℕ} (d : ℕ) → T (ltb a 1024) → T (ltb 0 d) → T (ltb d (2 ^ 53)) → T (ltb (suc (a + b)) 1024) → T (ltb (a + b) 1024) → T (leb 0 (a + b)) → Most q a → Most p b → Most (folded q p d) (suc (a + b))
folded_most d A D E S R Z h g = most_sub S (most_more Z one_most) (most_mul R (most_div d A D E h) g)

near_sine_most : (r : Float) → Most r 23 → Most (near_sine r) 352
near_sine_most r h =
    let q = most_mul tt h h in
    most_mul tt h
    (folded_most 6 tt tt tt tt tt tt q (folded_most 20 tt tt tt tt tt tt q (folded_most 42 tt tt tt tt tt tt q (folded_most 72 tt tt tt tt tt tt q
    (folded_most 110 tt tt tt tt tt tt q (folded_most 156 tt tt tt tt tt tt q (folded_most 210 tt tt tt tt tt tt q one_most)))))))

near_cosine_most : (r : Float) → Most r 23 → Most (near_cosine r) 376
near_cosine_most r h =
    let q = most_mul tt h h in
    folded_most 2 tt tt tt tt tt tt q (folded_most 12 tt tt tt tt tt tt q (folded_most 30 tt tt tt tt tt tt q (folded_most 56 tt tt tt tt tt tt q (folded_most 90 tt tt tt tt tt tt q
    (folded_most 132 tt tt tt tt tt tt q (folded_most 182 tt tt tt tt tt tt q (folded_most 240 tt tt tt tt tt tt q one_most)))))))

left_over_most : (th k : Float) → Most th 20 → Most k 20 → Most (left_over th k) 23
left_over_most th k h g = most_sub tt (most_sub tt (most_more tt h) (most_mul tt g half_pi_most)) (most_more tt (most_mul tt g rest_most))

-- ---- the count of quarter turns
product_most : (th : Float) → Taken th → Most (mul binary64 th two_over_pi) 20
product_most th t = most_mul tt (taken_most th t) two_over_pi_most

zero_val : Val (of_bits binary64 0) (pos 0) 0
unfolding of_bits
zero_val = (false, 0, (refl, refl), refl)

-- a zero added to a whole number changes nothing but a zero's sign
unsigned : (x : Float) (k : ℤ) → nat_abs k ≤ 2 ^ 20 → Is x k 1 → Is (add binary64 x (of_bits binary64 0)) k 1
unsigned x k h v =
    subst (λ (z : ℤ). Is (add binary64 x (of_bits binary64 0)) z 1) (+ℤ_idr k)
    (val_add binary64 x (of_bits binary64 0) k (pos 0) 0 (omega arith) (subst (λ (z : ℤ). nat_abs z < 2 ^ 53) (sym (+ℤ_idr k)) (omega arith)) v zero_val)

nearest : (th : Float) (n : ℤ) (c : ℕ) → 0 < c → Taken th → Is (mul binary64 th two_over_pi) n c → NearestWhole th n c
nearest th n c C t v =
    let x = mul binary64 th two_over_pi in
    let r = rounded x n c C (product_most th t) v in
    let whole = unsigned (round_ties_even binary64 x) r.k r.small r.value in
    record { k = r.k; value = whole; fits_type = is_read (quarters th) r.k (omega (arith, r.small)) whole; near = r.near }

quarters_most : (th : Float) → Taken th → Most (quarters th) 20
quarters_most th t =
    let x = mul binary64 th two_over_pi in
    let u = (product_most th t).most in
    let r = rounded x u.0 u.1 u.2 (product_most th t) u.3 in
    record { most = (r.k, 1, omega arith, unsigned (round_ties_even binary64 x) r.k r.small r.value, omega (arith, r.small)) }

-- ---- finite answers
turned_finite : (n : ℕ) (s c : Float) → T (finite s) → T (finite c) → T (finite (turned n s c).0) × T (finite (turned n s c).1)
turned_finite n s c S C = of (eqb n 0) (eqb n 1) (eqb n 2)
  where
    by : Bool → Bool → Bool → Float × Float
    by u v w = cond u (s, c) (cond v (c, neg s) (cond w (neg s, neg c) (neg c, s)))

    of : (u v w : Bool) → T (finite (by u v w).0) × T (finite (by u v w).1)
    of true v w = (S, C)
    of false true w = (C, neg_finite s S)
    of false false true = (neg_finite s S, neg_finite c C)
    of false false false = (neg_finite c C, S)

taken_is : (th : Float) → Taken th → sin_cos th ≡ turned (quarter (quarters th)) (near_sine (left_over th (quarters th))) (near_cosine (left_over th (quarters th)))
unfolding sin_cos
taken_is th t = cond-true _ _ _ (is_true _ t)

finite_both : (th : Float) → Taken th → T (finite (sin_cos th).0) × T (finite (sin_cos th).1)
finite_both th t =
    let r = left_over_most th (quarters th) (taken_most th t) (quarters_most th t) in
    let P : Float × Float → Type 0 = λ z. T (finite z.0) × T (finite z.1) in
    subst P (sym (taken_is th t)) (turned_finite (quarter (quarters th)) _ _ (most_finite (near_sine_most _ r)) (most_finite (near_cosine_most _ r)))

pub angles : Angles
angles = record {
  nearest = nearest;
  finite_sine = λ th t. (finite_both th t).0;
  finite_cosine = λ th t. (finite_both th t).1;
  at_zero = at_nought;
  right = right;
  above = above;
  left = left;
  below = below;
}
