-- How far a point is from a float box: the test of a circle by squared distances accepts only points of its box. Assumes nothing.
use Rattle.std.proofs.Common.{◌≡◌, ℕ, ◌*◌, ◌<◌, ◌≤◌, true, false, not, T, ◌⊎◌, ℤ, pos, negsuc, ◌+ℤ◌, ◌-ℤ◌, ◌*ℤ◌, neg_ℤ, nat_abs, ◌≤ℤ◌, refl, ap, subst, inl, inr, mul-le-mul, mul-pos, arith}
use lib.IntN.{negsuc-*ℤ-negsuc}
use lib.Ieee.{Float, nan, inf, fin, Format, binary32, binary64, add, sub, mul, neg, lt, le, fits, is_nan}
use lib.Ieee.Fits.{mul-fits, neg-fits}
use lib.Ieee.Scale.{finite}
use Rattle.std.specs.Float.{float_zero}
use Rattle.std.specs.Float.Order.{lt_of_lt_of_le, lt_of_le_of_lt, lt_irrefl, le_trans, le_left, le_right}
use Rattle.std.proofs.lemmas.Int.{ints, by_lt_z}
use Rattle.floats.specs.Value.{Is}
use Rattle.floats.proofs.Rounded.{is_neg, rounds_add, rounds_sub, rounds_mul}
use Rattle.floats.proofs.Monotone.{rounds_mono, rounds_self, le_inf, round_number}
use Rattle.floats.proofs.Sums.{common, order_of, zero_of, add_comm, sub_number}

-- ---- what is left of fl(x - r), or right of fl(x + r), is r away from x
pub left_of : (f : Format) (x r p : Float) → T (finite x) → T (finite r) → T (finite p) → T (fits f r) → T (fits f p) → T (lt p (sub f x r)) → T (le (sub f p x) (neg r))
left_of f x r p a b d R P h =
    let m = common x r p a b d in
    let xr = rounds_sub f x r m.k m.l m.c m.above m.first m.second in
    let px = rounds_sub f p x m.w m.k m.c m.above m.third m.first in
    by_lt_z m.w (m.k -ℤ m.l)
    (λ o. rounds_mono f (sub f p x) (neg r) (m.w -ℤ m.k) (neg_ℤ m.l) m.c m.above px (rounds_self f (neg r) (neg_ℤ m.l) m.c m.above (neg-fits f r R) (is_neg r m.l m.c m.second)) (omega (arith, ints, o)))
    (λ o. absurd (lt_irrefl p (lt_of_lt_of_le p (sub f x r) p h (rounds_mono f (sub f x r) p (m.k -ℤ m.l) m.w m.c m.above xr (rounds_self f p m.w m.c m.above P m.third) o))))

pub right_of : (f : Format) (x r p : Float) → T (finite x) → T (finite r) → T (finite p) → T (fits f r) → T (fits f p) → T (lt (add f x r) p) → T (le r (sub f p x))
right_of f x r p a b d R P h =
    let m = common x r p a b d in
    let xr = rounds_add f x r m.k m.l m.c m.above m.first m.second in
    let px = rounds_sub f p x m.w m.k m.c m.above m.third m.first in
    by_lt_z (m.k +ℤ m.l) m.w
    (λ o. rounds_mono f r (sub f p x) m.l (m.w -ℤ m.k) m.c m.above (rounds_self f r m.l m.c m.above R m.second) px (omega (arith, ints, o)))
    (λ o. absurd (lt_irrefl p (lt_of_le_of_lt p (add f x r) p (rounds_mono f p (add f x r) m.w (m.k +ℤ m.l) m.c m.above (rounds_self f p m.w m.c m.above P m.third) xr o) h)))

-- ---- squares
square_mono : (q v : ℤ) → nat_abs q ≤ nat_abs v → (q *ℤ q) ≤ℤ (v *ℤ v)
square_mono (pos a) (pos b) h = omega (arith, ints, mul-le-mul h h)
square_mono (pos a) (negsuc b) h = omega (arith, ints, mul-le-mul h h, negsuc-*ℤ-negsuc b b)
square_mono (negsuc a) (pos b) h = omega (arith, ints, mul-le-mul h h, negsuc-*ℤ-negsuc a a)
square_mono (negsuc a) (negsuc b) h = omega (arith, ints, mul-le-mul h h, negsuc-*ℤ-negsuc a a, negsuc-*ℤ-negsuc b b)

-- the square of a float that is r at least in size
squares : (f : Format) (r d : Float) (q v : ℤ) (c : ℕ) → 0 < c → Is r q c → Is d v c → nat_abs q ≤ nat_abs v → T (le (mul f r r) (mul f d d))
squares f r d q v c C R D h = rounds_mono f (mul f r r) (mul f d d) (q *ℤ q) (v *ℤ v) (c * c) (mul-pos C C) (rounds_mul f r r q q c c C C R R) (rounds_mul f d d v v c c C C D D) (square_mono q v h)

at_infinity : (f : Format) (r : Float) → T (finite r) → T (le (mul f r r) (inf false))
at_infinity f r a = let m = common r r r a a a in le_inf (mul f r r) (round_number f (mul f r r) (m.k *ℤ m.k) (m.c * m.c) (rounds_mul f r r m.k m.k m.c m.c m.above m.above m.first m.first))

under_all : (x : Float) → T (finite x) → T (le x (inf true)) → ⊥
unfolding le
under_all nan p q = p
under_all (inf t) p q = p
under_all (fin t m e) p q = q

over_all : (x : Float) → T (finite x) → T (le (inf false) x) → ⊥
unfolding le
over_all nan p q = p
over_all (inf t) p q = p
over_all (fin t m e) p q = q

pub neg_finite : (x : Float) → T (finite x) → T (finite (neg x))
unfolding neg
neg_finite nan p = p
neg_finite (inf t) p = p
neg_finite (fin t m e) p = tt

pub square_right : (f : Format) (r d : Float) → T (finite r) → T (le float_zero r) → T (le r d) → T (le (mul f r r) (mul f d d))
unfolding is_nan
square_right f r nan a z h = absurd (le_right r nan h)
square_right f r (inf true) a z h = absurd (under_all r a h)
square_right f r (inf false) a z h = unfold mul in at_infinity f r a
square_right f r (fin t n g) a z h =
    let d = fin t n g in
    let m = common float_zero r d tt a tt in
    let o : m.l ≤ℤ m.w = order_of r d m.l m.w m.c m.above m.second m.third h in
    let p : m.k ≤ℤ m.l = order_of float_zero r m.k m.l m.c m.above m.first m.second z in
    squares f r d m.l m.w m.c m.above m.second m.third (omega (arith, ints, o, p, zero_of m.k m.c m.first))

pub square_left : (f : Format) (r d : Float) → T (finite r) → T (le float_zero r) → T (le d (neg r)) → T (le (mul f r r) (mul f d d))
unfolding is_nan
square_left f r nan a z h = absurd (le_left nan (neg r) h)
square_left f r (inf false) a z h = absurd (over_all (neg r) (neg_finite r a) h)
square_left f r (inf true) a z h = unfold mul in at_infinity f r a
square_left f r (fin t n g) a z h =
    let d = fin t n g in
    let m = common float_zero r d tt a tt in
    let o : m.w ≤ℤ neg_ℤ m.l = order_of d (neg r) m.w (neg_ℤ m.l) m.c m.above m.third (is_neg r m.l m.c m.second) h in
    let p : m.k ≤ℤ m.l = order_of float_zero r m.k m.l m.c m.above m.first m.second z in
    squares f r d m.l m.w m.c m.above m.second m.third (omega (arith, ints, o, p, zero_of m.k m.c m.first))

-- ---- a term that is not negative makes a sum no smaller
pub grows_right : (f : Format) (x y : Float) → T (fits f x) → T (le float_zero x) → T (le float_zero y) → T (le x (add f x y))
unfolding is_nan
grows_right f nan y F p q = absurd (le_right float_zero nan p)
grows_right f (inf true) y F p q = absurd (under_all float_zero tt p)
grows_right f (inf false) nan F p q = absurd (le_right float_zero nan q)
grows_right f (inf false) (inf true) F p q = absurd (under_all float_zero tt q)
grows_right f (inf false) (inf false) F p q = unfold add le in tt
grows_right f (inf false) (fin t n d) F p q = unfold add le in tt
grows_right f (fin s m e) nan F p q = absurd (le_right float_zero nan q)
grows_right f (fin s m e) (inf true) F p q = absurd (under_all float_zero tt q)
grows_right f (fin s m e) (inf false) F p q = unfold add in le_inf (fin s m e) tt
grows_right f (fin s m e) (fin t n d) F p q =
    let x = fin s m e in
    let y = fin t n d in
    let o = common x y float_zero tt tt tt in
    let g : o.w ≤ℤ o.l = order_of float_zero y o.w o.l o.c o.above o.third o.second q in
    rounds_mono f x (add f x y) o.k (o.k +ℤ o.l) o.c o.above (rounds_self f x o.k o.c o.above F o.first) (rounds_add f x y o.k o.l o.c o.above o.first o.second) (omega (arith, ints, g, zero_of o.w o.c o.third))

pub grows_left : (f : Format) (x y : Float) → T (fits f y) → T (le float_zero x) → T (le float_zero y) → T (le y (add f x y))
grows_left f x y F p q = subst (λ (z : Float). T (le y z)) (add_comm f y x) (grows_right f y x F q p)

pub square_above : (f : Format) (d : Float) → T (not (is_nan d)) → T (le float_zero (mul f d d))
unfolding is_nan
square_above f nan h = absurd h
square_above f (inf true) h = unfold mul le in tt
square_above f (inf false) h = unfold mul le in tt
square_above f (fin s m e) h =
    let d = fin s m e in
    let o = common float_zero d d tt tt tt in
    subst (λ (z : Float). T (le z (mul f d d))) (nothing f)
    (squares f float_zero d o.k o.l o.c o.above o.first o.second (omega (arith, ap nat_abs (zero_of o.k o.c o.first))))
  where
    nothing : (g : Format) → mul g float_zero float_zero ≡ float_zero
    nothing binary32 = unfold mul in refl
    nothing binary64 = unfold mul in refl

-- ---- the circle
-- one coordinate: outside the box the square is the radius's at least
outside : (f : Format) (x r p : Float) → T (finite x) → T (finite r) → T (finite p) → T (fits f r) → T (fits f p) → T (le float_zero r) → (T (lt p (sub f x r))) ⊎ (T (lt (add f x r) p)) → T (le (mul f r r) (mul f (sub f p x) (sub f p x)))
outside f x r p a b d R P z (inl h) = square_left f r (sub f p x) b z (left_of f x r p a b d R P h)
outside f x r p a b d R P z (inr h) = square_right f r (sub f p x) b z (right_of f x r p a b d R P h)

no_less : (x y : Float) → T (le x y) → T (lt y x) → ⊥
no_less x y h k = lt_irrefl y (lt_of_lt_of_le y x y k h)

module _ (f : Format) (x y r p q : Float) (X : T (finite x)) (Y : T (finite y)) (R : T (finite r)) (P : T (finite p)) (Q : T (finite q)) (FR : T (fits f r)) (FP : T (fits f p)) (FQ : T (fits f q)) (z : T (le float_zero r)) where
  abbrev dx : Float
  dx = mul f (sub f p x) (sub f p x)

  abbrev dy : Float
  dy = mul f (sub f q y) (sub f q y)

  pub beyond_x : (T (lt p (sub f x r))) ⊎ (T (lt (add f x r) p)) → T (lt (add f dx dy) (mul f r r)) → ⊥
  beyond_x o = no_less (mul f r r) (add f dx dy)
      (le_trans (mul f r r) dx (add f dx dy) (outside f x r p X R P FR FP z o)
      (grows_right f dx dy (mul-fits f (sub f p x) (sub f p x)) (square_above f (sub f p x) (sub_number f p x P X)) (square_above f (sub f q y) (sub_number f q y Q Y))))

  pub beyond_y : (T (lt q (sub f y r))) ⊎ (T (lt (add f y r) q)) → T (lt (add f dx dy) (mul f r r)) → ⊥
  beyond_y o = no_less (mul f r r) (add f dx dy)
      (le_trans (mul f r r) dy (add f dx dy) (outside f y r q Y R Q FR FQ z o)
      (grows_left f dx dy (mul-fits f (sub f q y) (sub f q y)) (square_above f (sub f p x) (sub_number f p x P X)) (square_above f (sub f q y) (sub_number f q y Q Y))))
