-- Sums, differences and products keep the order of their operands, as computed. Assumes nothing.
use Rattle.std.proofs.Common.{◌≡◌, ℕ, ◌*◌, ◌<◌, ◌≤◌, Bool, true, false, not, T, ℤ, pos, negsuc, ◌+ℤ◌, ◌-ℤ◌, ◌*ℤ◌, ◌≤ℤ◌, sym, refl, ap, ◌∙◌, subst, mul_comm, mul-le-mul, mul-pos, arith}
use lib.Ieee.{Float, nan, inf, fin, Format, up, down, sum, add, sub, mul, neg, le, is_nan}
use lib.Ieee.Fits.{down_pos}
use lib.Ieee.Scale.{finite}
use Rattle.std.specs.Float.{float_zero}
use Rattle.std.specs.Float.Order.{le_refl}
use Rattle.std.proofs.num.Values.{sum_comm}
use Rattle.std.proofs.lemmas.Int.{ints}
use Rattle.floats.specs.Value.{signed, Is}
use Rattle.floats.proofs.Rounded.{rounds_add, rounds_sub, rounds_mul}
use Rattle.floats.proofs.Compared.{is_le}
use Rattle.floats.proofs.Monotone.{rounds_mono, le_inf, inf_le, round_number, neg_le}

-- ---- three finite floats over one denominator
own_at : (s : Bool) (m : ℕ) (e : ℤ) (q c : ℕ) → c ≡ down e * q → Is (fin s m e) (signed s (m * up e * q)) c
own_at s m e q c h = (s, m * up e * q, (refl, omega (arith, ap (λ (z : ℕ). m * up e * z) h)), refl)

pub record Common (x y z : Float) : Type 0 where
  pub c : ℕ
  pub above : 0 < c
  pub k : ℤ
  pub l : ℤ
  pub w : ℤ
  pub first : Is x k c
  pub second : Is y l c
  pub third : Is z w c

pub common : (x y z : Float) → T (finite x) → T (finite y) → T (finite z) → Common x y z
common nan y z p q r = absurd p
common (inf s) y z p q r = absurd p
common (fin s m e) nan z p q r = absurd q
common (fin s m e) (inf t) z p q r = absurd q
common (fin s m e) (fin t n d) nan p q r = absurd r
common (fin s m e) (fin t n d) (inf u) p q r = absurd r
common (fin s m e) (fin t n d) (fin u o g) p q r = record {
  c = down e * (down d * down g);
  above = mul-pos (down_pos e) (mul-pos (down_pos d) (down_pos g));
  k = signed s (m * up e * (down d * down g));
  l = signed t (n * up d * (down e * down g));
  w = signed u (o * up g * (down e * down d));
  first = own_at s m e (down d * down g) (down e * (down d * down g)) refl;
  second = own_at t n d (down e * down g) (down e * (down d * down g)) (omega arith);
  third = own_at u o g (down e * down d) (down e * (down d * down g)) (omega arith);
}

pub order_of : (x y : Float) (k l : ℤ) (c : ℕ) → 0 < c → Is x k c → Is y l c → T (le x y) → k ≤ℤ l
order_of x y k l c C v w h = record { le = subst T (is_le x y k l c C v w) h }

-- ---- sums keep the order
pub add_mono : (f : Format) (x y e : Float) → T (finite x) → T (finite y) → T (finite e) → T (le x y) → T (le (add f x e) (add f y e))
add_mono f x y e p q r h =
    let m = common x y e p q r in
    let o : m.k ≤ℤ m.l = order_of x y m.k m.l m.c m.above m.first m.second h in
    rounds_mono f (add f x e) (add f y e) (m.k +ℤ m.w) (m.l +ℤ m.w) m.c m.above (rounds_add f x e m.k m.w m.c m.above m.first m.third) (rounds_add f y e m.l m.w m.c m.above m.second m.third) (omega (arith, ints, o))

pub sub_mono : (f : Format) (x y e : Float) → T (finite x) → T (finite y) → T (finite e) → T (le x y) → T (le (sub f x e) (sub f y e))
sub_mono f x y e p q r h =
    let m = common x y e p q r in
    let o : m.k ≤ℤ m.l = order_of x y m.k m.l m.c m.above m.first m.second h in
    rounds_mono f (sub f x e) (sub f y e) (m.k -ℤ m.w) (m.l -ℤ m.w) m.c m.above (rounds_sub f x e m.k m.w m.c m.above m.first m.third) (rounds_sub f y e m.l m.w m.c m.above m.second m.third) (omega (arith, ints, o))

-- ---- 0
pub zero_of : (k : ℤ) (c : ℕ) → Is float_zero k c → k ≡ pos 0
zero_of k c v = v.3 ∙ at v.0 v.1 (omega (arith, v.2.1))
  where
    at : (s : Bool) (a : ℕ) → a ≡ 0 → signed s a ≡ pos 0
    at false a e = ap pos e
    at true a e = ap (signed true) e

-- ---- products of what is not negative
mul_order : (a b k l : ℤ) → pos 0 ≤ℤ a → a ≤ℤ b → pos 0 ≤ℤ k → k ≤ℤ l → (a *ℤ k) ≤ℤ (b *ℤ l)
mul_order (negsuc a) b k l p q r s = absurd p.le
mul_order (pos a) (negsuc b) k l p q r s = absurd q.le
mul_order (pos a) (pos b) (negsuc k) l p q r s = absurd r.le
mul_order (pos a) (pos b) (pos k) (negsuc l) p q r s = absurd s.le
mul_order (pos a) (pos b) (pos k) (pos l) p q r s =
    let g : a ≤ b = omega (arith, ints) in
    let h : k ≤ l = omega (arith, ints) in
    omega (arith, ints, mul-le-mul g h)

pub mul_mono : (f : Format) (x y u v : Float) → T (finite x) → T (finite y) → T (finite u) → T (finite v) → T (le float_zero x) → T (le x y) → T (le float_zero u) → T (le u v) → T (le (mul f x u) (mul f y v))
mul_mono f x y u v X Y U V zx xy zu uv =
    let m = common float_zero x y tt X Y in
    let n = common float_zero u v tt U V in
    let ox : m.k ≤ℤ m.l = order_of float_zero x m.k m.l m.c m.above m.first m.second zx in
    let oy : m.l ≤ℤ m.w = order_of x y m.l m.w m.c m.above m.second m.third xy in
    let ou : n.k ≤ℤ n.l = order_of float_zero u n.k n.l n.c n.above n.first n.second zu in
    let ov : n.l ≤ℤ n.w = order_of u v n.l n.w n.c n.above n.second n.third uv in
    rounds_mono f (mul f x u) (mul f y v) (m.l *ℤ n.l) (m.w *ℤ n.w) (m.c * n.c) (mul-pos m.above n.above)
    (rounds_mul f x u m.l n.l m.c n.c m.above n.above m.second n.second)
    (rounds_mul f y v m.w n.w m.c n.c m.above n.above m.third n.third)
    (mul_order m.l m.w n.l n.w (subst (λ (z : ℤ). z ≤ℤ m.l) (zero_of m.k m.c m.first) ox) oy (subst (λ (z : ℤ). z ≤ℤ n.l) (zero_of n.k n.c n.first) ou) ov)

-- ---- neither a sum nor a difference of finite floats is a NaN
pub sub_number : (f : Format) (p x : Float) → T (finite p) → T (finite x) → T (not (is_nan (sub f p x)))
sub_number f p x a b = let m = common p x x a b b in round_number f (sub f p x) (m.k -ℤ m.l) m.c (rounds_sub f p x m.k m.l m.c m.above m.first m.second)

pub add_number : (f : Format) (p x : Float) → T (finite p) → T (finite x) → T (not (is_nan (add f p x)))
add_number f p x a b = let m = common p x x a b b in round_number f (add f p x) (m.k +ℤ m.l) m.c (rounds_add f p x m.k m.l m.c m.above m.first m.second)

pub finite_number : (x : Float) → T (finite x) → T (not (is_nan x))
unfolding is_nan
finite_number nan h = h
finite_number (inf s) h = tt
finite_number (fin s m e) h = tt

-- ---- the order of the operands
pub add_comm : (f : Format) (x y : Float) → add f x y ≡ add f y x
unfolding add
add_comm f nan nan = refl
add_comm f nan (inf t) = refl
add_comm f nan (fin t n d) = refl
add_comm f (inf s) nan = refl
add_comm f (inf true) (inf true) = refl
add_comm f (inf true) (inf false) = refl
add_comm f (inf false) (inf true) = refl
add_comm f (inf false) (inf false) = refl
add_comm f (inf s) (fin t n d) = refl
add_comm f (fin s m e) nan = refl
add_comm f (fin s m e) (inf t) = refl
add_comm f (fin s m e) (fin t n d) = sum_comm f s t (m * up e * down d) (n * up d * down e) (down e * down d) ∙ ap (sum f t (n * up d * down e) s (m * up e * down d)) (mul_comm (down e) (down d))

-- ---- with infinities
-- what an infinity gives with any float, if it is no NaN
with_inf : (f : Format) (x : Float) (t : Bool) → T (not (is_nan (add f x (inf t)))) → add f x (inf t) ≡ inf t
unfolding add is_nan
with_inf f nan t h = absurd h
with_inf f (inf true) true h = refl
with_inf f (inf true) false h = absurd h
with_inf f (inf false) true h = absurd h
with_inf f (inf false) false h = refl
with_inf f (fin s m e) t h = refl

with_fin : (f : Format) (x y : Float) (t : Bool) (n : ℕ) (d : ℤ) → T (le x y) → T (not (is_nan (add f x (fin t n d)))) → T (not (is_nan (add f y (fin t n d)))) → T (le (add f x (fin t n d)) (add f y (fin t n d)))
with_fin f nan y t n d h p q = absurd (unfold le in h)
with_fin f (inf true) y t n d h p q = unfold add in inf_le (add f y (fin t n d)) q
with_fin f (inf false) nan t n d h p q = absurd (unfold le in h)
with_fin f (inf false) (inf true) t n d h p q = absurd (unfold le in h)
with_fin f (inf false) (inf false) t n d h p q = unfold add le in tt
with_fin f (inf false) (fin u o g) t n d h p q = absurd (unfold le in h)
with_fin f (fin s m e) nan t n d h p q = absurd (unfold le in h)
with_fin f (fin s m e) (inf true) t n d h p q = absurd (unfold le in h)
with_fin f (fin s m e) (inf false) t n d h p q = unfold add in le_inf (add f (fin s m e) (fin t n d)) p
with_fin f (fin s m e) (fin u o g) t n d h p q = add_mono f (fin s m e) (fin u o g) (fin t n d) tt tt tt h

pub add_mono_all : (f : Format) (x y e : Float) → T (le x y) → T (not (is_nan (add f x e))) → T (not (is_nan (add f y e))) → T (le (add f x e) (add f y e))
add_mono_all f x y nan h p q = absurd (unfold is_nan add in subst (λ (z : Float). T (not (is_nan z))) (add_comm f x nan) p)
add_mono_all f x y (inf t) h p q =
    subst (λ (z : Float). T (le z (add f y (inf t)))) (sym (with_inf f x t p))
    (subst (λ (z : Float). T (le (inf t) z)) (sym (with_inf f y t q)) (le_refl (inf t) (unfold is_nan in tt)))
add_mono_all f x y (fin t n d) h p q = with_fin f x y t n d h p q

pub sub_mono_all : (f : Format) (x y e : Float) → T (le x y) → T (not (is_nan (sub f x e))) → T (not (is_nan (sub f y e))) → T (le (sub f x e) (sub f y e))
unfolding sub
sub_mono_all f x y e h p q = add_mono_all f x y (neg e) h p q

pub sub_anti : (f : Format) (x y e : Float) → T (le x y) → T (not (is_nan (sub f e x))) → T (not (is_nan (sub f e y))) → T (le (sub f e y) (sub f e x))
unfolding sub
sub_anti f x y e h p q =
    subst (λ (z : Float). T (le z (add f e (neg x)))) (add_comm f (neg y) e)
    (subst (λ (z : Float). T (le (add f (neg y) e) z)) (add_comm f (neg x) e)
    (add_mono_all f (neg y) (neg x) e (neg_le x y h) (subst (λ (z : Float). T (not (is_nan z))) (add_comm f e (neg y)) q) (subst (λ (z : Float). T (not (is_nan z))) (add_comm f e (neg x)) p)))
