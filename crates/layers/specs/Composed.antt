-- The laws of moves: forward and back undo each other, a product does what its parts do, and its sign is the product of the signs. Assumes nothing.
use Rattle.std.specs.Prelude.{◌≡◌, ◌+◌, Bool, cond, T, [], ◌∷◌, ℤ, pos, negsuc, ◌+ℤ◌, ◌-ℤ◌, ◌*ℤ◌, int_lt, Float}
use Rattle.std.proofs.Common.{sym, ap, ◌∙◌, subst}
use Rattle.std.specs.Float.Ieee.{lt}
use Rattle.floats.specs.Value.{Val, In}
use Rattle.floats.proofs.Bounded.{in_sub, in_lt}
use Rattle.floats.proofs.Ring.{◌⊕◌, ◌⊖◌, ◌⊜◌, ring}
use Rattle.plane.specs.declared.affine.Affine.{Affine}
use Rattle.plane.specs.declared.point.Point.{Point}
use Rattle.plane.specs.Affines.{nought, product, image, det}
use Rattle.plane.specs.Points.{GridPoint, FieldPoint, Same}
use Rattle.layers.specs.Moves.{is_move, page_offset, sign, taken_back, SameMap, Composes}
use Rattle.layers.specs.Turns.{Turn, Row, along, to_x, to_y, after, turn_sign, after_sign, one_equal, fore_x, fore_y, hind_x, hind_y, fore_hind_x, fore_hind_y, hind_fore_x, hind_fore_y, after_fore_x, after_fore_y, after_back_x, after_back_y, fore_sum, after_assoc_a, after_assoc_b, after_assoc_c, after_assoc_d}
use Rattle.layers.specs.Whole.{Turned, Whole, page, whole_of, move_of, resized, unit_mul, nought_in}
use Rattle.layers.specs.Products.{alike_at, renamed, product_whole, product_rounds, Spot, same_spots, image_spot, image_rounds, back_spot, back_rounds}

-- ---- the sign
pub det_in : (m : Affine) (t : Turn) → Turned m t → In (det m) (turn_sign t) 0 2
det_in m t v = in_sub tt tt (unit_mul 0 1 tt tt v.a v.d) (unit_mul 0 1 tt tt v.b v.c)

pub sign_whole : (m : Affine) (t : Turn) → Turned m t → sign m ≡ turn_sign t
sign_whole m t v =
    ap (λ (s : Bool). cond s (negsuc 0) (pos 1)) (in_lt (det_in m t v) nought_in)
    ∙ one_equal (λ t. cond (int_lt (turn_sign t) (pos 0)) (negsuc 0) (pos 1)) turn_sign tt t

pub sign_by : (m : Affine) (x : Float) (b : Bool) → x ≡ det m → lt x nought ≡ b → cond b (negsuc 0) (pos 1) ≡ sign m
sign_by m x b e h = ap (λ (s : Bool). cond s (negsuc 0) (pos 1)) (sym h ∙ ap (λ (y : Float). lt y nought) e)

-- a move's sign is ad - bc
pub sign_is_det : (m : Affine) → T (is_move m) → Val (det m) (sign m) 0
sign_is_det m h =
    let w = whole_of m h in
    let v = w.3.turn in
    subst (λ (z : ℤ). Val (det m) z 0) (sym (sign_whole m w.0 v)) (det_in m w.0 v).val

-- ---- forward and back
spot_of : (p : Point) (g : FieldPoint p) → Spot p g.0 g.1 8388608
spot_of p g = record { x = g.2.x; y = g.2.y }

less_more : (a k : ℤ) → a +ℤ k -ℤ k ≡ a
less_more a k = ring (a ∷ k ∷ []) (λ a k. a ⊕ k ⊖ k ⊜ a) tt

more_less : (a k : ℤ) → a -ℤ k +ℤ k ≡ a
more_less a k = ring (a ∷ k ∷ []) (λ a k. a ⊖ k ⊕ k ⊜ a) tt

pub back_forward : (m : Affine) (p : Point) (u v : ℤ) → T (is_move m) → GridPoint p u v → GridPoint (taken_back m (image m p)) u v
back_forward m p u v h g =
    let w = whole_of m h in
    let t = w.0 in
    let k = w.1 in
    let l = w.2 in
    let there = image_spot m p t k l u v page 8388608 (tt, tt, tt) w.3 (spot_of p (u, v, g)) in
    let X = fore_x t u v in
    let Y = fore_y t u v in
    let again = back_spot m (image m p) t k l (X +ℤ k) (Y +ℤ l) page (8388608 + page) (tt, tt) w.3 there in
    record {
      x = resized 8388608 g.x.size (renamed ((λ i. hind_x t (less_more X k i) (less_more Y l i)) ∙ hind_fore_x t u v) again.x);
      y = resized 8388608 g.y.size (renamed ((λ i. hind_y t (less_more X k i) (less_more Y l i)) ∙ hind_fore_y t u v) again.y);
    }

pub forward_back : (m : Affine) (p : Point) (u v : ℤ) → T (is_move m) → GridPoint p u v → GridPoint (image m (taken_back m p)) u v
forward_back m p u v h g =
    let w = whole_of m h in
    let t = w.0 in
    let k = w.1 in
    let l = w.2 in
    let there = back_spot m p t k l u v page 8388608 (tt, tt) w.3 (spot_of p (u, v, g)) in
    let again = image_spot m (taken_back m p) t k l (hind_x t (u -ℤ k) (v -ℤ l)) (hind_y t (u -ℤ k) (v -ℤ l)) page (8388608 + page) (tt, tt, tt) w.3 there in
    record {
      x = resized 8388608 g.x.size (renamed (ap (λ (z : ℤ). z +ℤ k) (fore_hind_x t (u -ℤ k) (v -ℤ l)) ∙ more_less u k) again.x);
      y = resized 8388608 g.y.size (renamed (ap (λ (z : ℤ). z +ℤ l) (fore_hind_y t (u -ℤ k) (v -ℤ l)) ∙ more_less v l) again.y);
    }

-- ---- the product
-- a row of a turn, of a point and then of an offset
carried : (r : Row) (x y k l e : ℤ) → along r x y +ℤ (along r k l +ℤ e) ≡ along r (x +ℤ k) (y +ℤ l) +ℤ e
carried r x y k l e =
    ring (along r x y ∷ along r k l ∷ e ∷ []) (λ a b e. a ⊕ (b ⊕ e) ⊜ (a ⊕ b) ⊕ e) tt
    ∙ ap (λ (z : ℤ). z +ℤ e) (sym (fore_sum r x y k l))

-- both moves in whole numbers: n is the later one
record Both (n m : Affine) : Type 0 where
  t : Turn
  e : ℤ
  f : ℤ
  later : Whole n t e f page
  r : Turn
  k : ℤ
  l : ℤ
  first : Whole m r k l page

both : (n m : Affine) → T (is_move n) → T (is_move m) → Both n m
both n m h g =
    let N = whole_of n h in
    let M = whole_of m g in
    record { t = N.0; e = N.1; f = N.2; later = N.3; r = M.0; k = M.1; l = M.2; first = M.3 }

signs : (n m : Affine) → Both n m → sign (product n m) ≡ sign n *ℤ sign m
signs n m b =
    let P = product_whole n m b.t b.r b.e b.f b.k b.l page page (tt, tt, tt) b.later b.first in
    sign_whole (product n m) (after b.t b.r) P.turn
    ∙ after_sign b.t b.r
    ∙ (λ i. sym (sign_whole n b.t b.later.turn) i *ℤ sym (sign_whole m b.r b.first.turn) i)

forward : (n m : Affine) → Both n m → (p : Point) → FieldPoint p → Same (image (product n m) p) (image n (image m p))
forward n m b p g =
    let t = b.t in
    let r = b.r in
    let k = b.k in
    let l = b.l in
    let u = g.0 in
    let v = g.1 in
    let P = product_whole n m t r b.e b.f k l page page (tt, tt, tt) b.later b.first in
    let there = image_spot m p r k l u v page 8388608 (tt, tt, tt) b.first (spot_of p g) in
    same_spots
    (image_rounds (product n m) p (after t r) (fore_x t k l +ℤ b.e) (fore_y t k l +ℤ b.f) u v (page + page) 8388608 (tt, tt, tt) P (spot_of p g))
    (image_rounds n (image m p) t b.e b.f (fore_x r u v +ℤ k) (fore_y r u v +ℤ l) page (8388608 + page) (tt, tt, tt) b.later there)
    (ap (λ (z : ℤ). z +ℤ (fore_x t k l +ℤ b.e)) (after_fore_x t r u v) ∙ carried (to_x t) (fore_x r u v) (fore_y r u v) k l b.e)
    (ap (λ (z : ℤ). z +ℤ (fore_y t k l +ℤ b.f)) (after_fore_y t r u v) ∙ carried (to_y t) (fore_x r u v) (fore_y r u v) k l b.f)

-- at any point in units, with a bound on its size
pub backward : (n m : Affine) (h : T (is_move n)) (g : T (is_move m)) (p : Point) (u v : ℤ) → Spot p u v 8388608 → Same (taken_back (product n m) p) (taken_back m (taken_back n p))
backward n m h g p u v S =
    let b = both n m h g in
    let t = b.t in
    let r = b.r in
    let e = b.e in
    let f = b.f in
    let k = b.k in
    let l = b.l in
    let P = product_whole n m t r e f k l page page (tt, tt, tt) b.later b.first in
    let there = back_spot n p t e f u v page 8388608 (tt, tt) b.later S in
    same_spots
    (back_rounds (product n m) p (after t r) (fore_x t k l +ℤ e) (fore_y t k l +ℤ f) u v (page + page) 8388608 (tt, tt) P S)
    (back_rounds m (taken_back n p) r k l (hind_x t (u -ℤ e) (v -ℤ f)) (hind_y t (u -ℤ e) (v -ℤ f)) page (8388608 + page) (tt, tt) b.first there)
    (after_back_x t r e f k l u v) (after_back_y t r e f k l u v)

associates : (l n m : Affine) → T (is_move l) → Both n m → SameMap (product (product l n) m) (product l (product n m))
associates o n m h b =
    let O = whole_of o h in
    let s = O.0 in
    let t = b.t in
    let r = b.r in
    let left = product_whole o n s t O.1 O.2 b.e b.f page page (tt, tt, tt) O.3 b.later in
    let right = product_whole n m t r b.e b.f b.k b.l page page (tt, tt, tt) b.later b.first in
    let L = product_rounds (product o n) m (after s t) r (fore_x s b.e b.f +ℤ O.1) (fore_y s b.e b.f +ℤ O.2) b.k b.l (page + page) page (tt, tt, tt) left b.first in
    let R = product_rounds o (product n m) s (after t r) O.1 O.2 (fore_x t b.k b.l +ℤ b.e) (fore_y t b.k b.l +ℤ b.f) page (page + page) (tt, tt, tt) O.3 right in
    record {
      a = alike_at 0 L.a R.a (after_assoc_a s t r);
      b = alike_at 0 L.b R.b (after_assoc_b s t r);
      c = alike_at 0 L.c R.c (after_assoc_c s t r);
      d = alike_at 0 L.d R.d (after_assoc_d s t r);
      e = alike_at 8 L.e R.e (ap (λ (z : ℤ). z +ℤ (fore_x s b.e b.f +ℤ O.1)) (after_fore_x s t b.k b.l) ∙ carried (to_x s) (fore_x t b.k b.l) (fore_y t b.k b.l) b.e b.f O.1);
      f = alike_at 8 L.f R.f (ap (λ (z : ℤ). z +ℤ (fore_y s b.e b.f +ℤ O.2)) (after_fore_y s t b.k b.l) ∙ carried (to_y s) (fore_x t b.k b.l) (fore_y t b.k b.l) b.e b.f O.2);
    }

pub composes : (n m : Affine) → T (is_move n) → T (is_move m) → Composes n m
composes n m h g =
    let b = both n m h g in
    record {
      signs = signs n m b;
      forward = forward n m b;
      back = λ p s. backward n m h g p s.0 s.1 (spot_of p s);
      associates = λ l o. associates l n m o b;
    }

-- the product is a move just where its offset is on the page
pub product_move : (n m : Affine) → T (is_move n) → T (is_move m) → T (page_offset (product n m)) → T (is_move (product n m))
product_move n m h g on =
    let b = both n m h g in
    move_of (product n m) (after b.t b.r) (fore_x b.t b.k b.l +ℤ b.e) (fore_y b.t b.k b.l +ℤ b.f) (page + page)
    (product_whole n m b.t b.r b.e b.f b.k b.l page page (tt, tt, tt) b.later b.first) on
