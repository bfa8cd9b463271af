-- Products of moves, and points carried forward and taken back: exact in whole numbers, and equal but for zero signs where the whole numbers are. Assumes nothing.
use Rattle.std.specs.Prelude.{◌≡◌, ℕ, ◌+◌, ◌^◌, T, ℤ, ◌+ℤ◌, ◌-ℤ◌, nat_lt, Float}
use Rattle.std.proofs.Common.{sym, subst, pow_pos}
use Rattle.std.specs.Float.{binary64}
use Rattle.floats.specs.Value.{In, Rounds}
use Rattle.floats.specs.Zeros.{Alike}
use Rattle.floats.proofs.Alike.{rounds_alike}
use Rattle.floats.proofs.Rounded.{rounds_add}
use Rattle.floats.proofs.Bounded.{in_add, in_sub}
use Rattle.plane.specs.declared.affine.Affine.{Affine}
use Rattle.plane.specs.declared.point.Point.{Point}
use Rattle.plane.specs.Affines.{product, image}
use Rattle.plane.specs.Points.{Same}
use Rattle.layers.specs.Moves.{taken_back}
use Rattle.layers.specs.Turns.{Turn, to_x, to_y, ta, tb, tc, td, after, after_a, after_b, after_c, after_d, fore_x, fore_y, hind_x, hind_y, fore_x_size, fore_y_size, hind_x_size, hind_y_size, unit_size_x, unit_size_y}
use Rattle.layers.specs.Whole.{Turned, Whole, resized, blend_in, blend_rounds}

-- ---- one value, two results
pub alike_at : {x y : Float} {k l : ℤ} (i : ℕ) → Rounds binary64 x k (2 ^ i) → Rounds binary64 y l (2 ^ i) → k ≡ l → Alike x y
alike_at {x} {y} {k} {l} i v w e = rounds_alike binary64 x y k (2 ^ i) (pow_pos i) v (subst (λ (z : ℤ). Rounds binary64 y z (2 ^ i)) (sym e) w)

-- the same number with another name
pub renamed : {x : Float} {k l : ℤ} {i n : ℕ} → k ≡ l → In x k i n → In x l i n
renamed {x} {k} {l} {i} {n} e v = subst (λ (z : ℤ). In x z i n) e v

-- ---- the product
turned_product : (n m : Affine) (t u : Turn) → Turned n t → Turned m u → Turned (product n m) (after t u)
turned_product n m t u N M = record {
  a = resized 1 (unit_size_x (to_x (after t u))) (renamed (after_a t u) (blend_in 0 1 tt tt tt N.a M.a N.c M.b));
  b = resized 1 (unit_size_x (to_y (after t u))) (renamed (after_b t u) (blend_in 0 1 tt tt tt N.b M.a N.d M.b));
  c = resized 1 (unit_size_y (to_x (after t u))) (renamed (after_c t u) (blend_in 0 1 tt tt tt N.a M.c N.c M.d));
  d = resized 1 (unit_size_y (to_y (after t u))) (renamed (after_d t u) (blend_in 0 1 tt tt tt N.b M.c N.d M.d));
}

-- the sizes of three numbers fit
abbrev Fit : ℕ → ℕ → Type 0
Fit p q = T (nat_lt q (2 ^ 53)) × T (nat_lt (q + q) (2 ^ 53)) × T (nat_lt (q + p) (2 ^ 53))

pub product_whole : (n m : Affine) (t u : Turn) (e f k l : ℤ) (p q : ℕ) → Fit p q → Whole n t e f p → Whole m u k l q
    → Whole (product n m) (after t u) (fore_x t k l +ℤ e) (fore_y t k l +ℤ f) (q + p)
product_whole n m t u e f k l p q F N M = record {
  turn = turned_product n m t u N.turn M.turn;
  e = in_add tt F.2 (resized q (fore_x_size t k l q M.e.size M.f.size) (blend_in 8 q tt F.0 F.1 N.turn.a M.e N.turn.c M.f)) N.e;
  f = in_add tt F.2 (resized q (fore_y_size t k l q M.e.size M.f.size) (blend_in 8 q tt F.0 F.1 N.turn.b M.e N.turn.d M.f)) N.f;
}

-- its numbers, as they are rounded
pub record RoundedMap (m : Affine) (t : Turn) (k l : ℤ) : Type 0 where
  pub a : Rounds binary64 m.a (ta t) 1
  pub b : Rounds binary64 m.b (tb t) 1
  pub c : Rounds binary64 m.c (tc t) 1
  pub d : Rounds binary64 m.d (td t) 1
  pub e : Rounds binary64 m.e k (2 ^ 8)
  pub f : Rounds binary64 m.f l (2 ^ 8)

rounded_as : {x : Float} {k l : ℤ} (c : ℕ) → k ≡ l → Rounds binary64 x k c → Rounds binary64 x l c
rounded_as {x} c e v = subst (λ (z : ℤ). Rounds binary64 x z c) e v

pub product_rounds : (n m : Affine) (t u : Turn) (e f k l : ℤ) (p q : ℕ) → Fit p q → Whole n t e f p → Whole m u k l q
    → RoundedMap (product n m) (after t u) (fore_x t k l +ℤ e) (fore_y t k l +ℤ f)
product_rounds n m t u e f k l p q F N M = record {
  a = rounded_as 1 (after_a t u) (blend_rounds 0 1 tt tt N.turn.a M.turn.a N.turn.c M.turn.b);
  b = rounded_as 1 (after_b t u) (blend_rounds 0 1 tt tt N.turn.b M.turn.a N.turn.d M.turn.b);
  c = rounded_as 1 (after_c t u) (blend_rounds 0 1 tt tt N.turn.a M.turn.c N.turn.c M.turn.d);
  d = rounded_as 1 (after_d t u) (blend_rounds 0 1 tt tt N.turn.b M.turn.c N.turn.d M.turn.d);
  e = rounds_add binary64 _ _ _ _ (2 ^ 8) (pow_pos 8) (blend_in 8 q tt F.0 F.1 N.turn.a M.e N.turn.c M.f).val N.e.val;
  f = rounds_add binary64 _ _ _ _ (2 ^ 8) (pow_pos 8) (blend_in 8 q tt F.0 F.1 N.turn.b M.e N.turn.d M.f).val N.f.val;
}

-- ---- points
-- p is (u / 256, v / 256), neither above n in size
pub record Spot (p : Point) (u v : ℤ) (n : ℕ) : Type 0 where
  pub x : In p.x u 8 n
  pub y : In p.y v 8 n

-- and its numbers are rounded to that
pub record RoundedSpot (p : Point) (u v : ℤ) : Type 0 where
  pub x : Rounds binary64 p.x u (2 ^ 8)
  pub y : Rounds binary64 p.y v (2 ^ 8)

pub same_spots : {p q : Point} {u v w z : ℤ} → RoundedSpot p u v → RoundedSpot q w z → u ≡ w → v ≡ z → Same p q
same_spots P Q e d = record { x = alike_at 8 P.x Q.x e; y = alike_at 8 P.y Q.y d }

-- carried forward
pub image_spot : (m : Affine) (p : Point) (t : Turn) (k l u v : ℤ) (a n : ℕ) → Fit a n → Whole m t k l a → Spot p u v n → Spot (image m p) (fore_x t u v +ℤ k) (fore_y t u v +ℤ l) (n + a)
image_spot m p t k l u v a n F M P = record {
  x = in_add tt F.2 (resized n (fore_x_size t u v n P.x.size P.y.size) (blend_in 8 n tt F.0 F.1 M.turn.a P.x M.turn.c P.y)) M.e;
  y = in_add tt F.2 (resized n (fore_y_size t u v n P.x.size P.y.size) (blend_in 8 n tt F.0 F.1 M.turn.b P.x M.turn.d P.y)) M.f;
}

pub image_rounds : (m : Affine) (p : Point) (t : Turn) (k l u v : ℤ) (a n : ℕ) → Fit a n → Whole m t k l a → Spot p u v n → RoundedSpot (image m p) (fore_x t u v +ℤ k) (fore_y t u v +ℤ l)
image_rounds m p t k l u v a n F M P = record {
  x = rounds_add binary64 _ _ _ _ (2 ^ 8) (pow_pos 8) (blend_in 8 n tt F.0 F.1 M.turn.a P.x M.turn.c P.y).val M.e.val;
  y = rounds_add binary64 _ _ _ _ (2 ^ 8) (pow_pos 8) (blend_in 8 n tt F.0 F.1 M.turn.b P.x M.turn.d P.y).val M.f.val;
}

-- taken back
abbrev FitBack : ℕ → ℕ → Type 0
FitBack a n = T (nat_lt (n + a) (2 ^ 53)) × T (nat_lt (n + a + (n + a)) (2 ^ 53))

pub back_spot : (m : Affine) (p : Point) (t : Turn) (k l u v : ℤ) (a n : ℕ) → FitBack a n → Whole m t k l a → Spot p u v n → Spot (taken_back m p) (hind_x t (u -ℤ k) (v -ℤ l)) (hind_y t (u -ℤ k) (v -ℤ l)) (n + a)
back_spot m p t k l u v a n F M P =
    let x = in_sub tt F.0 P.x M.e in
    let y = in_sub tt F.0 P.y M.f in
    record {
      x = resized (n + a) (hind_x_size t (u -ℤ k) (v -ℤ l) (n + a) x.size y.size) (blend_in 8 (n + a) tt F.0 F.1 M.turn.a x M.turn.b y);
      y = resized (n + a) (hind_y_size t (u -ℤ k) (v -ℤ l) (n + a) x.size y.size) (blend_in 8 (n + a) tt F.0 F.1 M.turn.c x M.turn.d y);
    }

pub back_rounds : (m : Affine) (p : Point) (t : Turn) (k l u v : ℤ) (a n : ℕ) → FitBack a n → Whole m t k l a → Spot p u v n → RoundedSpot (taken_back m p) (hind_x t (u -ℤ k) (v -ℤ l)) (hind_y t (u -ℤ k) (v -ℤ l))
back_rounds m p t k l u v a n F M P =
    let x = in_sub tt F.0 P.x M.e in
    let y = in_sub tt F.0 P.y M.f in
    record {
      x = blend_rounds 8 (n + a) tt F.0 M.turn.a x M.turn.b y;
      y = blend_rounds 8 (n + a) tt F.0 M.turn.c x M.turn.d y;
    }
