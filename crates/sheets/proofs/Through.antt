-- A page point taken back through the moves of a row, one by one, comes where it comes through their product; and the signs multiply. Assumes nothing.
use Rattle.std.proofs.Common.{◌≡◌, ℕ, ◌+◌, ◌≤◌, T, List, [], ◌∷◌, ℤ, pos, ◌+ℤ◌, ◌-ℤ◌, ◌*ℤ◌, nat_abs, sym, refl, ap, ◌∙◌, subst, arith, lit≤, leb→le}
use lib.Ieee.Fits.{and_l, and_r}
use Rattle.std.proofs.lemmas.Int.{ints}
use Rattle.floats.specs.Page.{on_page}
use Rattle.floats.specs.Value.{In}
use Rattle.floats.proofs.Bounds.{abs_add, abs_sub}
use Rattle.floats.proofs.Ring.{num, ◌⊗◌, ◌⊜◌, ring}
use Rattle.floats.proofs.Tested.{up_to_whole}
use Rattle.plane.specs.declared.affine.Affine.{Affine}
use Rattle.plane.specs.declared.point.Point.{Point}
use Rattle.plane.specs.Affines.{product}
use Rattle.plane.specs.Points.{Same}
use Rattle.layers.specs.Moves.{is_move, page_offset, sign, taken_back}
use Rattle.layers.specs.Turns.{Turn, after, fore_x, fore_y, hind_x, hind_y, fore_x_size, fore_y_size, hind_x_size, hind_y_size, fore_hind_x, fore_hind_y, after_back_x, after_back_y}
use Rattle.layers.specs.Whole.{Whole, page, whole_of, resized}
use Rattle.layers.specs.Products.{product_whole, Spot, same_spots, back_spot, back_rounds}
use Rattle.layers.specs.Composed.{composes, product_move}
use Rattle.sheets.specs.Book.{joined_after, through, signs}
use Rattle.sheets.specs.Tables.{GrantedAfter}

-- a number in units that is on the page
on_the_page : {n : ℕ} {k : ℤ} (x : _) → In x k 8 n → T (on_page x) → In x k 8 page
on_the_page {n} {k} x v h = resized page (leb→le (nat_abs k) page (subst T (up_to_whole 4096 (lit≤ tt) v) h)) v

product_on_page : (n m : Affine) (t r : Turn) (e f k l : ℤ) → Whole n t e f page → Whole m r k l page → T (page_offset (product n m))
    → Whole (product n m) (after t r) (fore_x t k l +ℤ e) (fore_y t k l +ℤ f) page
product_on_page n m t r e f k l N M h =
    let w = product_whole n m t r e f k l page page (tt, tt, tt) N M in
    record {
      turn = w.turn;
      e = on_the_page (product n m).e w.e (and_l (on_page (product n m).e) (on_page (product n m).f) h);
      f = on_the_page (product n m).f w.f (and_r (on_page (product n m).e) (on_page (product n m).f) h);
    }

-- where a page point comes to through the later moves `ms`, and that the whole product takes it where p does from there
record Reached (o : Affine) (t : Turn) (e f : ℤ) (ms : List Affine) (p : Point) (x y : ℤ) : Type 0 where
  u : ℤ
  v : ℤ
  spot : Spot (through ms p) u v 3145728
  r : Turn
  k : ℤ
  l : ℤ
  whole : Whole (joined_after o ms) r k l page
  same_x : hind_x r (x -ℤ k) (y -ℤ l) ≡ hind_x t (u -ℤ e) (v -ℤ f)
  same_y : hind_y r (x -ℤ k) (y -ℤ l) ≡ hind_y t (u -ℤ e) (v -ℤ f)

more_less : (a k : ℤ) → a ≡ (a -ℤ k) +ℤ k
more_less a k = omega (arith, ints)

reached : (o : Affine) (t : Turn) (e f : ℤ) (ms : List Affine) (p : Point) (x y : ℤ) → Whole o t e f page → GrantedAfter o ms → Spot p x y page → Reached o t e f ms p x y
reached o t e f [] p x y O g P = record {
  u = x;
  v = y;
  spot = record { x = resized 3145728 (let h : nat_abs x ≤ page = P.x.size in omega arith) P.x; y = resized 3145728 (let h : nat_abs y ≤ page = P.y.size in omega arith) P.y };
  r = t;
  k = e;
  l = f;
  whole = O;
  same_x = refl;
  same_y = refl;
}
reached o t e f (m ∷ ms) p x y O g P = step (whole_of m g.0) (λ N. reached (product m o) _ _ _ ms p x y (product_on_page m o _ t _ _ e f N O g.1.0) g.1.1 P)
  where
    step : (w : (s : Turn) × (a b : ℤ) × Whole m s a b page)
        → (Whole m w.0 w.1 w.2 page → Reached (product m o) (after w.0 t) (fore_x w.0 e f +ℤ w.1) (fore_y w.0 e f +ℤ w.2) ms p x y)
        → Reached o t e f (m ∷ ms) p x y
    step w rec =
        let R = rec w.3 in
        let s = w.0 in
        let a = w.1 in
        let b = w.2 in
        let u = hind_x s (R.u -ℤ a) (R.v -ℤ b) in
        let v = hind_y s (R.u -ℤ a) (R.v -ℤ b) in
        let S = back_spot m (through ms p) s a b R.u R.v page 3145728 (tt, tt) w.3 R.spot in
        let X = R.same_x ∙ after_back_x s t a b e f R.u R.v in
        let Y = R.same_y ∙ after_back_y s t a b e f R.u R.v in
        let dx = abs_sub x R.k page page P.x.size R.whole.e.size in
        let dy = abs_sub y R.l page page P.y.size R.whole.f.size in
        let hx = hind_x_size R.r (x -ℤ R.k) (y -ℤ R.l) (page + page) dx dy in
        let hy = hind_y_size R.r (x -ℤ R.k) (y -ℤ R.l) (page + page) dx dy in
        let gx : nat_abs (hind_x t (u -ℤ e) (v -ℤ f)) ≤ page + page = subst (λ (z : ℤ). nat_abs z ≤ page + page) X hx in
        let gy : nat_abs (hind_y t (u -ℤ e) (v -ℤ f)) ≤ page + page = subst (λ (z : ℤ). nat_abs z ≤ page + page) Y hy in
        let ex : u ≡ fore_x t (hind_x t (u -ℤ e) (v -ℤ f)) (hind_y t (u -ℤ e) (v -ℤ f)) +ℤ e =
        more_less u e ∙ ap (λ (z : ℤ). z +ℤ e) (sym (fore_hind_x t (u -ℤ e) (v -ℤ f))) in
        let ey : v ≡ fore_y t (hind_x t (u -ℤ e) (v -ℤ f)) (hind_y t (u -ℤ e) (v -ℤ f)) +ℤ f =
        more_less v f ∙ ap (λ (z : ℤ). z +ℤ f) (sym (fore_hind_y t (u -ℤ e) (v -ℤ f))) in
        let nu : nat_abs u ≤ 3145728 = subst (λ (z : ℤ). nat_abs z ≤ 3145728) (sym ex) (abs_add _ e (page + page) page (fore_x_size t _ _ (page + page) gx gy) O.e.size) in
        let nv : nat_abs v ≤ 3145728 = subst (λ (z : ℤ). nat_abs z ≤ 3145728) (sym ey) (abs_add _ f (page + page) page (fore_y_size t _ _ (page + page) gx gy) O.f.size) in
        record {
          u = u;
          v = v;
          spot = record { x = resized 3145728 nu S.x; y = resized 3145728 nv S.y };
          r = R.r;
          k = R.k;
          l = R.l;
          whole = R.whole;
          same_x = X;
          same_y = Y;
        }

-- one by one, or by the product
pub through_product : (o : Affine) (ms : List Affine) (p : Point) (x y : ℤ) → T (is_move o) → GrantedAfter o ms → Spot p x y page → Same (taken_back (joined_after o ms) p) (through (o ∷ ms) p)
through_product o ms p x y h g P =
    let w = whole_of o h in
    let R = reached o w.0 w.1 w.2 ms p x y w.3 g P in
    same_spots (back_rounds (joined_after o ms) p R.r R.k R.l x y page page (tt, tt) R.whole P)
    (back_rounds o (through ms p) w.0 w.1 w.2 R.u R.v page 3145728 (tt, tt) w.3 R.spot) R.same_x R.same_y

-- the product of granted moves is a move
pub joined_move : (o : Affine) (ms : List Affine) → T (is_move o) → GrantedAfter o ms → T (is_move (joined_after o ms))
joined_move o [] h g = h
joined_move o (m ∷ ms) h g = joined_move (product m o) ms (product_move m o g.0 h g.1.0) g.1.1

regroup : (a b c : ℤ) → (a *ℤ b) *ℤ c ≡ b *ℤ (a *ℤ c)
regroup a b c = ring (a ∷ b ∷ c ∷ []) (λ a b c. (a ⊗ b) ⊗ c ⊜ b ⊗ (a ⊗ c)) tt

pub signs_product : (o : Affine) (ms : List Affine) → T (is_move o) → GrantedAfter o ms → sign (joined_after o ms) ≡ signs (o ∷ ms)
signs_product o [] h g = ring (sign o ∷ []) (λ a. a ⊜ a ⊗ num (pos 1)) tt
signs_product o (m ∷ ms) h g = signs_product (product m o) ms (product_move m o g.0 h g.1.0) g.1.1 ∙ ap (λ (z : ℤ). z *ℤ signs ms) (composes m o g.0 h).signs ∙ regroup (sign m) (sign o) (signs ms)
