-- A placing keeps the laws of windings where the shape below does. Assumes nothing.
use Rattle.std.specs.Prelude.{◌≡◌, ℕ, ◌+◌, Bool, true, false, cond, ◌&&◌, T, ℤ, pos, negsuc, ◌-ℤ◌, ◌*ℤ◌, ◌≤ℤ◌, ◌≢◌, unsigned_abs, refl, Float}
use Rattle.std.proofs.Common.{sym, ap, ◌∙◌, subst, inl, inr, arith, leb→le, lit≤}
use Rattle.std.specs.Float.Ieee.{sub, le}
use Rattle.std.specs.Float.Ieee.Fits.{and_l, and_r}
use Rattle.std.specs.Float.Ieee.Scale.{finite}
use Rattle.std.specs.Float.{float_min, float_max, binary64}
use Rattle.std.specs.Float.Order.{le_trans}
use Rattle.std.specs.Bool.{passes}
use Rattle.std.proofs.lemmas.Int.{ints}
use Rattle.floats.specs.Value.{In}
use Rattle.floats.specs.Page.{up_to, in_field}
use Rattle.floats.specs.Zeros.{Alike}
use Rattle.floats.proofs.Alike.{zeros_agree}
use Rattle.floats.proofs.Bounded.{in_le}
use Rattle.floats.proofs.Sizes.{is_finite}
use Rattle.floats.proofs.Tested.{up_to_whole}
use Rattle.plane.specs.declared.affine.Affine.{Affine}
use Rattle.plane.specs.declared.point.Point.{Point}
use Rattle.plane.specs.declared.rect.Rect.{Rect}
use Rattle.plane.specs.Affines.{image, image_box}
use Rattle.plane.specs.Points.{GridPoint, FieldPoint, Same, FiniteBox, InBox}
use Rattle.plane.specs.Rects.{finite_sides}
use Rattle.plane.specs.Winding.{IsWinding}
use Rattle.layers.specs.Moves.{is_move, unmoved, read_as, sign, taken_back}
use Rattle.layers.specs.Placings.{point_in_field, placed_wind, no_box, placed_box}
use Rattle.layers.specs.Turns.{to_x, to_y, hind_x, hind_y}
use Rattle.layers.specs.Whole.{page, whole_of, unmoved_move, resized}
use Rattle.layers.specs.Products.{Spot, back_spot}
use Rattle.layers.specs.Composed.{forward_back}
use Rattle.layers.specs.Boxes.{Number, finite_box, Numbered, least_number, most_number, Around, around}
use Rattle.layers.specs.Rows.{carried, Between, Ordered, between, carried_number}

-- ---- what any numbers are read as is a move
pub read_move : (m : Affine) → T (is_move (read_as m))
read_move m = go (is_move m) refl
  where
    go : (b : Bool) → is_move m ≡ b → T (is_move (cond b m unmoved))
    go true e = passes (is_move m) e
    go false e = unmoved_move

-- ---- -1, 0 or 1
pub signed_small : (s : Bool) (w : ℤ) → IsWinding w → IsWinding (cond s (negsuc 0) (pos 1) *ℤ w)
signed_small true w (inl e) = subst (λ (z : ℤ). IsWinding (negsuc 0 *ℤ z)) (sym e) (inr (inr refl))
signed_small true w (inr (inl e)) = subst (λ (z : ℤ). IsWinding (negsuc 0 *ℤ z)) (sym e) (inr (inl refl))
signed_small true w (inr (inr e)) = subst (λ (z : ℤ). IsWinding (negsuc 0 *ℤ z)) (sym e) (inl refl)
signed_small false w (inl e) = subst (λ (z : ℤ). IsWinding (pos 1 *ℤ z)) (sym e) (inl refl)
signed_small false w (inr (inl e)) = subst (λ (z : ℤ). IsWinding (pos 1 *ℤ z)) (sym e) (inr (inl refl))
signed_small false w (inr (inr e)) = subst (λ (z : ℤ). IsWinding (pos 1 *ℤ z)) (sym e) (inr (inr refl))

pub placed_small : (m : Affine) (wind : Point → ℤ) (p : Point) → ((q : Point) → IsWinding (wind q)) → IsWinding (placed_wind m wind p)
placed_small m wind p law = go (point_in_field (taken_back m p))
  where
    go : (b : Bool) → IsWinding (cond b (sign m *ℤ wind (taken_back m p)) (pos 0))
    go true = signed_small _ (wind (taken_back m p)) (law (taken_back m p))
    go false = inr (inl refl)

-- ---- the same at equal points
back_same : (m : Affine) (p q : Point) → Same p q → Same (taken_back m p) (taken_back m q)
back_same m p q s =
    let x : Alike (sub binary64 p.x m.e) (sub binary64 q.x m.e) = zeros_agree.of_sub _ _ _ _ s.x (inl refl) in
    let y : Alike (sub binary64 p.y m.f) (sub binary64 q.y m.f) = zeros_agree.of_sub _ _ _ _ s.y (inl refl) in
    record {
      x = zeros_agree.of_add _ _ _ _ (zeros_agree.of_mul m.a m.a _ _ (inl refl) x) (zeros_agree.of_mul m.b m.b _ _ (inl refl) y);
      y = zeros_agree.of_add _ _ _ _ (zeros_agree.of_mul m.c m.c _ _ (inl refl) x) (zeros_agree.of_mul m.d m.d _ _ (inl refl) y);
    }

up_to_same : (n : ℕ) (x y : Float) → Alike x y → up_to n y ≡ up_to n x
up_to_same n x y e = sym (zeros_agree.of_le _ _ _ _ (zeros_agree.of_abs x y e) (inl refl))

field_same : (p q : Point) → Same p q → point_in_field q ≡ point_in_field p
field_same p q s = λ i. up_to_same 32768 p.x q.x s.x i && up_to_same 32768 p.y q.y s.y i

pub placed_same : (m : Affine) (wind : Point → ℤ) (p q : Point) → ((p q : Point) → Same p q → wind q ≡ wind p) → Same p q → placed_wind m wind q ≡ placed_wind m wind p
placed_same m wind p q law s =
    let t = back_same m p q s in
    λ i. cond (field_same (taken_back m p) (taken_back m q) t i) (sign m *ℤ law (taken_back m p) (taken_back m q) t i) (pos 0)

-- ---- in the box
-- a grid point that lies in the field
field_point : (q : Point) (u v : ℤ) (n : ℕ) → Spot q u v n → T (point_in_field q) → GridPoint q u v
field_point q u v n S h = record {
  x = resized 8388608 (leb→le (unsigned_abs u) 8388608 (subst T (up_to_whole 32768 (lit≤ tt) S.x) (and_l (in_field q.x) (in_field q.y) h))) S.x;
  y = resized 8388608 (leb→le (unsigned_abs v) 8388608 (subst T (up_to_whole 32768 (lit≤ tt) S.y) (and_r (in_field q.x) (in_field q.y) h))) S.y;
}

-- numbers of one value are in order both ways
level : {v w : Float} {k : ℤ} {n j : ℕ} → In v k 8 n → In w k 8 j → T (le v w)
level {v} {w} {k} V W = let h : k ≤ℤ k = omega (arith, ints) in subst T (sym (in_le V W)) h.le

-- four corners that surround a value hold each number of that value
surrounded : {v w : Float} {k : ℤ} {n j : ℕ} (a b c d : Float) → Around a b c d → Between a v d → In v k 8 n → In w k 8 j → T (le (float_min (float_min a b) (float_min c d)) w) × T (le w (float_max (float_max a b) (float_max c d)))
surrounded {v} {w} a b c d A h V W = go h
  where
    vw : T (le v w)
    vw = level V W

    wv : T (le w v)
    wv = level W V

    go : Between a v d → T (le (float_min (float_min a b) (float_min c d)) w) × T (le w (float_max (float_max a b) (float_max c d)))
    go (inl g) = (le_trans _ a w A.under_first (le_trans a v w g.0 vw), le_trans w v _ wv (le_trans v d _ g.1 A.over_last))
    go (inr g) = (le_trans _ d w A.under_last (le_trans d v w g.0 vw), le_trans w v _ wv (le_trans v a _ g.1 A.over_first))

side : (x : Float) (k : ℤ) (i n : ℕ) → In x k i n → T (finite x)
side x k i n v = is_finite x k _ v.val

-- the corners of a box with finite sides, moved, hold the point that a point of the box is carried to
pub image_holds : (m : Affine) (b : Rect) (q p : Point) (u v w z : ℤ) → T (is_move m) → FiniteBox b → InBox b q → GridPoint q u v → GridPoint (image m q) w z → GridPoint p w z → InBox (image_box m b) p
image_holds m b q p u v w z h B I Q M P =
    let W = whole_of m h in
    let t = W.0 in
    let T' = W.3.turn in
    let E = side m.e W.1 8 page W.3.e in
    let F = side m.f W.2 8 page W.3.f in
    let X : Ordered b.x0 q.x b.x1 = record { first = B.x0; middle = side q.x u 8 8388608 Q.x; last = B.x1; low = I.left; high = I.right } in
    let Y : Ordered b.y0 q.y b.y1 = record { first = B.y0; middle = side q.y v 8 8388608 Q.y; last = B.y1; low = I.low; high = I.high } in
    let xs = around (carried m.a b.x0 m.c b.y0 m.e) (carried m.a b.x0 m.c b.y1 m.e) (carried m.a b.x1 m.c b.y0 m.e) (carried m.a b.x1 m.c b.y1 m.e)
    (carried_number (to_x t) m.a m.c m.e b.x0 b.y0 T'.a.val T'.c.val E B.x0 B.y0)
    (carried_number (to_x t) m.a m.c m.e b.x0 b.y1 T'.a.val T'.c.val E B.x0 B.y1)
    (carried_number (to_x t) m.a m.c m.e b.x1 b.y0 T'.a.val T'.c.val E B.x1 B.y0)
    (carried_number (to_x t) m.a m.c m.e b.x1 b.y1 T'.a.val T'.c.val E B.x1 B.y1) in
    let ys = around (carried m.b b.x0 m.d b.y0 m.f) (carried m.b b.x0 m.d b.y1 m.f) (carried m.b b.x1 m.d b.y0 m.f) (carried m.b b.x1 m.d b.y1 m.f)
    (carried_number (to_y t) m.b m.d m.f b.x0 b.y0 T'.b.val T'.d.val F B.x0 B.y0)
    (carried_number (to_y t) m.b m.d m.f b.x0 b.y1 T'.b.val T'.d.val F B.x0 B.y1)
    (carried_number (to_y t) m.b m.d m.f b.x1 b.y0 T'.b.val T'.d.val F B.x1 B.y0)
    (carried_number (to_y t) m.b m.d m.f b.x1 b.y1 T'.b.val T'.d.val F B.x1 B.y1) in
    let x = surrounded _ _ _ _ xs (between (to_x t) m.a m.c m.e b.x0 q.x b.x1 b.y0 q.y b.y1 T'.a.val T'.c.val E X Y) M.x P.x in
    let y = surrounded _ _ _ _ ys (between (to_y t) m.b m.d m.f b.x0 q.x b.x1 b.y0 q.y b.y1 T'.b.val T'.d.val F X Y) M.y P.y in
    record { left = x.0; right = x.1; low = y.0; high = y.1 }

-- no side of a moved box is not-a-number
pub image_numbered : (m : Affine) (b : Rect) → T (is_move m) → FiniteBox b → Numbered (image_box m b)
image_numbered m b h B =
    let W = whole_of m h in
    let t = W.0 in
    let T' = W.3.turn in
    let E = side m.e W.1 8 page W.3.e in
    let F = side m.f W.2 8 page W.3.f in
    let x : (u v : Float) → T (finite u) → T (finite v) → Number (carried m.a u m.c v m.e) = λ u v. carried_number (to_x t) m.a m.c m.e u v T'.a.val T'.c.val E in
    let y : (u v : Float) → T (finite u) → T (finite v) → Number (carried m.b u m.d v m.f) = λ u v. carried_number (to_y t) m.b m.d m.f u v T'.b.val T'.d.val F in
    record {
      x0 = least_number _ _ (least_number _ _ (x _ _ B.x0 B.y0) (x _ _ B.x0 B.y1)) (least_number _ _ (x _ _ B.x1 B.y0) (x _ _ B.x1 B.y1));
      y0 = least_number _ _ (least_number _ _ (y _ _ B.x0 B.y0) (y _ _ B.x0 B.y1)) (least_number _ _ (y _ _ B.x1 B.y0) (y _ _ B.x1 B.y1));
      x1 = most_number _ _ (most_number _ _ (x _ _ B.x0 B.y0) (x _ _ B.x0 B.y1)) (most_number _ _ (x _ _ B.x1 B.y0) (x _ _ B.x1 B.y1));
      y1 = most_number _ _ (most_number _ _ (y _ _ B.x0 B.y0) (y _ _ B.x0 B.y1)) (most_number _ _ (y _ _ B.x1 B.y0) (y _ _ B.x1 B.y1));
    }

-- a product is not 0 unless both its factors are
pub factor : (k w : ℤ) → (k *ℤ w ≢ pos 0) → w ≢ pos 0
factor k w n e = n (ap (λ (z : ℤ). k *ℤ z) e ∙ omega (arith, ints))

pub placed_boxed : (m : Affine) (wind : Point → ℤ) (b : Rect) (p : Point) → T (is_move m)
    → ((q : Point) → FiniteBox b → FieldPoint q → (wind q ≢ pos 0) → InBox b q)
    → FiniteBox (placed_box m b) → FieldPoint p → (placed_wind m wind p ≢ pos 0) → InBox (placed_box m b) p
placed_boxed m wind b p h law B G n = sides (finite_sides b) refl B
  where
    q : Point
    q = taken_back m p

    inside : (c : Bool) → point_in_field q ≡ c → (cond c (sign m *ℤ wind q) (pos 0) ≢ pos 0) → T (point_in_field q) × (wind q ≢ pos 0)
    inside true e k = (passes (point_in_field q) e, factor (sign m) (wind q) k)
    inside false e k = absurd (k refl)

    sides : (c : Bool) → finite_sides b ≡ c → FiniteBox (cond c (image_box m b) no_box) → InBox (cond c (image_box m b) no_box) p
    sides true e f =
        let W = whole_of m h in
        let u = G.0 in
        let v = G.1 in
        let k = inside (point_in_field q) refl n in
        let S = back_spot m p W.0 W.1 W.2 u v page 8388608 (tt, tt) W.3 (record { x = G.2.x; y = G.2.y }) in
        let Q = field_point q (hind_x W.0 (u -ℤ W.1) (v -ℤ W.2)) (hind_y W.0 (u -ℤ W.1) (v -ℤ W.2)) (8388608 + page) S k.0 in
        let F = finite_box b (passes (finite_sides b) e) in
        image_holds m b q p _ _ u v h F (law q F (_, _, Q) k.1) Q (forward_back m p u v h G.2) G.2
    sides false e f = absurd f.x0
