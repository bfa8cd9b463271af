-- What rows answer depends on the mark and the product alone: rows of the book, and the entries that stand for them, answer the same. Assumes nothing.
use Rattle.std.proofs.Common.{◌≡◌, ℕ, zero, suc, ◌+◌, ◌-◌, ◌≤◌, Bool, true, false, cond, ◌&&◌, T, ltb, List, [], ◌∷◌, map, length, ℤ, ◌+ℤ◌, ◌*ℤ◌, nat_abs, Some, None, Ok, Err, sym, refl, ap, ◌∙◌, subst, arith, lit≤, leb→le}
use lib.Ieee.{Float}
use lib.Ieee.Fits.{and_l, and_r}
use Rattle.std.specs.Bool.{passes}
use Rattle.floats.specs.Page.{on_grid, on_page}
use Rattle.floats.specs.Value.{In}
use Rattle.floats.proofs.Tested.{on_grid_only, up_to_whole}
use Rattle.plane.specs.declared.affine.Affine.{Affine}
use Rattle.plane.specs.declared.point.Point.{Point}
use Rattle.plane.specs.declared.rect.Rect.{Rect}
use Rattle.plane.specs.Affines.{product, image_box}
use Rattle.plane.specs.Paths.{tolerable}
use Rattle.plane.specs.Points.{Same}
use Rattle.plane.specs.Rects.{joined, finite_sides}
use Rattle.plane.specs.Winding.{nonzero}
use Rattle.layers.specs.Moves.{page_offset, read_as, sign, taken_back}
use Rattle.layers.specs.Placings.{placed_drawn}
use Rattle.layers.specs.Placed.{read_move}
use Rattle.layers.specs.Products.{Spot}
use Rattle.layers.specs.Whole.{page}
use Rattle.sheets.specs.declared.fault.SheetFault.TheVariants.{Tolerance, NotFinite, Full, NoMark, OffGrid, OffPage}
use Rattle.sheets.specs.declared.sheet.Entry.{Entry}
use Rattle.sheets.specs.Book.{Marks, Row, row, usable, product_of, stays, shift_answer, leaving, by_lowest, shift_all_answer, lift_answer, put_answer, at_page_point, gives, total, highest, above, moved_box, union_from, union_of, row_drawn, then_drawn, drawn_from, all_drawn, Inked}
use Rattle.sheets.specs.Tables.{row_of, Stands, AllStand, Granted}
use Rattle.sheets.proofs.Through.{through_product, signs_product}

-- ---- every entry stands for a row with one move
pub stands_self : {M : Type 0} (e : Entry M) → Stands e (row_of e)
stands_self e = record { mark = refl; place = refl; granted = (read_move e.numbers, tt) }

pub all_stand_self : {M : Type 0} (es : List (Entry M)) → AllStand es (map row_of es)
all_stand_self [] = tt
all_stand_self (e ∷ es) = (stands_self e, all_stand_self es)

pub same_count : {M : Type 0} (es : List (Entry M)) (bs : List (Row M)) → AllStand es bs → length bs ≡ length (map row_of es)
same_count [] [] s = refl
same_count [] (r ∷ bs) s = absurd s
same_count (e ∷ es) [] s = absurd s
same_count (e ∷ es) (r ∷ bs) s = ap suc (same_count es bs s.1)

-- ---- page points
page_in : (x : Float) → T (on_grid x) → T (on_page x) → (k : ℤ) × In x k 8 page
page_in x g h =
    let G = on_grid_only x g in
    let k = G.0 in
    let v : In x k 8 (nat_abs k) = record { val = G.1; size = let w : nat_abs k ≤ nat_abs k = omega arith in w } in
    (k, record { val = G.1; size = leb→le (nat_abs k) page (subst T (up_to_whole 4096 (lit≤ tt) v) h) })

pub record PagePoint (p : Point) : Type 0 where
  pub u : ℤ
  pub v : ℤ
  pub spot : Spot p u v page

pub page_point : (p : Point) → T (on_grid p.x && on_grid p.y) → T (on_page p.x && on_page p.y) → PagePoint p
page_point p g h =
    let X = page_in p.x (and_l (on_grid p.x) (on_grid p.y) g) (and_l (on_page p.x) (on_page p.y) h) in
    let Y = page_in p.y (and_r (on_grid p.x) (on_grid p.y) g) (and_r (on_page p.x) (on_page p.y) h) in
    record { u = X.0; v = Y.0; spot = record { x = X.1; y = Y.1 } }

-- an answer that agrees at page points
pub at_page : {X : Type 0} (p : Point) (a b : X) → (PagePoint p → a ≡ b) → at_page_point p a ≡ at_page_point p b
at_page {X} p a b f = grid (on_grid p.x && on_grid p.y) refl
  where
    paged : (c : Bool) → T (on_grid p.x && on_grid p.y) → on_page p.x && on_page p.y ≡ c → cond c (Ok a) (Err (OffPage None)) ≡ cond c (Ok b) (Err (OffPage None))
    paged true g e = ap Ok (f (page_point p g (passes (on_page p.x && on_page p.y) e)))
    paged false g e = refl

    grid : (c : Bool) → on_grid p.x && on_grid p.y ≡ c
        → cond c (cond (on_page p.x && on_page p.y) (Ok a) (Err (OffPage None))) (Err OffGrid) ≡ cond c (cond (on_page p.x && on_page p.y) (Ok b) (Err (OffPage None))) (Err OffGrid)
    grid true e = paged (on_page p.x && on_page p.y) (passes (on_grid p.x && on_grid p.y) e) refl
    grid false e = refl

-- windings are the same at equal points
abbrev pub SameWindings : {M : Type 0} → Marks M → Type 0
SameWindings {M} k = (m : M) (p q : Point) → Same p q → k.wind m q ≡ k.wind m p

module _ {M : Type 0} (k : Marks M) where
  -- ---- windings
  by_product : (mark : M) (ms : List Affine) (p : Point) → SameWindings k → Granted ms → PagePoint p → gives k p (row mark ms) ≡ sign (product_of ms) *ℤ k.wind mark (taken_back (product_of ms) p)
  by_product mark [] p law g P = absurd g
  by_product mark (m ∷ ms) p law g P =
      λ i. sym (signs_product m ms g.0 g.1) i *ℤ law mark _ _ (through_product m ms p P.u P.v g.0 g.1 P.spot) i

  pub gives_agree : (e : Entry M) (r : Row M) (p : Point) → SameWindings k → Stands e r → PagePoint p → gives k p r ≡ gives k p (row_of e)
  gives_agree e r p law s P =
      by_product r.mark r.moves p law s.granted P
      ∙ (λ i. sign (s.place i) *ℤ k.wind (s.mark i) (taken_back (s.place i) p))
      ∙ sym (by_product e.mark (read_as e.numbers ∷ []) p law (read_move e.numbers, tt) P)

  pub total_agree : (es : List (Entry M)) (bs : List (Row M)) (p : Point) → SameWindings k → AllStand es bs → PagePoint p → total k p bs ≡ total k p (map row_of es)
  total_agree [] [] p law s P = refl
  total_agree [] (r ∷ bs) p law s P = absurd s
  total_agree (e ∷ es) [] p law s P = absurd s
  total_agree (e ∷ es) (r ∷ bs) p law s P = λ i. gives_agree e r p law s.0 P i +ℤ total_agree es bs p law s.1 P i

  pub highest_agree : (es : List (Entry M)) (bs : List (Row M)) (p : Point) → SameWindings k → AllStand es bs → PagePoint p → highest k p bs ≡ highest k p (map row_of es)
  highest_agree [] [] p law s P = refl
  highest_agree [] (r ∷ bs) p law s P = absurd s
  highest_agree (e ∷ es) [] p law s P = absurd s
  highest_agree (e ∷ es) (r ∷ bs) p law s P = λ i. above (highest_agree es bs p law s.1 P i) (nonzero (gives_agree e r p law s.0 P i))

  -- ---- boxes
  box_agree : (e : Entry M) (r : Row M) → Stands e r → moved_box k r ≡ moved_box k (row_of e)
  box_agree e r s = λ i. image_box (s.place i) (k.frame (s.mark i))

  from_agree : (b c : Rect) (es : List (Entry M)) (bs : List (Row M)) → b ≡ c → AllStand es bs → union_from k b bs ≡ union_from k c (map row_of es)
  from_agree b c [] [] e s = e
  from_agree b c [] (r ∷ bs) e s = absurd s
  from_agree b c (d ∷ es) [] e s = absurd s
  from_agree b c (d ∷ es) (r ∷ bs) e s = from_agree (joined b (moved_box k r)) (joined c (moved_box k (row_of d))) es bs (λ i. joined (e i) (box_agree d r s.0 i)) s.1

  pub union_agree : (es : List (Entry M)) (bs : List (Row M)) → AllStand es bs → union_of k bs ≡ union_of k (map row_of es)
  union_agree [] [] s = refl
  union_agree [] (r ∷ bs) s = absurd s
  union_agree (e ∷ es) [] s = absurd s
  union_agree (e ∷ es) (r ∷ bs) s = ap Some (from_agree (moved_box k r) (moved_box k (row_of e)) es bs (box_agree e r s.0) s.1)

  -- ---- paths
  path_agree : (t : Float) (e : Entry M) (r : Row M) → Stands e r → row_drawn k t r ≡ row_drawn k t (row_of e)
  path_agree t e r s = λ i. placed_drawn (s.place i) (k.drawn (s.mark i) t)

  drawn_agree : (t : Float) (n : ℕ) (so to : Inked) (es : List (Entry M)) (bs : List (Row M)) → so ≡ to → AllStand es bs → drawn_from k t n so bs ≡ drawn_from k t n to (map row_of es)
  drawn_agree t n so to [] [] e s = e
  drawn_agree t n so to [] (r ∷ bs) e s = absurd s
  drawn_agree t n so to (d ∷ es) [] e s = absurd s
  drawn_agree t n so to (d ∷ es) (r ∷ bs) e s =
      drawn_agree t (n + 1) (then_drawn n so (row_drawn k t r)) (then_drawn n to (row_drawn k t (row_of d))) es bs (λ i. then_drawn n (e i) (path_agree t d r s.0 i)) s.1

  pub all_drawn_agree : (t : Float) (es : List (Entry M)) (bs : List (Row M)) → AllStand es bs → all_drawn k t bs ≡ all_drawn k t (map row_of es)
  all_drawn_agree t es bs s = ap (λ (so : Inked). cond (tolerable t) so (Err Tolerance)) (drawn_agree t 0 (Ok []) (Ok []) es bs refl s)

  pub put_agree : (n : ℕ) (es : List (Entry M)) (bs : List (Row M)) (mark : M) → AllStand es bs → put_answer k n bs mark ≡ put_answer k n (map row_of es) mark
  put_agree n es bs mark s =
      ap (λ (c : ℕ). cond (ltb c (usable n)) (cond (finite_sides (k.frame mark)) (Ok c) (Err NotFinite)) (Err Full)) (same_count es bs s)

-- ---- moves
stays_agree : {M : Type 0} (m : Affine) (e : Entry M) (r : Row M) → Stands e r → stays m r ≡ stays m (row_of e)
stays_agree m e r s = ap (λ (a : Affine). page_offset (product m a)) s.place

pub shift_agree : {M : Type 0} (i j : ℕ) (m : Affine) (es : List (Entry M)) (bs : List (Row M)) → AllStand es bs → shift_answer bs i j m ≡ shift_answer (map row_of es) i j m
shift_agree i j m [] [] s = refl
shift_agree i j m [] (r ∷ bs) s = absurd s
shift_agree i j m (e ∷ es) [] s = absurd s
shift_agree zero j m (e ∷ es) (r ∷ bs) s = ap (λ (b : Bool). cond b (Ok j) (Err (OffPage None))) (stays_agree m e r s.0)
shift_agree (suc i) j m (e ∷ es) (r ∷ bs) s = shift_agree i j m es bs s.1

pub leaving_agree : {M : Type 0} (i : ℕ) (m : Affine) (es : List (Entry M)) (bs : List (Row M)) → AllStand es bs → leaving i bs m ≡ leaving i (map row_of es) m
leaving_agree i m [] [] s = refl
leaving_agree i m [] (r ∷ bs) s = absurd s
leaving_agree i m (e ∷ es) [] s = absurd s
leaving_agree i m (e ∷ es) (r ∷ bs) s = λ j. cond (stays_agree m e r s.0 j) (leaving_agree (i + 1) m es bs s.1 j) (Some i)

pub shift_all_agree : {M : Type 0} (m : Affine) (es : List (Entry M)) (bs : List (Row M)) → AllStand es bs → shift_all_answer bs m ≡ shift_all_answer (map row_of es) m
shift_all_agree m es bs s = λ i. by_lowest (same_count es bs s i) (leaving_agree 0 m es bs s i)

pub lift_agree : {M : Type 0} (i : ℕ) (es : List (Entry M)) (bs : List (Row M)) → AllStand es bs → lift_answer bs i ≡ lift_answer (map row_of es) i
lift_agree i es bs s = ap (λ (n : ℕ). cond (ltb i n) (Ok (n - 1)) (Err NoMark)) (same_count es bs s)
