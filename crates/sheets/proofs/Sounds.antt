-- The rows of a book that began empty are sound: marks lie in the box, the uppermost is named, and drawings are made of the marks' paths. Assumes nothing.
use Rattle.std.proofs.Common.{◌≡◌, ℕ, zero, suc, ◌+◌, ◌≤◌, Bool, true, false, cond, T, ltb, ◌⊎◌, List, [], ◌∷◌, ◌++◌, map, length, ℤ, pos, negsuc, ◌-ℤ◌, nat_abs, Some, None, Ok, Err, Option, sym, refl, ap, ◌∙◌, subst, inl, inr, append_assoc, append-nil, add-one, arith}
use lib.Ieee.{Float}
use Rattle.std.specs.Bool.{passes}
use Rattle.plane.specs.declared.affine.Affine.{Affine}
use Rattle.plane.specs.declared.bezpath.PathEl.{PathEl}
use Rattle.plane.specs.declared.point.Point.{Point}
use Rattle.plane.specs.declared.rect.Rect.{Rect}
use Rattle.plane.specs.Affines.{image_el}
use Rattle.plane.specs.Paths.{Formed, Drawn, WellDrawn, tolerable}
use Rattle.plane.specs.Points.{GridPoint, FieldPoint, Same, FiniteBox, InBox}
use Rattle.plane.specs.Rects.{joined, finite_sides}
use Rattle.plane.specs.Winding.{nonzero}
use Rattle.layers.specs.Moves.{is_move, taken_back}
use Rattle.layers.specs.Placings.{placed_drawn}
use Rattle.layers.specs.Turns.{hind_x, hind_y}
use Rattle.layers.specs.Whole.{page, whole_of, resized}
use Rattle.layers.specs.Products.{back_spot}
use Rattle.layers.specs.Composed.{forward_back}
use Rattle.layers.specs.Boxes.{Numbered, finite_box, in_first, in_second, joined_numbered}
use Rattle.layers.specs.Placed.{image_holds, image_numbered, factor}
use Rattle.layers.specs.Formed.{moved_formed, both_formed}
use Rattle.sheets.specs.declared.fault.SheetFault.{SheetFault}
use Rattle.sheets.specs.declared.fault.SheetFault.TheVariants.{Tolerance, Path}
use Rattle.sheets.specs.declared.order.Order.{Order}
use Rattle.sheets.specs.declared.order.Order.TheVariants.{Put, Shift, ShiftAll, Lift, Winding, Top, BoundingBox, Draw}
use Rattle.sheets.specs.Book.{Marks, Row, row, usable, joined_after, product_of, through, signs, gives, stays, moved_on, put_rows, shift_rows, leaving, by_lowest_rows, shift_all_rows, without, above, highest, moved_box, union_from, union_of, then_drawn, drawn_from, all_drawn}
use Rattle.sheets.specs.Tables.{Granted}
use Rattle.sheets.specs.Runs.{after, ends}
use Rattle.sheets.specs.Sound.{Holds, HoldsNone, HighestAt, Uppermost, Pieces, Sound}
use Rattle.sheets.proofs.Through.{through_product, joined_move}
use Rattle.sheets.proofs.Agree.{PagePoint, page_point}
use Rattle.sheets.proofs.Kept.{all_granted_more}

-- ---- the laws of a kind of mark
pub record LawsOf {M : Type 0} (k : Marks M) : Type 0 where
  pub same : (m : M) (p q : Point) → Same p q → k.wind m q ≡ k.wind m p
  pub boxed : (m : M) (p : Point) → FiniteBox (k.frame m) → FieldPoint p → (k.wind m p ≡ pos 0 → ⊥) → InBox (k.frame m) p
  pub formed : (m : M) (t : Float) → WellDrawn (k.drawn m t)

-- those of a shape
pub laws : {M : Type 0} {k : Marks M} → ((m : M) (p q : Point) → Same p q → k.wind m q ≡ k.wind m p)
    → ((m : M) (p : Point) → FiniteBox (k.frame m) → FieldPoint p → (k.wind m p ≡ pos 0 → ⊥) → InBox (k.frame m) p) → ((m : M) (t : Float) → WellDrawn (k.drawn m t)) → LawsOf k
laws same boxed formed = record { same = same; boxed = boxed; formed = formed }

module _ {M : Type 0} (k : Marks M) where
  -- ---- what every row keeps: its moves were granted, and its mark's box is finite
  abbrev pub Keeps : Row M → Type 0
  Keeps r = Granted r.moves × T (finite_sides (k.frame r.mark))

  abbrev pub AllKeep : List (Row M) → Type 0
  AllKeep [] = Unit {0}
  AllKeep (r ∷ bs) = Keeps r × AllKeep bs

  keep_append : (bs cs : List (Row M)) → AllKeep bs → AllKeep cs → AllKeep (bs ++ cs)
  keep_append [] cs s t = t
  keep_append (r ∷ bs) cs s t = (s.0, keep_append bs cs s.1 t)

  keep_without : (i : ℕ) (bs : List (Row M)) → AllKeep bs → AllKeep (without i bs)
  keep_without i [] s = tt
  keep_without zero (r ∷ bs) s = s.1
  keep_without (suc i) (r ∷ bs) s = (s.0, keep_without i bs s.1)

  keeps_on : (m : Affine) (r : Row M) → T (is_move m) → Keeps r → T (stays m r) → Keeps (moved_on m r)
  keeps_on m r h s g = (all_granted_more m r.moves s.0 h g, s.1)

  keep_shift : (i : ℕ) (m : Affine) (bs : List (Row M)) → T (is_move m) → AllKeep bs → AllKeep (shift_rows bs i m)
  keep_shift i m [] h s = tt
  keep_shift zero m (r ∷ bs) h s = (go (stays m r) refl, s.1)
    where
      go : (b : Bool) → stays m r ≡ b → Keeps (cond b (moved_on m r) r)
      go true e = keeps_on m r h s.0 (passes (stays m r) e)
      go false e = s.0
  keep_shift (suc i) m (r ∷ bs) h s = (s.0, keep_shift i m bs h s.1)

  keep_all : (n : ℕ) (m : Affine) (bs : List (Row M)) → T (is_move m) → AllKeep bs → leaving n bs m ≡ None → AllKeep (map (moved_on m) bs)
  keep_all n m [] h s l = tt
  keep_all n m (r ∷ bs) h s l = go (stays m r) refl l (λ g. keep_all (n + 1) m bs h s.1 g)
    where
      go : (b : Bool) → stays m r ≡ b → cond b (leaving (n + 1) bs m) (Some n) ≡ None → (leaving (n + 1) bs m ≡ None → AllKeep (map (moved_on m) bs)) → AllKeep (map (moved_on m) (r ∷ bs))
      go true e q rec = (keeps_on m r h s.0 (passes (stays m r) e), rec q)
      go false e q rec = cc

  keep_shift_all : (m : Affine) (bs : List (Row M)) → T (is_move m) → AllKeep bs → AllKeep (shift_all_rows bs m)
  keep_shift_all m bs h s = go (leaving 0 bs m) refl
    where
      go : (o : Option ℕ) → leaving 0 bs m ≡ o → AllKeep (by_lowest_rows bs m o)
      go None e = keep_all 0 m bs h s e
      go (Some i) e = s

  keep_put : (n : ℕ) (bs : List (Row M)) (mark : M) (m : Affine) → T (is_move m) → AllKeep bs → AllKeep (put_rows k n bs mark m)
  keep_put n bs mark m h s = go (ltb (length bs) (usable n)) (finite_sides (k.frame mark)) refl
    where
      go : (a b : Bool) → finite_sides (k.frame mark) ≡ b → AllKeep (cond a (cond b (bs ++ (row mark (m ∷ []) ∷ [])) bs) bs)
      go true true e = keep_append bs (row mark (m ∷ []) ∷ []) s (((h, tt), passes (finite_sides (k.frame mark)) e), tt)
      go true false e = s
      go false b e = s

  keep_after : (n : ℕ) (bs : List (Row M)) (o : Order M) → AllKeep bs → AllKeep (after k n bs o)
  keep_after n bs (Put mark m) s = keep_put n bs mark m.map m.lawful s
  keep_after n bs (Shift i m) s = keep_shift i m.map bs m.lawful s
  keep_after n bs (ShiftAll m) s = keep_shift_all m.map bs m.lawful s
  keep_after n bs (Lift i) s = keep_without i bs s
  keep_after n bs (Winding p) s = s
  keep_after n bs (Top p) s = s
  keep_after n bs BoundingBox s = s
  keep_after n bs (Draw t) s = s

  pub keep_ends : (n : ℕ) (bs : List (Row M)) (os : List (Order M)) → AllKeep bs → AllKeep (ends k n bs os)
  keep_ends n bs [] s = s
  keep_ends n bs (o ∷ os) s = keep_ends n (after k n bs o) os (keep_after n bs o s)

  -- ---- the box of a row holds what the row holds
  paged : (p : Point) (P : PagePoint p) → GridPoint p P.u P.v
  paged p P = record {
    x = resized 8388608 (let h : nat_abs P.u ≤ page = P.spot.x.size in omega arith) P.spot.x;
    y = resized 8388608 (let h : nat_abs P.v ≤ page = P.spot.y.size in omega arith) P.spot.y;
  }

  row_boxed : LawsOf k → (mark : M) (ms : List Affine) (p : Point) → PagePoint p → Keeps (row mark ms) → (gives k p (row mark ms) ≡ pos 0 → ⊥) → InBox (moved_box k (row mark ms)) p
  row_boxed law mark [] p P s n = absurd s.0
  row_boxed law mark (o ∷ ms) p P s n =
      let h = joined_move o ms s.0.0 s.0.1 in
      let m = joined_after o ms in
      let W = whole_of m h in
      let q = taken_back m p in
      let u = P.u in
      let v = P.v in
      let moved = law.same mark q (through (o ∷ ms) p) (through_product o ms p u v s.0.0 s.0.1 P.spot) in
      let winds : k.wind mark q ≡ pos 0 → ⊥ = λ e. factor (signs (o ∷ ms)) (k.wind mark (through (o ∷ ms) p)) n (moved ∙ e) in
      let S = back_spot m p W.0 W.1 W.2 u v page page (tt, tt) W.3 P.spot in
      let Q : GridPoint q (hind_x W.0 (u -ℤ W.1) (v -ℤ W.2)) (hind_y W.0 (u -ℤ W.1) (v -ℤ W.2)) = record {
        x = resized 8388608 (let z : nat_abs (hind_x W.0 (u -ℤ W.1) (v -ℤ W.2)) ≤ page + page = S.x.size in omega arith) S.x;
        y = resized 8388608 (let z : nat_abs (hind_y W.0 (u -ℤ W.1) (v -ℤ W.2)) ≤ page + page = S.y.size in omega arith) S.y;
      } in
      let F = finite_box (k.frame mark) s.1 in
      image_holds m (k.frame mark) q p _ _ u v h F (law.boxed mark q F (_, _, Q) winds) Q (forward_back m p u v h (paged p P)) (paged p P)

  row_numbered : (mark : M) (ms : List Affine) → Keeps (row mark ms) → Numbered (moved_box k (row mark ms))
  row_numbered mark [] s = absurd s.0
  row_numbered mark (o ∷ ms) s = image_numbered (joined_after o ms) (k.frame mark) (joined_move o ms s.0.0 s.0.1) (finite_box (k.frame mark) s.1)

  union_holds : LawsOf k → (b : Rect) (bs : List (Row M)) (p : Point) → PagePoint p → AllKeep bs → Numbered b → InBox b p ⊎ Holds k p bs → InBox (union_from k b bs) p
  union_holds law b [] p P s B (inl h) = h
  union_holds law b [] p P s B (inr h) = absurd h
  union_holds law b (r ∷ bs) p P s B (inl h) =
      let C = row_numbered r.mark r.moves s.0 in
      union_holds law (joined b (moved_box k r)) bs p P s.1 (joined_numbered b (moved_box k r) B C) (inl (in_first b (moved_box k r) p B C h))
  union_holds law b (r ∷ bs) p P s B (inr (inl n)) =
      let C = row_numbered r.mark r.moves s.0 in
      union_holds law (joined b (moved_box k r)) bs p P s.1 (joined_numbered b (moved_box k r) B C) (inl (in_second b (moved_box k r) p B C (row_boxed law r.mark r.moves p P s.0 n)))
  union_holds law b (r ∷ bs) p P s B (inr (inr h)) =
      let C = row_numbered r.mark r.moves s.0 in
      union_holds law (joined b (moved_box k r)) bs p P s.1 (joined_numbered b (moved_box k r) B C) (inr h)

  boxed : LawsOf k → (bs : List (Row M)) (p : Point) → PagePoint p → AllKeep bs → Holds k p bs → (b : Rect) × (union_of k bs ≡ Some b) × InBox b p
  boxed law [] p P s h = absurd h
  boxed law (r ∷ bs) p P s (inl n) = (union_from k (moved_box k r) bs, refl, union_holds law (moved_box k r) bs p P s.1 (row_numbered r.mark r.moves s.0) (inl (row_boxed law r.mark r.moves p P s.0 n)))
  boxed law (r ∷ bs) p P s (inr h) = (union_from k (moved_box k r) bs, refl, union_holds law (moved_box k r) bs p P s.1 (row_numbered r.mark r.moves s.0) (inr h))

  -- ---- the uppermost
  naught : (w : ℤ) → nonzero w ≡ false → w ≡ pos 0
  naught (pos zero) e = refl
  naught (pos (suc n)) e = cc
  naught (negsuc n) e = cc

  not_naught : (w : ℤ) → nonzero w ≡ true → w ≡ pos 0 → ⊥
  not_naught w e d =
      let f : false ≡ true = sym (ap nonzero d) ∙ e in
      let z : ◌≡◌ {A = ℕ} 0 1 = cc in
      omega arith

  topped : (p : Point) (bs : List (Row M)) → Uppermost k p bs (highest k p bs)
  topped p [] = tt
  topped p (r ∷ bs) = go (highest k p bs) (topped p bs)
    where
      none : (b : Bool) → nonzero (gives k p r) ≡ b → HoldsNone k p bs → Uppermost k p (r ∷ bs) (cond b (Some 0) None)
      none true e h = (not_naught (gives k p r) e, h)
      none false e h = (naught (gives k p r) e, h)

      go : (o : Option ℕ) → Uppermost k p bs o → Uppermost k p (r ∷ bs) (above o (nonzero (gives k p r)))
      go None h = none (nonzero (gives k p r)) refl h
      go (Some i) h = subst (HighestAt k p (r ∷ bs)) (sym (add-one i)) h

  -- and no other answer is right
  none_highest : (p : Point) (bs : List (Row M)) (i : ℕ) → HoldsNone k p bs → HighestAt k p bs i → ⊥
  none_highest p [] i n h = h
  none_highest p (r ∷ bs) zero n h = h.0 n.0
  none_highest p (r ∷ bs) (suc i) n h = none_highest p bs i n.1 h

  same_highest : (p : Point) (bs : List (Row M)) (i j : ℕ) → HighestAt k p bs i → HighestAt k p bs j → i ≡ j
  same_highest p [] i j h g = absurd h
  same_highest p (r ∷ bs) zero zero h g = refl
  same_highest p (r ∷ bs) zero (suc j) h g = absurd (none_highest p bs j h.1 g)
  same_highest p (r ∷ bs) (suc i) zero h g = absurd (none_highest p bs i g.1 h)
  same_highest p (r ∷ bs) (suc i) (suc j) h g = ap suc (same_highest p bs i j h g)

  one_uppermost : (p : Point) (bs : List (Row M)) (a b : Option ℕ) → Uppermost k p bs a → Uppermost k p bs b → a ≡ b
  one_uppermost p bs None None h g = refl
  one_uppermost p bs None (Some j) h g = absurd (none_highest p bs j h g)
  one_uppermost p bs (Some i) None h g = absurd (none_highest p bs i g h)
  one_uppermost p bs (Some i) (Some j) h g = ap Some (same_highest p bs i j h g)

  pub only_topped : (p : Point) (bs : List (Row M)) (o : Option ℕ) → Uppermost k p bs o → o ≡ highest k p bs
  only_topped p bs o h = one_uppermost p bs o (highest k p bs) h (topped p bs)

  -- ---- drawings
  from_err : (t : Float) (i : ℕ) (f : SheetFault) (bs : List (Row M)) → drawn_from k t i (Err f) bs ≡ Err f
  from_err t i f [] = refl
  from_err t i f (r ∷ bs) = from_err t (i + 1) f bs

  pieces_from : (t : Float) (i : ℕ) (so els : List PathEl) (bs : List (Row M)) → drawn_from k t i (Ok so) bs ≡ Ok els → (rest : List PathEl) × (els ≡ so ++ rest) × Pieces k t bs rest
  pieces_from t i so els [] e = let d : so ≡ els = cc in ([], sym d ∙ sym (append-nil so), refl)
  pieces_from t i so els (r ∷ bs) e = go (k.drawn r.mark t) refl e (λ more g. pieces_from t (i + 1) (so ++ more) els bs g)
    where
      f : List PathEl → List PathEl
      f own = map (image_el (product_of r.moves)) own

      go : (d : Drawn) → k.drawn r.mark t ≡ d → drawn_from k t (i + 1) (then_drawn i (Ok so) (placed_drawn (product_of r.moves) d)) bs ≡ Ok els
          → ((more : List PathEl) → drawn_from k t (i + 1) (Ok (so ++ more)) bs ≡ Ok els → (rest : List PathEl) × (els ≡ (so ++ more) ++ rest) × Pieces k t bs rest)
          → (rest : List PathEl) × (els ≡ so ++ rest) × Pieces k t (r ∷ bs) rest
      go (Ok own) q g rec =
          let w = rec (f own) g in
          (f own ++ w.0, w.1 ∙ append_assoc so (f own) w.0, (own, w.0, q, refl, w.2))
      go (Err x) q g rec = let y = from_err t (i + 1) (Path (record { position = i; fault = x })) bs in cc

  well : (d : Drawn) (own : List PathEl) → d ≡ Ok own → WellDrawn d → Formed own
  well d own e h = subst WellDrawn e h

  pieces_formed : LawsOf k → (t : Float) (bs : List (Row M)) (els : List PathEl) → Pieces k t bs els → Formed els
  pieces_formed law t [] els e = subst Formed (sym e) tt
  pieces_formed law t (r ∷ bs) els (own, rest, q, e, more) =
      subst Formed (sym e) (both_formed false (map (image_el (product_of r.moves)) own) rest (moved_formed (product_of r.moves) false own (well (k.drawn r.mark t) own q (law.formed r.mark t))) (pieces_formed law t bs rest more))

  drawn : LawsOf k → (bs : List (Row M)) (t : Float) (els : List PathEl) → all_drawn k t bs ≡ Ok els → Pieces k t bs els × Formed els
  drawn law bs t els e = go (tolerable t) e
    where
      go : (b : Bool) → cond b (drawn_from k t 0 (Ok []) bs) (Err Tolerance) ≡ Ok els → Pieces k t bs els × Formed els
      go true g =
          let w = pieces_from t 0 [] els bs g in
          let P = subst (Pieces k t bs) (sym w.1) w.2 in
          (P, pieces_formed law t bs els P)
      go false g = cc

  pub sound : LawsOf k → (bs : List (Row M)) → AllKeep bs → Sound k bs
  sound law bs s = record {
    boxed = λ p on h. boxed law bs p (page_point p on.0 on.1) s h;
    topped = λ p on. topped p bs;
    drawn = drawn law bs;
  }
