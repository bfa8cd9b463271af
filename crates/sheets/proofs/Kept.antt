-- What a call leaves stands for the rows that the book then has. Assumes nothing.
use Rattle.std.proofs.Common.{◌≡◌, ℕ, zero, suc, ◌+◌, Bool, true, false, cond, T, List, [], ◌∷◌, ◌++◌, map, Some, None, sym, refl, ap, ◌∙◌, subst}
use Rattle.std.specs.Bool.{passes}
use Rattle.plane.specs.declared.affine.Affine.{Affine}
use Rattle.plane.specs.Affines.{product}
use Rattle.layers.specs.Moves.{is_move, page_offset, unmoved, read_as}
use Rattle.layers.specs.Composed.{product_move}
use Rattle.layers.specs.Placed.{read_move}
use Rattle.sheets.specs.declared.sheet.Entry.{Entry}
use Rattle.sheets.specs.Book.{Row, row, joined_after, product_of, moved_on, stays, shift_rows, leaving, without}
use Rattle.sheets.specs.Tables.{entry, moved_entry, row_of, GrantedAfter, Granted, Stands, AllStand, alter}

-- ---- one move more
joined_more : (o m : Affine) (ms : List Affine) → joined_after o (ms ++ (m ∷ [])) ≡ product m (joined_after o ms)
joined_more o m [] = refl
joined_more o m (n ∷ ms) = joined_more (product n o) m ms

granted_more : (o m : Affine) (ms : List Affine) → GrantedAfter o ms → T (is_move m) → T (page_offset (product m (joined_after o ms))) → GrantedAfter o (ms ++ (m ∷ []))
granted_more o m [] g h s = (h, (s, tt))
granted_more o m (n ∷ ms) g h s = (g.0, (g.1.0, granted_more (product n o) m ms g.1.1 h s))

product_more : (m : Affine) (ms : List Affine) → Granted ms → product_of (ms ++ (m ∷ [])) ≡ product m (product_of ms)
product_more m [] g = absurd g
product_more m (o ∷ ms) g = joined_more o m ms

pub all_granted_more : (m : Affine) (ms : List Affine) → Granted ms → T (is_move m) → T (page_offset (product m (product_of ms))) → Granted (ms ++ (m ∷ []))
all_granted_more m [] g h s = absurd g
all_granted_more m (o ∷ ms) g h s = (g.0, granted_more o m ms g.1 h s)

-- a move is read as itself
pub read_self : (m : Affine) → T (is_move m) → read_as m ≡ m
read_self m h = go (is_move m) h
  where
    go : (b : Bool) → T b → cond b m unmoved ≡ m
    go true t = refl
    go false t = absurd t

pub moved_stands : {M : Type 0} (m : Affine) (e : Entry M) (r : Row M) → Stands e r → T (is_move m) → T (stays m r) → Stands (moved_entry m e) (moved_on m r)
moved_stands m e r s h g =
    let on : T (page_offset (product m (read_as e.numbers))) = subst (λ (a : Affine). T (page_offset (product m a))) s.place g in
    record {
      mark = s.mark;
      place = product_more m r.moves s.granted ∙ ap (product m) s.place ∙ sym (read_self (product m (read_as e.numbers)) (product_move m (read_as e.numbers) h (read_move e.numbers) on));
      granted = all_granted_more m r.moves s.granted h g;
    }

-- ---- the five ways to alter rows
pub put_stands : {M : Type 0} (mark : M) (m : Affine) → T (is_move m) → Stands (entry mark m) (row mark (m ∷ []))
put_stands mark m h = record { mark = refl; place = sym (read_self m h); granted = (h, tt) }

pub append_stand : {M : Type 0} (es ds : List (Entry M)) (bs cs : List (Row M)) → AllStand es bs → AllStand ds cs → AllStand (es ++ ds) (bs ++ cs)
append_stand [] ds [] cs s t = t
append_stand [] ds (r ∷ bs) cs s t = absurd s
append_stand (e ∷ es) ds [] cs s t = absurd s
append_stand (e ∷ es) ds (r ∷ bs) cs s t = (s.0, append_stand es ds bs cs s.1 t)

pub without_stand : {M : Type 0} (i : ℕ) (es : List (Entry M)) (bs : List (Row M)) → AllStand es bs → AllStand (without i es) (without i bs)
without_stand i [] [] s = tt
without_stand i [] (r ∷ bs) s = absurd s
without_stand i (e ∷ es) [] s = absurd s
without_stand zero (e ∷ es) (r ∷ bs) s = s.1
without_stand (suc i) (e ∷ es) (r ∷ bs) s = (s.0, without_stand i es bs s.1)

-- a shift where it is granted
abbrev pub shift_entry : {M : Type 0} → Affine → Entry M → Entry M
shift_entry m e = cond (stays m (row_of e)) (moved_entry m e) e

one_stands : {M : Type 0} (m : Affine) (e : Entry M) (r : Row M) → T (is_move m) → Stands e r → Stands (shift_entry m e) (cond (stays m r) (moved_on m r) r)
one_stands {M} m e r h s = subst (λ (b : Bool). Stands (cond b (moved_entry m e) e) (cond (stays m r) (moved_on m r) r)) (ap (λ (a : Affine). page_offset (product m a)) s.place) (go (stays m r) refl)
  where
    go : (b : Bool) → stays m r ≡ b → Stands (cond b (moved_entry m e) e) (cond b (moved_on m r) r)
    go true e' = moved_stands m e r s h (passes (stays m r) e')
    go false e' = s

pub shift_stand : {M : Type 0} (i : ℕ) (m : Affine) (es : List (Entry M)) (bs : List (Row M)) → T (is_move m) → AllStand es bs → AllStand (alter i (shift_entry m) es) (shift_rows bs i m)
shift_stand i m [] [] h s = tt
shift_stand i m [] (r ∷ bs) h s = absurd s
shift_stand i m (e ∷ es) [] h s = absurd s
shift_stand zero m (e ∷ es) (r ∷ bs) h s = (one_stands m e r h s.0, s.1)
shift_stand (suc i) m (e ∷ es) (r ∷ bs) h s = (s.0, shift_stand i m es bs h s.1)

-- all of them, where none leaves the page
pub all_stay : {M : Type 0} (n : ℕ) (m : Affine) (es : List (Entry M)) (bs : List (Row M)) → T (is_move m) → AllStand es bs → leaving n bs m ≡ None → AllStand (map (moved_entry m) es) (map (moved_on m) bs)
all_stay n m [] [] h s l = tt
all_stay n m [] (r ∷ bs) h s l = absurd s
all_stay n m (e ∷ es) [] h s l = absurd s
all_stay {M} n m (e ∷ es) (r ∷ bs) h s l = go (stays m r) refl l (λ k. all_stay (n + 1) m es bs h s.1 k)
  where
    go : (b : Bool) → stays m r ≡ b → cond b (leaving (n + 1) bs m) (Some n) ≡ None → (leaving (n + 1) bs m ≡ None → AllStand (map (moved_entry m) es) (map (moved_on m) bs))
        → AllStand (map (moved_entry m) (e ∷ es)) (map (moved_on m) (r ∷ bs))
    go true q k rec = (moved_stands m e r s.0 h (passes (stays m r) q), rec k)
    go false q k rec = cc
