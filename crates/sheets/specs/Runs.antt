-- What the book answers to a list of orders, what rows and what buffer it leaves, and each call of a sheet at any moment. Assumes nothing.
use Rattle.std.specs.Prelude.{◌≡◌, ℕ, ◌+◌, ◌-◌, List, [], ◌∷◌, ◌++◌, length, Ok, Err, Result}
use Rattle.plane.specs.declared.bezpath.PathEl.{PathEl}
use Rattle.sheets.specs.declared.fault.SheetFault.{SheetFault}
use Rattle.sheets.specs.declared.order.Order.{Order}
use Rattle.sheets.specs.declared.order.Order.TheVariants.{Put, Shift, ShiftAll, Lift, Winding, Top, BoundingBox, Draw}
use Rattle.sheets.specs.declared.order.Answer.{Answer}
use Rattle.sheets.specs.declared.order.Answer.TheVariants as said
use Rattle.sheets.specs.declared.sheet.Entry.{Entry}
use Rattle.sheets.specs.declared.sheet.Sheet.{Sheet}
use Rattle.sheets.specs.Book.{Marks, Row, put_answer, put_rows, shift_answer, shift_rows, shift_all_answer, shift_all_rows, lift_answer, lift_rows, at_page_point, total, highest, union_of, all_drawn, draw_answer, draw_buffer}
use Rattle.sheets.specs.Tables.{StandsFor, counting, held, rows, where_granted, put_table, moved_entry, alter, shift_all_table, lift_table}
use Rattle.sheets.specs.Sound.{Sound}

-- ---- answers by their kind
-- what was granted, under the name of its kind; or the refusal
abbrev pub answered : {X : Type 0} → (X → Answer) → Result X SheetFault → Answer
answered named (Ok x) = named x
answered named (Err f) = said.Refused f

-- ---- one order, to a book that is fed the table's length n and the places of the buffer
abbrev pub reply : {M : Type 0} → Marks M → ℕ → ℕ → List (Row M) → Order M → Answer
reply k n places bs (Put mark m) = answered said.Position (put_answer k n bs mark)
reply k n places bs (Shift i m) = answered said.Position (shift_answer bs i i m.map)
reply k n places bs (ShiftAll m) = answered said.Marks (shift_all_answer bs m.map)
reply k n places bs (Lift i) = answered said.Marks (lift_answer bs i)
reply k n places bs (Winding p) = answered said.Winding (at_page_point p (total k p bs))
reply k n places bs (Top p) = answered said.Top (at_page_point p (highest k p bs))
reply k n places bs BoundingBox = said.Box (union_of k bs)
reply k n places bs (Draw t) = answered said.Elements (draw_answer places (all_drawn k t bs))

-- the rows afterwards
abbrev pub after : {M : Type 0} → Marks M → ℕ → List (Row M) → Order M → List (Row M)
after k n bs (Put mark m) = put_rows k n bs mark m.map
after k n bs (Shift i m) = shift_rows bs i m.map
after k n bs (ShiftAll m) = shift_all_rows bs m.map
after k n bs (Lift i) = lift_rows bs i
after k n bs (Winding p) = bs
after k n bs (Top p) = bs
after k n bs BoundingBox = bs
after k n bs (Draw t) = bs

-- the buffer afterwards
abbrev pub inked : {M : Type 0} → Marks M → List (Row M) → List PathEl → Order M → List PathEl
inked k bs buffer (Put mark m) = buffer
inked k bs buffer (Shift i m) = buffer
inked k bs buffer (ShiftAll m) = buffer
inked k bs buffer (Lift i) = buffer
inked k bs buffer (Winding p) = buffer
inked k bs buffer (Top p) = buffer
inked k bs buffer BoundingBox = buffer
inked k bs buffer (Draw t) = draw_buffer buffer (all_drawn k t bs)

-- ---- a list of orders
abbrev pub replies : {M : Type 0} → Marks M → ℕ → ℕ → List (Row M) → List (Order M) → List Answer
replies k n places bs [] = []
replies k n places bs (o ∷ os) = reply k n places bs o ∷ replies k n places (after k n bs o) os

abbrev pub ends : {M : Type 0} → Marks M → ℕ → List (Row M) → List (Order M) → List (Row M)
ends k n bs [] = bs
ends k n bs (o ∷ os) = ends k n (after k n bs o) os

abbrev pub page : {M : Type 0} → Marks M → ℕ → List (Row M) → List PathEl → List (Order M) → List PathEl
page k n bs buffer [] = buffer
page k n bs buffer (o ∷ os) = page k n (after k n bs o) (inked k bs buffer o) os

-- ---- the record and the table themselves, whole
abbrev pub sheet_after : {M : Type 0} → Marks M → Sheet → List (Entry M) → Order M → Sheet
sheet_after k s t (Put mark m) = where_granted (put_answer k (length t) (rows s t) mark) (counting (held s t + 1)) s
sheet_after k s t (Shift i m) = s
sheet_after k s t (ShiftAll m) = s
sheet_after k s t (Lift i) = where_granted (lift_answer (rows s t) i) (counting (held s t - 1)) s
sheet_after k s t (Winding p) = s
sheet_after k s t (Top p) = s
sheet_after k s t BoundingBox = s
sheet_after k s t (Draw tolerance) = s

abbrev pub table_after : {M : Type 0} → Marks M → Sheet → List (Entry M) → Order M → List (Entry M)
table_after k s t (Put mark m) = where_granted (put_answer k (length t) (rows s t) mark) (put_table s t mark m.map) t
table_after k s t (Shift i m) = where_granted (shift_answer (rows s t) i i m.map) (alter i (moved_entry m.map) t) t
table_after k s t (ShiftAll m) = where_granted (shift_all_answer (rows s t) m.map) (shift_all_table s t m.map) t
table_after k s t (Lift i) = where_granted (lift_answer (rows s t) i) (lift_table s t i) t
table_after k s t (Winding p) = t
table_after k s t (Top p) = t
table_after k s t BoundingBox = t
table_after k s t (Draw tolerance) = t

abbrev pub left : {M : Type 0} → Marks M → Sheet × List (Entry M) → List (Order M) → Sheet × List (Entry M)
left k st [] = st
left k st (o ∷ os) = left k (sheet_after k st.0 st.1 o, table_after k st.0 st.1 o) os

-- ---- the book's share
-- one order: for all rows that sheet and table stand for, the answer and the buffer are the book's, and what is left stands for the book's next rows
abbrev pub FollowedByBook : {M : Type 0} → Marks M → Sheet → List (Entry M) → List PathEl → Order M → Answer → Sheet → List (Entry M) → List PathEl → Type 0
FollowedByBook {M} k s t buffer o r s' t' buffer' =
    (bs : List (Row M)) → StandsFor s t bs
    → (r ≡ reply k (length t) (length buffer) bs o) × (StandsFor s' t' (after k (length t) bs o) × (buffer' ≡ inked k bs buffer o))

-- a list of orders, as many as there are places for answers
abbrev pub RunByBook : {M : Type 0} → Marks M → Sheet → List (Entry M) → List PathEl → List (Order M) → List Answer → Sheet → List (Entry M) → List PathEl → Type 0
RunByBook {M} k s t buffer os answers s' t' buffer' =
    (bs : List (Row M)) → StandsFor s t bs
    → (answers ≡ replies k (length t) (length buffer) bs os) × (StandsFor s' t' (ends k (length t) bs os) × (buffer' ≡ page k (length t) bs buffer os))

-- a list of orders from the opening on: answers and buffer are the book's, what is left stands for its rows, so that the next call is answered by the book too, and the rows are sound after every first part of the list
pub record BookOf {M : Type 0} (k : Marks M) (t : List (Entry M)) (buffer : List PathEl) (os : List (Order M)) (answers : List Answer) (s' : Sheet) (t' : List (Entry M)) (buffer' : List PathEl) : Type 0 where
  pub answered : answers ≡ replies k (length t) (length buffer) [] os
  pub drawn : buffer' ≡ page k (length t) [] buffer os
  pub stands : StandsFor s' t' (ends k (length t) [] os)
  pub sound : (front rest : List (Order M)) → os ≡ front ++ rest → Sound k (ends k (length t) [] front)

-- ---- one call after any history
-- how a sheet and a table stand after these calls, where the sheet was opened over a table of this length, whatever it held, and nothing but these calls came since: for the book's rows after them
abbrev pub After : {M : Type 0} → Marks M → List (Order M) → Sheet → List (Entry M) → Type 0
After k os s t = StandsFor s t (ends k (length t) [] os)

-- one call after these: its answer and the buffer are the book's, what is left stands after one call more, and the rows that it met are sound
pub record MomentOf {M : Type 0} (k : Marks M) (os : List (Order M)) (t : List (Entry M)) (buffer : List PathEl) (o : Order M) (r : Answer) (s' : Sheet) (t' : List (Entry M)) (buffer' : List PathEl) : Type 0 where
  pub answered : r ≡ reply k (length t) (length buffer) (ends k (length t) [] os) o
  pub drawn : buffer' ≡ inked k (ends k (length t) [] os) buffer o
  pub stands : After k (os ++ (o ∷ [])) s' t'
  pub sound : Sound k (ends k (length t) [] os)

-- whatever calls came before
abbrev pub AtEachMoment : {M : Type 0} → Marks M → Sheet → List (Entry M) → List PathEl → Order M → Answer → Sheet → List (Entry M) → List PathEl → Type 0
AtEachMoment {M} k s t buffer o r s' t' buffer' = (os : List (Order M)) → After k os s t → MomentOf k os t buffer o r s' t' buffer'
