-- What a table and a sheet's record stand for: which rows of the book. Assumes nothing.
use Rattle.std.specs.Prelude.{◌≡◌, ℕ, zero, suc, ◌-◌, min, T, List, [], ◌∷◌, ◌++◌, map, length, take, drop, Ok, Err, Result, slice_set, Float}
use Rattle.plane.specs.declared.affine.Affine.{Affine}
use Rattle.plane.specs.declared.bezpath.PathEl.{PathEl}
use Rattle.plane.specs.Affines.{product}
use Rattle.layers.specs.Moves.{is_move, page_offset, read_as}
use Rattle.sheets.specs.declared.sheet.Entry.{Entry}
use Rattle.sheets.specs.declared.sheet.Sheet.{Sheet}
use Rattle.sheets.specs.declared.fault.SheetFault.{SheetFault}
use Rattle.sheets.specs.Book.{Marks, Row, row, product_of, usable, put_answer, put_rows, shift_answer, shift_rows, shift_all_answer, shift_all_rows, without, lift_answer, lift_rows, all_drawn, draw_answer, draw_buffer}

abbrev pub entry : {M : Type 0} → M → Affine → Entry M
entry mark m = record { mark = mark; numbers = m }

abbrev pub counting : ℕ → Sheet
counting n = record { count = n }

-- how many marks there are: a count above the usable entries is read as those entries
abbrev pub held : {M : Type 0} → Sheet → List (Entry M) → ℕ
held s t = min s.count (usable (length t))

-- the entries in use
abbrev pub used : {M : Type 0} → Sheet → List (Entry M) → List (Entry M)
used s t = take (held s t) t

-- ---- rows
-- an entry by itself is a row with one move, as its numbers are read
abbrev pub row_of : {M : Type 0} → Entry M → Row M
row_of e = row e.mark (read_as e.numbers ∷ [])

-- the rows that any table and record stand for, whatever was done before
abbrev pub rows : {M : Type 0} → Sheet → List (Entry M) → List (Row M)
rows s t = map row_of (used s t)

-- ---- which rows of the book they stand for
-- after a move p, these moves were granted one after the other: each product stayed on the page
abbrev pub GrantedAfter : Affine → List Affine → Type 0
GrantedAfter p [] = Unit {0}
GrantedAfter p (m ∷ ms) = T (is_move m) × (T (page_offset (product m p)) × GrantedAfter (product m p) ms)

abbrev pub Granted : List Affine → Type 0
Granted [] = ⊥
Granted (m ∷ ms) = T (is_move m) × GrantedAfter m ms

-- an entry stands for a row: the same mark, and the numbers are the product of moves that were granted
pub record Stands {M : Type 0} (e : Entry M) (r : Row M) : Type 0 where
  pub mark : r.mark ≡ e.mark
  pub place : product_of r.moves ≡ read_as e.numbers
  pub granted : Granted r.moves

abbrev pub AllStand : {M : Type 0} → List (Entry M) → List (Row M) → Type 0
AllStand [] [] = Unit {0}
AllStand [] (r ∷ bs) = ⊥
AllStand (e ∷ es) [] = ⊥
AllStand (e ∷ es) (r ∷ bs) = Stands e r × AllStand es bs

abbrev pub StandsFor : {M : Type 0} → Sheet → List (Entry M) → List (Row M) → Type 0
StandsFor s t bs = AllStand (used s t) bs

-- ---- what is left after a call
-- what a call makes where it is granted; what it refuses, it leaves as it was
abbrev pub where_granted : {X : Type 0} → Result ℕ SheetFault → X → X → X
where_granted (Ok n) after before = after
where_granted (Err f) after before = before

-- one more on top
abbrev pub put_table : {M : Type 0} → Sheet → List (Entry M) → M → Affine → List (Entry M)
put_table s t mark m = slice_set t (held s t) (entry mark m)

-- an entry moved by m
abbrev pub moved_entry : {M : Type 0} → Affine → Entry M → Entry M
moved_entry m e = entry e.mark (product m (read_as e.numbers))

-- one element altered
abbrev pub alter : {X : Type 0} → ℕ → (X → X) → List X → List X
alter i f [] = []
alter zero f (x ∷ xs) = f x ∷ xs
alter (suc i) f (x ∷ xs) = x ∷ alter i f xs

-- each entry in use moved, and the others as they were
abbrev pub shift_all_table : {M : Type 0} → Sheet → List (Entry M) → Affine → List (Entry M)
shift_all_table s t m = map (moved_entry m) (used s t) ++ drop (held s t) t

-- the entries above i one down; the last one in use keeps its content
abbrev pub lift_table : {M : Type 0} → Sheet → List (Entry M) → ℕ → List (Entry M)
lift_table s t i = without i (used s t) ++ drop (held s t - 1) t

-- ---- the book's share in a call: for all rows that the sheet and the table stand for, the answer is the book's, and what is left stands for the book's next rows
abbrev pub PutByBook : {M : Type 0} → Marks M → Sheet → List (Entry M) → M → Affine → Result ℕ SheetFault → Sheet → List (Entry M) → Type 0
PutByBook {M} k s t mark m r s' t' = (bs : List (Row M)) → StandsFor s t bs → (r ≡ put_answer k (length t) bs mark) × StandsFor s' t' (put_rows k (length t) bs mark m)

abbrev pub ShiftByBook : {M : Type 0} → Sheet → List (Entry M) → ℕ → Affine → Result ℕ SheetFault → List (Entry M) → Type 0
ShiftByBook {M} s t i m r t' = (bs : List (Row M)) → StandsFor s t bs → (r ≡ shift_answer bs i i m) × StandsFor s t' (shift_rows bs i m)

abbrev pub ShiftAllByBook : {M : Type 0} → Sheet → List (Entry M) → Affine → Result ℕ SheetFault → List (Entry M) → Type 0
ShiftAllByBook {M} s t m r t' = (bs : List (Row M)) → StandsFor s t bs → (r ≡ shift_all_answer bs m) × StandsFor s t' (shift_all_rows bs m)

abbrev pub LiftByBook : {M : Type 0} → Sheet → List (Entry M) → ℕ → Result ℕ SheetFault → Sheet → List (Entry M) → Type 0
LiftByBook {M} s t i r s' t' = (bs : List (Row M)) → StandsFor s t bs → (r ≡ lift_answer bs i) × StandsFor s' t' (lift_rows bs i)

-- a question: the answer is the book's, and nothing is altered
abbrev pub AnsweredByBook : {M X : Type 0} → Sheet → List (Entry M) → (List (Row M) → X) → X → Type 0
AnsweredByBook {M} s t answer r = (bs : List (Row M)) → StandsFor s t bs → r ≡ answer bs

-- a draw: the answer and the buffer are the book's
abbrev pub DrawnByBook : {M : Type 0} → Marks M → Sheet → List (Entry M) → Float → List PathEl → Result ℕ SheetFault → List PathEl → Type 0
DrawnByBook {M} k s t tolerance buffer r buffer' =
    (bs : List (Row M)) → StandsFor s t bs → (r ≡ draw_answer (length buffer) (all_drawn k tolerance bs)) × (buffer' ≡ draw_buffer buffer (all_drawn k tolerance bs))
