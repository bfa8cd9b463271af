-- Shifts of one mark and of all: their answers over the rows, and what they leave. Assumes nothing.
use Rattle.std.proofs.Common.{◌≡◌, ℕ, zero, suc, ◌+◌, ◌<◌, ◌≤◌, min, Bool, true, false, cond, T, List, [], ◌∷◌, ◌++◌, map, length, get_or, take, drop, set, Some, None, Ok, Err, Option, Result, sym, refl, ap, ◌∙◌, subst, arith, length-append, length-drop, length-take, drop-set-lt}
use lib.ListN.{length-map}
use Rattle.std.proofs.lemmas.List.{take_more, take_more_set, drop_more, drop_all, map-append}
use lib.Seq.{take-append_seam}
use Rattle.plane.specs.declared.affine.Affine.{Affine}
use Rattle.layers.specs.Moves.{is_move}
use Rattle.sheets.specs.declared.fault.SheetFault.{SheetFault}
use Rattle.sheets.specs.declared.fault.SheetFault.TheVariants.{NoMark, OffPage}
use Rattle.sheets.specs.declared.sheet.Entry.{Entry}
use Rattle.sheets.specs.declared.sheet.Sheet.{Sheet}
use Rattle.sheets.specs.Book.{Row, usable, stays, moved_on, shift_answer, shift_rows, leaving, by_lowest, by_lowest_rows, shift_all_answer, shift_all_rows}
use Rattle.sheets.specs.Tables.{held, used, rows, row_of, StandsFor, AllStand, where_granted, moved_entry, alter, shift_all_table, ShiftByBook, ShiftAllByBook}
use Rattle.sheets.proofs.Agree.{shift_agree, shift_all_agree}
use Rattle.sheets.proofs.Counts.{used_count}
use Rattle.sheets.proofs.Kept.{shift_entry, shift_stand, all_stay}

-- ---- one mark
module _ {M : Type 0} (m : Affine) where
  -- no mark there
  pub shift_none : (i j : ℕ) (es : List (Entry M)) → length es ≤ i → Err NoMark ≡ shift_answer (map row_of es) i j m
  shift_none i j [] h = refl
  shift_none zero j (e ∷ es) h = absurd (omega arith)
  shift_none (suc i) j (e ∷ es) h = shift_none i j es (omega arith)

  -- the mark there decides
  pub shift_at : (i j : ℕ) (es : List (Entry M)) (e : Entry M) → i < length es → e ≡ get_or es i e → cond (stays m (row_of e)) (Ok j) (Err (OffPage None)) ≡ shift_answer (map row_of es) i j m
  shift_at i j [] e l r = absurd (omega arith)
  shift_at zero j (d ∷ es) e l r = ap (λ (x : Entry M). cond (stays m (row_of x)) (Ok j) (Err (OffPage None))) r
  shift_at (suc i) j (d ∷ es) e l r = shift_at i j es e (omega arith) r

  -- the entries in use afterwards
  beside : (a : Result ℕ SheetFault) (e : Entry M) (x y : List (Entry M)) → where_granted a (e ∷ x) (e ∷ y) ≡ e ∷ where_granted a x y
  beside (Ok n) e x y = refl
  beside (Err f) e x y = refl

  shifted_front : (i j n : ℕ) (t : List (Entry M)) → take n (where_granted (shift_answer (map row_of (take n t)) i j m) (alter i (moved_entry m) t) t) ≡ alter i (shift_entry m) (take n t)
  shifted_front i j zero [] = refl
  shifted_front i j (suc n) [] = refl
  shifted_front i j zero (e ∷ t) = refl
  shifted_front zero j (suc n) (e ∷ t) = go (stays m (row_of e))
    where
      go : (b : Bool) → take (suc n) (where_granted (cond b (Ok j) (Err (OffPage None))) (moved_entry m e ∷ t) (e ∷ t)) ≡ cond b (moved_entry m e) e ∷ take n t
      go true = refl
      go false = refl
  shifted_front (suc i) j (suc n) (e ∷ t) =
      ap (take (suc n)) (beside (shift_answer (map row_of (take n t)) i j m) e (alter i (moved_entry m) t) t) ∙ ap (λ (es : List (Entry M)). e ∷ es) (shifted_front i j n t)

  alter_count : (i : ℕ) (f : Entry M → Entry M) (t : List (Entry M)) → length (alter i f t) ≡ length t
  alter_count i f [] = refl
  alter_count zero f (e ∷ t) = refl
  alter_count (suc i) f (e ∷ t) = ap suc (alter_count i f t)

  granted_count : (a : Result ℕ SheetFault) (x y : List (Entry M)) → length x ≡ length y → length (where_granted a x y) ≡ length y
  granted_count (Ok n) x y e = e
  granted_count (Err f) x y e = refl

  -- a write of what the entry becomes
  pub set_alter : (i : ℕ) (t : List (Entry M)) (e : Entry M) → i < length t → e ≡ get_or t i e → set t i (moved_entry m e) ≡ alter i (moved_entry m) t
  set_alter i [] e h r = absurd (omega arith)
  set_alter zero (d ∷ t) e h r = ap (λ (x : Entry M). moved_entry m x ∷ t) r
  set_alter (suc i) (d ∷ t) e h r = ap (λ (es : List (Entry M)). d ∷ es) (set_alter i t e (omega arith) r)

  pub shift_book : (s : Sheet) (t t' : List (Entry M)) (i : ℕ) (r : Result ℕ SheetFault) → T (is_move m) → r ≡ shift_answer (rows s t) i i m
      → t' ≡ where_granted r (alter i (moved_entry m) t) t → ShiftByBook s t i m r t'
  shift_book s t t' i r h a q bs S =
      let whole = q ∙ ap (λ (z : Result ℕ SheetFault). where_granted z (alter i (moved_entry m) t) t) a in
      let n : length t' ≡ length t = ap length whole ∙ granted_count (shift_answer (rows s t) i i m) (alter i (moved_entry m) t) t (alter_count i (moved_entry m) t) in
      let front : used s t' ≡ alter i (shift_entry m) (used s t) =
      ap (λ (j : ℕ). take (min s.count (usable j)) t') n ∙ ap (take (held s t)) whole ∙ shifted_front i i (held s t) t in
      (a ∙ sym (shift_agree i i m (used s t) bs S), subst (λ (es : List (Entry M)). AllStand es (shift_rows bs i m)) (sym front) (shift_stand i m (used s t) bs h S))

-- ---- all marks
-- the lowest that leaves is no lower than those that were passed
pub leaving_more : {M : Type 0} (m : Affine) (i : ℕ) (es : List (Entry M)) (e : Entry M) → i < length es → e ≡ get_or es i e
    → leaving i (map row_of (drop i es)) m ≡ cond (stays m (row_of e)) (leaving (i + 1) (map row_of (drop (i + 1) es)) m) (Some i)
leaving_more {M} m i es e h r = ap (λ (ds : List (Entry M)). leaving i (map row_of ds) m) (drop_more es i e h ∙ ap (λ (d : Entry M). d ∷ drop (i + 1) es) (sym r))

pub leaving_all : {M : Type 0} (m : Affine) (i : ℕ) (es : List (Entry M)) → length es ≤ i → leaving i (map row_of (drop i es)) m ≡ None
leaving_all {M} m i es h = ap (λ (ds : List (Entry M)). leaving i (map row_of ds) m) (drop_all i es h)

-- one entry more in its place
pub carry_more : {M : Type 0} (m : Affine) (i : ℕ) (old t : List (Entry M)) (e : Entry M) → i < length old → i < length t → e ≡ get_or t i e
    → take i t ≡ map (moved_entry m) (take i old) → drop i t ≡ drop i old
    → (take (i + 1) (set t i (moved_entry m e)) ≡ map (moved_entry m) (take (i + 1) old)) × (drop (i + 1) (set t i (moved_entry m e)) ≡ drop (i + 1) old)
carry_more {M} m i old t e h l r a b =
    let n : i < i + 1 = omega arith in
    let same : drop i old ≡ e ∷ drop (i + 1) t = sym b ∙ drop_more t i e l ∙ ap (λ (d : Entry M). d ∷ drop (i + 1) t) (sym r) in
    let whole : get_or old i e ∷ drop (i + 1) old ≡ e ∷ drop (i + 1) t = sym (drop_more old i e h) ∙ same in
    let first : get_or old i e ≡ e = cc in
    let rest : drop (i + 1) old ≡ drop (i + 1) t = cc in
    let front : map (moved_entry m) (take (i + 1) old) ≡ map (moved_entry m) (take i old) ++ (moved_entry m e ∷ []) =
    ap (map (moved_entry m)) (take_more old i e h ∙ ap (λ (d : Entry M). take i old ++ (d ∷ [])) first) ∙ map-append (moved_entry m) (take i old) (e ∷ []) in
    (take_more_set t i (moved_entry m e) l ∙ ap (λ (ds : List (Entry M)). ds ++ (moved_entry m e ∷ [])) a ∙ sym front, drop-set-lt (i + 1) t i (moved_entry m e) n ∙ sym rest)

module _ {M : Type 0} (m : Affine) (s : Sheet) (t : List (Entry M)) where
  moved_front : used s (shift_all_table s t m) ≡ map (moved_entry m) (used s t)
  moved_front =
      let n : length (shift_all_table s t m) ≡ length t = simp (length-append, length-map, length-take, length-drop) (omega arith) in
      let f = moved_entry m in
      let c : length (map f (used s t)) ≡ held s t = simp length-map (used_count s t) in
      ap (λ (j : ℕ). take (min s.count (usable j)) (shift_all_table s t m)) n
      ∙ ap (λ (j : ℕ). take j (shift_all_table s t m)) (sym c)
      ∙ take-append_seam (map f (used s t)) (drop (held s t) t)

  pub shift_all_book : (t' : List (Entry M)) (r : Result ℕ SheetFault) → T (is_move m) → r ≡ shift_all_answer (rows s t) m → t' ≡ where_granted r (shift_all_table s t m) t → ShiftAllByBook s t m r t'
  shift_all_book t' r h a q bs S = (answer, go (leaving 0 bs m) refl)
    where
      answer : r ≡ shift_all_answer bs m
      answer = a ∙ sym (shift_all_agree m (used s t) bs S)

      whole : t' ≡ where_granted (shift_all_answer bs m) (shift_all_table s t m) t
      whole = q ∙ ap (λ (z : Result ℕ SheetFault). where_granted z (shift_all_table s t m) t) answer

      go : (o : Option ℕ) → leaving 0 bs m ≡ o → StandsFor s t' (shift_all_rows bs m)
      go None e =
          let t'' : t' ≡ shift_all_table s t m = whole ∙ ap (λ (o : Option ℕ). where_granted (by_lowest (length bs) o) (shift_all_table s t m) t) e in
          let b : shift_all_rows bs m ≡ map (moved_on m) bs = ap (λ (o : Option ℕ). by_lowest_rows bs m o) e in
          subst (λ (z : List (Entry M) × List (Row M)). StandsFor s z.0 z.1) (λ i. (sym t'' i, sym b i)) (subst (λ (es : List (Entry M)). AllStand es (map (moved_on m) bs)) (sym moved_front) (all_stay 0 m (used s t) bs h S e))
      go (Some i) e =
          let t'' : t' ≡ t = whole ∙ ap (λ (o : Option ℕ). where_granted (by_lowest (length bs) o) (shift_all_table s t m) t) e in
          let b : shift_all_rows bs m ≡ bs = ap (λ (o : Option ℕ). by_lowest_rows bs m o) e in
          subst (λ (z : List (Entry M) × List (Row M)). StandsFor s z.0 z.1) (λ i. (sym t'' i, sym b i)) S
