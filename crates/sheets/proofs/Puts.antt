-- A put: its answer over the rows, and what it leaves. Assumes nothing.
use Rattle.std.proofs.Common.{◌≡◌, ℕ, ◌+◌, ◌<◌, ◌≤◌, min, Bool, true, false, cond, T, ltb, List, [], ◌∷◌, ◌++◌, length, take, Ok, Err, Result, sym, refl, ap, ◌∙◌, subst, arith, ltb→lt, length-set}
use Rattle.std.specs.Bool.{passes}
use Rattle.std.proofs.lemmas.List.{take_more_set}
use Rattle.std.proofs.lemmas.Bool.{cond_below, cond_above}
use Rattle.plane.specs.declared.affine.Affine.{Affine}
use Rattle.plane.specs.Rects.{finite_sides}
use Rattle.layers.specs.Moves.{is_move}
use Rattle.sheets.specs.declared.fault.SheetFault.{SheetFault}
use Rattle.sheets.specs.declared.fault.SheetFault.TheVariants.{NotFinite, Full}
use Rattle.sheets.specs.declared.sheet.Entry.{Entry}
use Rattle.sheets.specs.declared.sheet.Sheet.{Sheet}
use Rattle.sheets.specs.Book.{Marks, row, usable, put_answer, put_rows}
use Rattle.sheets.specs.Tables.{entry, counting, held, used, rows, StandsFor, AllStand, where_granted, put_table, PutByBook}
use Rattle.sheets.proofs.Counts.{rows_count}
use Rattle.sheets.proofs.Agree.{same_count, put_agree}
use Rattle.sheets.proofs.Kept.{put_stands, append_stand}

module _ {M : Type 0} (k : Marks M) (s : Sheet) (t : List (Entry M)) (mark : M) where
  -- the answer, by its two tests
  pub put_full : usable (length t) ≤ held s t → Err Full ≡ put_answer k (length t) (rows s t) mark
  put_full h =
      let e = rows_count s t in
      let l : usable (length t) ≤ length (rows s t) = omega arith in
      cond_above (length (rows s t)) (usable (length t)) _ (Err Full) (Err Full) l refl

  pub put_room : (b : Bool) → held s t < usable (length t) → b ≡ finite_sides (k.frame mark) → cond b (Ok (held s t)) (Err NotFinite) ≡ put_answer k (length t) (rows s t) mark
  put_room b h e =
      let c = rows_count s t in
      let l : length (rows s t) < usable (length t) = omega arith in
      (λ i. cond (e i) (Ok (sym c i)) (Err NotFinite)) ∙ cond_below (length (rows s t)) (usable (length t)) _ (Err Full) l

  -- the entries in use with one more
  used_more : (m : Affine) → held s t < usable (length t) → used (counting (held s t + 1)) (put_table s t mark m) ≡ used s t ++ (entry mark m ∷ [])
  used_more m h =
      let n = length-set t (held s t) (entry mark m) in
      let l : held s t < length t = omega arith in
      let c : min (held s t + 1) (usable (length (put_table s t mark m))) ≡ held s t + 1 = omega arith in
      ap (λ (j : ℕ). take j (put_table s t mark m)) c ∙ take_more_set t (held s t) (entry mark m) l

  pub put_book : (m : Affine) (r : Result ℕ SheetFault) (s' : Sheet) (t' : List (Entry M)) → T (is_move m) → r ≡ put_answer k (length t) (rows s t) mark
      → s' ≡ where_granted r (counting (held s t + 1)) s → t' ≡ where_granted r (put_table s t mark m) t → PutByBook k s t mark m r s' t'
  put_book m r s' t' h a p q bs S = (answer, subst (λ (u : Sheet × List (Entry M)). StandsFor u.0 u.1 (put_rows k (length t) bs mark m)) (λ i. (sym p' i, sym q' i)) (go (ltb (length bs) (usable (length t))) (finite_sides (k.frame mark)) refl))
    where
      answer : r ≡ put_answer k (length t) bs mark
      answer = a ∙ sym (put_agree k (length t) (used s t) bs mark S)

      p' : s' ≡ where_granted (put_answer k (length t) bs mark) (counting (held s t + 1)) s
      p' = p ∙ ap (λ (z : Result ℕ SheetFault). where_granted z (counting (held s t + 1)) s) answer

      q' : t' ≡ where_granted (put_answer k (length t) bs mark) (put_table s t mark m) t
      q' = q ∙ ap (λ (z : Result ℕ SheetFault). where_granted z (put_table s t mark m) t) answer

      go : (a b : Bool) → ltb (length bs) (usable (length t)) ≡ a
          → StandsFor (where_granted (cond a (cond b (Ok (length bs)) (Err NotFinite)) (Err Full)) (counting (held s t + 1)) s)
          (where_granted (cond a (cond b (Ok (length bs)) (Err NotFinite)) (Err Full)) (put_table s t mark m) t)
          (cond a (cond b (bs ++ (row mark (m ∷ []) ∷ [])) bs) bs)
      go true true e =
          let n = same_count (used s t) bs S ∙ rows_count s t in
          let g : length bs < usable (length t) = ltb→lt _ _ (passes _ e) in
          let l : held s t < usable (length t) = omega arith in
          subst (λ (es : List (Entry M)). AllStand es (bs ++ (row mark (m ∷ []) ∷ []))) (sym (used_more m l)) (append_stand (used s t) (entry mark m ∷ []) bs (row mark (m ∷ []) ∷ []) S (put_stands mark m h, tt))
      go true false e = S
      go false b e = S
