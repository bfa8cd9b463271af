-- One order more in a list of orders. Assumes nothing.
use Rattle.std.proofs.Common.{◌≡◌, ℕ, ◌+◌, ◌<◌, min, List, [], ◌∷◌, ◌++◌, length, get_or, take, drop, set, sym, refl, ap, ◌∙◌, subst, arith, drop-set-lt}
use Rattle.plane.specs.declared.bezpath.PathEl.{PathEl}
use Rattle.std.proofs.lemmas.List.{take_more, take_more_set, drop-drop}
use Rattle.sheets.specs.declared.order.Order.{Order}
use Rattle.sheets.specs.declared.order.Answer.{Answer}
use Rattle.sheets.specs.declared.sheet.Entry.{Entry}
use Rattle.sheets.specs.declared.sheet.Sheet.{Sheet}
use Rattle.sheets.specs.Book.{Marks, Row, usable}
use Rattle.sheets.specs.Tables.{StandsFor, AllStand, counting}
use Rattle.sheets.specs.Runs.{reply, after, inked, replies, ends, page, sheet_after, table_after, left, FollowedByBook, RunByBook, BookOf}
use Rattle.sheets.proofs.Sounds.{LawsOf, keep_ends, sound}

module _ {M : Type 0} (k : Marks M) where
  replies_push : (n places : ℕ) (bs : List (Row M)) (os : List (Order M)) (o : Order M) → replies k n places bs (os ++ (o ∷ [])) ≡ replies k n places bs os ++ (reply k n places (ends k n bs os) o ∷ [])
  replies_push n places bs [] o = refl
  replies_push n places bs (q ∷ os) o = ap (λ (said : List Answer). reply k n places bs q ∷ said) (replies_push n places (after k n bs q) os o)

  pub ends_push : (n : ℕ) (bs : List (Row M)) (os : List (Order M)) (o : Order M) → ends k n bs (os ++ (o ∷ [])) ≡ after k n (ends k n bs os) o
  ends_push n bs [] o = refl
  ends_push n bs (q ∷ os) o = ends_push n (after k n bs q) os o

  page_push : (n : ℕ) (bs : List (Row M)) (buffer : List PathEl) (os : List (Order M)) (o : Order M) → page k n bs buffer (os ++ (o ∷ [])) ≡ inked k (ends k n bs os) (page k n bs buffer os) o
  page_push n bs buffer [] o = refl
  page_push n bs buffer (q ∷ os) o = page_push n (after k n bs q) (inked k bs buffer q) os o

  left_push : (st : Sheet × List (Entry M)) (os : List (Order M)) (o : Order M)
      → left k st (os ++ (o ∷ [])) ≡ (sheet_after k (left k st os).0 (left k st os).1 o, table_after k (left k st os).0 (left k st os).1 o)
  left_push st [] o = refl
  left_push st (q ∷ os) o = left_push (sheet_after k st.0 st.1 q, table_after k st.0 st.1 q) os o

  pub one_more : (os : List (Order M)) (i : ℕ) (o : Order M) → i < length os → o ≡ get_or os i o → take (i + 1) os ≡ take i os ++ (o ∷ [])
  one_more os i o h r = take_more os i o h ∙ ap (λ (q : Order M). take i os ++ (q ∷ [])) (sym r)

  pub left_more : (st : Sheet × List (Entry M)) (os : List (Order M)) (i : ℕ) (o : Order M) (s s' : Sheet) (t t' : List (Entry M)) → i < length os → o ≡ get_or os i o
      → (s, t) ≡ left k st (take i os) → s' ≡ sheet_after k s t o → t' ≡ table_after k s t o → (s', t') ≡ left k st (take (i + 1) os)
  left_more st os i o s s' t t' h r e p q =
      (λ j. (p j, q j))
      ∙ ap (λ (z : Sheet × List (Entry M)). (sheet_after k z.0 z.1 o, table_after k z.0 z.1 o)) e
      ∙ sym (ap (left k st) (one_more os i o h r) ∙ left_push st (take i os) o)

  -- the answers so far, and one more
  pub run_pushed : (s₀ s s' : Sheet) (t₀ t t' : List (Entry M)) (b₀ b b' : List PathEl) (os : List (Order M)) (said : List Answer) (i : ℕ) (o : Order M) (a : Answer)
      → i < length os → o ≡ get_or os i o → length t ≡ length t₀ → length b ≡ length b₀
      → RunByBook k s₀ t₀ b₀ (take i os) said s t b → FollowedByBook k s t b o a s' t' b'
      → RunByBook k s₀ t₀ b₀ (take (i + 1) os) (said ++ (a ∷ [])) s' t' b'
  run_pushed s₀ s s' t₀ t t' b₀ b b' os said i o a h r n m so one bs S =
      let R = so bs S in
      let cs = ends k (length t₀) bs (take i os) in
      let F = one cs R.1.0 in
      let x = one_more os i o h r in (
        (λ j. R.0 j ++ ((F.0 ∙ (λ v. reply k (n v) (m v) cs o)) j ∷ []))
            ∙ sym (ap (replies k (length t₀) (length b₀) bs) x ∙ replies_push (length t₀) (length b₀) bs (take i os) o),
        (
          subst (StandsFor s' t') ((λ j. after k (n j) cs o) ∙ sym (ap (ends k (length t₀) bs) x ∙ ends_push (length t₀) bs (take i os) o)) F.1.0,
          F.1.1 ∙ ap (λ (z : List PathEl). inked k cs z o) R.1.1 ∙ sym (ap (page k (length t₀) bs b₀) x ∙ page_push (length t₀) bs b₀ (take i os) o),
        ),
      )

  pub run_more : (s₀ s s' : Sheet) (t₀ t t' : List (Entry M)) (b₀ b b' : List PathEl) (os : List (Order M)) (said : List Answer) (i : ℕ) (o : Order M) (a : Answer)
      → i < length os → i < length said → o ≡ get_or os i o → length t ≡ length t₀ → length b ≡ length b₀
      → RunByBook k s₀ t₀ b₀ (take i os) (take i said) s t b → FollowedByBook k s t b o a s' t' b'
      → RunByBook k s₀ t₀ b₀ (take (i + 1) os) (take (i + 1) (set said i a)) s' t' b'
  run_more s₀ s s' t₀ t t' b₀ b b' os said i o a h l r n m so one =
      subst (λ (all : List Answer). RunByBook k s₀ t₀ b₀ (take (i + 1) os) all s' t' b') (sym (take_more_set said i a l))
      (run_pushed s₀ s s' t₀ t t' b₀ b b' os (take i said) i o a h r n m so one)

  pub rest_more : (said old : List Answer) (i : ℕ) (a : Answer) → drop i said ≡ drop i old → drop (i + 1) (set said i a) ≡ drop (i + 1) old
  rest_more said old i a e =
      let n : i < i + 1 = omega arith in
      drop-set-lt (i + 1) said i a n ∙ sym (drop-drop 1 i said) ∙ ap (drop 1) e ∙ drop-drop 1 i old

  -- the opening stands for an empty book
  pub opening : (t : List (Entry M)) → StandsFor (counting 0) t []
  opening t =
      let e : min 0 (usable (length t)) ≡ 0 = omega arith in
      subst (λ (n : ℕ). AllStand (take n t) []) (sym e) tt

  pub book_of : LawsOf k → (t t' : List (Entry M)) (b b' : List PathEl) (os : List (Order M)) (said : List Answer) (s' : Sheet) → RunByBook k (counting 0) t b os said s' t' b' → BookOf k t b os said s' t' b'
  book_of law t t' b b' os said s' run =
      let R = run [] (opening t) in
      record { answered = R.0; drawn = R.1.1; stands = R.1.0; sound = λ front rest e. sound k law (ends k (length t) [] front) (keep_ends k (length t) [] front tt) }
