-- One call after any history. Assumes nothing.
use Rattle.std.proofs.Common.{◌≡◌, ℕ, List, [], ◌∷◌, ◌++◌, length, sym, ap, ◌∙◌, subst}
use Rattle.plane.specs.declared.bezpath.PathEl.{PathEl}
use Rattle.sheets.specs.declared.order.Order.{Order}
use Rattle.sheets.specs.declared.order.Answer.{Answer}
use Rattle.sheets.specs.declared.sheet.Entry.{Entry}
use Rattle.sheets.specs.declared.sheet.Sheet.{Sheet}
use Rattle.sheets.specs.Book.{Marks, Row}
use Rattle.sheets.specs.Tables.{StandsFor}
use Rattle.sheets.specs.Runs.{reply, after, inked, ends, FollowedByBook, AtEachMoment}
use Rattle.sheets.proofs.Sounds.{LawsOf, keep_ends, sound}
use Rattle.sheets.proofs.Folded.{ends_push}

module _ {M : Type 0} (k : Marks M) (law : LawsOf k) (s s' : Sheet) (t t' : List (Entry M)) where
  -- what the book answers to any rows, it answers after any calls
  pub moment : (b b' : List PathEl) (o : Order M) (r : Answer) → FollowedByBook k s t b o r s' t' b' → length t' ≡ length t → AtEachMoment k s t b o r s' t' b'
  moment b b' o r book n os S =
      let cs = ends k (length t) [] os in
      let F = book cs S in
      let e : after k (length t) cs o ≡ ends k (length t') [] (os ++ (o ∷ [])) = sym (ends_push k (length t) [] os o) ∙ ap (λ (m : ℕ). ends k m [] (os ++ (o ∷ []))) (sym n) in
      record { answered = F.0; drawn = F.1.1; stands = subst (StandsFor s' t') e F.1.0; sound = sound k law cs (keep_ends k (length t) [] os tt) }

  -- of a call that is lent no buffer, from its own share: its result, under the name of its kind, is the answer
  pub told : {R : Type 0} (o : Order M) (named : R → Answer) (r : R) (answer : List (Row M) → R)
      → ((bs : List (Row M)) → (named (answer bs) ≡ reply k (length t) 0 bs o) × ([] ≡ inked k bs [] o))
      → ((bs : List (Row M)) → StandsFor s t bs → (r ≡ answer bs) × StandsFor s' t' (after k (length t) bs o))
      → length t' ≡ length t → AtEachMoment k s t [] o (named r) s' t' []
  told o named r answer same book = moment [] [] o (named r) (λ bs S. let B = book bs S in (ap named B.0 ∙ (same bs).0, (B.1, (same bs).1)))
