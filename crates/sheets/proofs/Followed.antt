-- What each call promises is what its order asks of the book. Assumes nothing.
use Rattle.std.proofs.Common.{◌≡◌, ℕ, ◌+◌, ◌-◌, List, length, ℤ, Option, Result, sym, refl, ap, ◌∙◌, subst}
use lib.Ieee.{Float}
use Rattle.plane.specs.declared.bezpath.PathEl.{PathEl}
use Rattle.plane.specs.declared.point.Point.{Point}
use Rattle.plane.specs.declared.rect.Rect.{Rect}
use Rattle.layers.specs.declared.moves.Move.{Move}
use Rattle.sheets.specs.declared.fault.SheetFault.{SheetFault}
use Rattle.sheets.specs.declared.order.Order.{Order}
use Rattle.sheets.specs.declared.order.Order.TheVariants.{Put, Shift, ShiftAll, Lift, Winding, Top, BoundingBox, Draw}
use Rattle.sheets.specs.declared.order.Answer.{Answer}
use Rattle.sheets.specs.declared.order.Answer.TheVariants as said
use Rattle.sheets.specs.declared.sheet.Entry.{Entry}
use Rattle.sheets.specs.declared.sheet.Sheet.{Sheet}
use Rattle.sheets.specs.Book.{Marks, put_answer, shift_answer, shift_all_answer, lift_answer, at_page_point, total, highest, union_of}
use Rattle.sheets.specs.Tables.{counting, held, rows, where_granted, put_table, moved_entry, alter, shift_all_table, lift_table, PutByBook, ShiftByBook, ShiftAllByBook, LiftByBook, AnsweredByBook, DrawnByBook}
use Rattle.sheets.specs.Runs.{answered, sheet_after, table_after, FollowedByBook}

module _ {M : Type 0} (k : Marks M) (s : Sheet) (t : List (Entry M)) (buffer : List PathEl) where
  pub record Followed (o : Order M) (a : Answer) (s' : Sheet) (t' : List (Entry M)) (buffer' : List PathEl) : Type 0 where
    pub sheet : s' ≡ sheet_after k s t o
    pub table : t' ≡ table_after k s t o
    pub book : FollowedByBook k s t buffer o a s' t' buffer'

  pub under : (o q : Order M) (a : Answer) (s' : Sheet) (t' : List (Entry M)) (buffer' : List PathEl) → o ≡ q → Followed q a s' t' buffer' → Followed o a s' t' buffer'
  under o q a s' t' buffer' e f = subst (λ (z : Order M). Followed z a s' t' buffer') (sym e) f

  pub put_followed : (mark : M) (m : Move) (r : Result ℕ SheetFault) (a : Answer) (s' : Sheet) (t' : List (Entry M)) → r ≡ put_answer k (length t) (rows s t) mark
      → s' ≡ where_granted r (counting (held s t + 1)) s → t' ≡ where_granted r (put_table s t mark m.map) t → PutByBook k s t mark m.map r s' t' → a ≡ answered said.Position r
      → Followed (Put mark m) a s' t' buffer
  put_followed mark m r a s' t' e p q b d = record {
    sheet = p ∙ ap (λ (z : Result ℕ SheetFault). where_granted z (counting (held s t + 1)) s) e;
    table = q ∙ ap (λ (z : Result ℕ SheetFault). where_granted z (put_table s t mark m.map) t) e;
    book = λ bs S. (d ∙ ap (answered said.Position) (b bs S).0, ((b bs S).1, refl));
  }

  pub shift_followed : (i : ℕ) (m : Move) (r : Result ℕ SheetFault) (a : Answer) (t' : List (Entry M)) → r ≡ shift_answer (rows s t) i i m.map
      → t' ≡ where_granted r (alter i (moved_entry m.map) t) t → ShiftByBook s t i m.map r t' → a ≡ answered said.Position r → Followed (Shift i m) a s t' buffer
  shift_followed i m r a t' e q b d = record {
    sheet = refl;
    table = q ∙ ap (λ (z : Result ℕ SheetFault). where_granted z (alter i (moved_entry m.map) t) t) e;
    book = λ bs S. (d ∙ ap (answered said.Position) (b bs S).0, ((b bs S).1, refl));
  }

  pub shift_all_followed : (m : Move) (r : Result ℕ SheetFault) (a : Answer) (t' : List (Entry M)) → r ≡ shift_all_answer (rows s t) m.map
      → t' ≡ where_granted r (shift_all_table s t m.map) t → ShiftAllByBook s t m.map r t' → a ≡ answered said.Marks r → Followed (ShiftAll m) a s t' buffer
  shift_all_followed m r a t' e q b d = record {
    sheet = refl;
    table = q ∙ ap (λ (z : Result ℕ SheetFault). where_granted z (shift_all_table s t m.map) t) e;
    book = λ bs S. (d ∙ ap (answered said.Marks) (b bs S).0, ((b bs S).1, refl));
  }

  pub lift_followed : (i : ℕ) (r : Result ℕ SheetFault) (a : Answer) (s' : Sheet) (t' : List (Entry M)) → r ≡ lift_answer (rows s t) i
      → s' ≡ where_granted r (counting (held s t - 1)) s → t' ≡ where_granted r (lift_table s t i) t → LiftByBook s t i r s' t' → a ≡ answered said.Marks r → Followed (Lift i) a s' t' buffer
  lift_followed i r a s' t' e p q b d = record {
    sheet = p ∙ ap (λ (z : Result ℕ SheetFault). where_granted z (counting (held s t - 1)) s) e;
    table = q ∙ ap (λ (z : Result ℕ SheetFault). where_granted z (lift_table s t i) t) e;
    book = λ bs S. (d ∙ ap (answered said.Marks) (b bs S).0, ((b bs S).1, refl));
  }

  pub winding_followed : (p : Point) (r : Result ℤ SheetFault) (a : Answer) → AnsweredByBook s t (λ bs. at_page_point p (total k p bs)) r → a ≡ answered said.Winding r → Followed (Winding p) a s t buffer
  winding_followed p r a b d = record { sheet = refl; table = refl; book = λ bs S. (d ∙ ap (answered said.Winding) (b bs S), (S, refl)) }

  pub top_followed : (p : Point) (r : Result (Option ℕ) SheetFault) (a : Answer) → AnsweredByBook s t (λ bs. at_page_point p (highest k p bs)) r → a ≡ answered said.Top r → Followed (Top p) a s t buffer
  top_followed p r a b d = record { sheet = refl; table = refl; book = λ bs S. (d ∙ ap (answered said.Top) (b bs S), (S, refl)) }

  pub box_followed : (r : Option Rect) → AnsweredByBook s t (union_of k) r → Followed BoundingBox (said.Box r) s t buffer
  box_followed r b = record { sheet = refl; table = refl; book = λ bs S. (ap said.Box (b bs S), (S, refl)) }

  pub draw_followed : (tol : Float) (r : Result ℕ SheetFault) (a : Answer) (buffer' : List PathEl) → DrawnByBook k s t tol buffer r buffer' → a ≡ answered said.Elements r → Followed (Draw tol) a s t buffer'
  draw_followed tol r a buffer' b d = record { sheet = refl; table = refl; book = λ bs S. (d ∙ ap (answered said.Elements) (b bs S).0, (S, (b bs S).1)) }
