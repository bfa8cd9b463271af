-- One order more on a page: what it is told, and what the page stands for afterwards. Assumes nothing.
use Rattle.std.proofs.Common.{◌≡◌, ℕ, List, [], ◌∷◌, ◌++◌, length, take, sym, refl, ap, ◌∙◌, subst, vec_items}
use Rattle.std.proofs.lemmas.List.{append-nil}
use Rattle.std.proofs.lemmas.List.Elements.{filter_map-append}
use Rattle.plane.specs.declared.bezpath.PathEl.{PathEl}
use Rattle.plane.specs.declared.rect.Rect.{Rect}
use Rattle.plane.specs.Rectangles.{rect_lawful, rect_formed}
use Rattle.marks.specs.declared.mark.Mark.{Mark}
use Rattle.marks.specs.Lawful.{mark_same, mark_boxed, mark_formed}
use Rattle.sheets.specs.declared.order.Answer.{Answer}
use Rattle.sheets.specs.declared.order.Order.{Order}
use Rattle.sheets.specs.declared.order.Order.TheVariants.{Top}
use Rattle.sheets.specs.declared.sheet.Entry.{Entry}
use Rattle.sheets.specs.declared.sheet.Sheet.{Sheet}
use Rattle.sheets.specs.Book.{Marks}
use Rattle.sheets.specs.Tables.{held, used}
use Rattle.sheets.specs.Runs.{inked, ends, After, MomentOf as CallMoment}
use Rattle.sheets.specs.Sound.{Sound}
use Rattle.sheets.proofs.Agree.{same_count}
use Rattle.sheets.proofs.Counts.{rows_count}
use Rattle.sheets.proofs.Sounds.{LawsOf, keep_ends, sound}
use Rattle.orders.specs.declared.order.PageOrder.{PageOrder}
use Rattle.orders.specs.declared.order.PageOrder.TheVariants as orders
use Rattle.orders.specs.declared.order.CoverQuery.{CoverQuery}
use Rattle.orders.specs.declared.order.SetPoint.{SetPoint}
use Rattle.orders.specs.declared.order.SheetOrder.{SheetOrder}
use Rattle.orders.specs.declared.order.SheetOrder.TheVariants.{Set}
use Rattle.orders.specs.declared.order.Sizes.{Sizes}
use Rattle.exam.specs.declared.page.Page.{Page}
use Rattle.exam.specs.declared.reply.Reply.{Reply}
use Rattle.exam.specs.Replies.{verdict, elements_in, cover_reply, cover_buffer}
use Rattle.exam.specs.Pages.{shapes, frames, call_of, told, SheetMoment, marks_call, frames_call, to_marks, to_frames, marks_rows, frames_rows, sheet_drawing, reply_to, buffer_after, drawn_by}
use Rattle.exam.specs.Moments.{PageAfter, MomentOf}
use Rattle.exam.proofs.Drawings.{sheet_in_front, cover_in_front}

-- ---- a set point: the sheet's count is that of the rows
module _ {M : Type 0} (k : Marks M) (os : List (Order M)) (s s' : Sheet) (t t' : List (Entry M)) (b b' : List PathEl) (p : SetPoint) where
  pub set_moment : (top : Answer) (n : ℕ) (r : Reply) → s' ≡ s → t' ≡ t → n ≡ held s' t' → r ≡ verdict p.key n top
      → After k os s t → CallMoment k os t b (Top p.at) top s' t' b' → SheetMoment k os t b (Set p) r s' t' b'
  set_moment top n r e f h v S F =
      let c : n ≡ length (ends k (length t) [] os) = h ∙ (λ i. held (e i) (f i)) ∙ sym (rows_count s t) ∙ sym (same_count (used s t) (ends k (length t) [] os) S) in
      record { told = v ∙ (λ i. verdict p.key (c i) (F.answered i)); drawn = F.drawn; stands = F.stands; sound = F.sound }

-- ---- one sheet of the page
module _ {M : Type 0} (k : Marks M) (z : Sizes) (os : List (Order M)) (s' : Sheet) (t t' : List (Entry M)) (b b' : List PathEl) (o : SheetOrder M) (r : Reply)
    (n : length t ≡ z.entries) (m : length b ≡ z.places) (F : SheetMoment k os t b o r s' t' b') where
  told_by : r ≡ told k z.entries z.places (ends k z.entries [] os) o
  told_by = F.told ∙ (λ i. told k (n i) (m i) (ends k (n i) [] os) o)

  buffer_by : b' ≡ inked k (ends k z.entries [] os) b (call_of o)
  buffer_by = F.drawn ∙ (λ i. inked k (ends k (n i) [] os) b (call_of o))

  front_by : take (elements_in r) b' ≡ sheet_drawing k z.places (ends k z.entries [] os) (call_of o)
  front_by =
      (λ i. take (elements_in (F.told i)) (F.drawn i))
      ∙ sheet_in_front k (length t) (ends k (length t) [] os) b o
      ∙ (λ i. sheet_drawing k (m i) (ends k (n i) [] os) (call_of o))

-- ---- the rows of both books are sound
marks_laws : LawsOf shapes
marks_laws = record { same = mark_same; boxed = mark_boxed; formed = mark_formed }

frames_laws : LawsOf frames
frames_laws = record { same = λ s p q e. (rect_lawful s p).same q e; boxed = λ s p f h n. (rect_lawful s p).boxed f h n; formed = rect_formed }

pub marks_sound : (n : ℕ) (os : List PageOrder) → Sound shapes (marks_rows n os)
marks_sound n os = sound shapes marks_laws (marks_rows n os) (keep_ends shapes n [] (to_marks os) tt)

pub frames_sound : (n : ℕ) (os : List PageOrder) → Sound frames (frames_rows n os)
frames_sound n os = sound frames frames_laws (frames_rows n os) (keep_ends frames n [] (to_frames os) tt)

-- ---- one order more for a sheet, or none
module _ (os : List PageOrder) (o : PageOrder) where
  marks_more : (more : List (Order Mark)) → to_marks (o ∷ []) ≡ more → to_marks (os ++ (o ∷ [])) ≡ to_marks os ++ more
  marks_more more e = filter_map-append marks_call os (o ∷ []) ∙ ap (λ (l : List (Order Mark)). to_marks os ++ l) e

  marks_none : to_marks (o ∷ []) ≡ [] → to_marks (os ++ (o ∷ [])) ≡ to_marks os
  marks_none e = marks_more [] e ∙ append-nil (to_marks os)

  frames_more : (more : List (Order Rect)) → to_frames (o ∷ []) ≡ more → to_frames (os ++ (o ∷ [])) ≡ to_frames os ++ more
  frames_more more e = filter_map-append frames_call os (o ∷ []) ∙ ap (λ (l : List (Order Rect)). to_frames os ++ l) e

  frames_none : to_frames (o ∷ []) ≡ [] → to_frames (os ++ (o ∷ [])) ≡ to_frames os
  frames_none e = frames_more [] e ∙ append-nil (to_frames os)

module _ (z : Sizes) (os : List PageOrder) (p p' : Page) (S : PageAfter z os p) (m : length (vec_items p'.buffer) ≡ length (vec_items p.buffer)) where
  -- ---- an order to the sheet of marks, where nothing of the frames changes
  pub marks_moment : (o : SheetOrder Mark) (r : Reply) → length (vec_items p'.marks_table) ≡ length (vec_items p.marks_table) → p'.frames ≡ p.frames → vec_items p'.frames_table ≡ vec_items p.frames_table
      → SheetMoment shapes (to_marks os) (vec_items p.marks_table) (vec_items p.buffer) o r p'.marks (vec_items p'.marks_table) (vec_items p'.buffer) → MomentOf z os (orders.Marks o) p r p'
  marks_moment o r n e f F = record {
    told = told_by shapes z (to_marks os) p'.marks (vec_items p.marks_table) (vec_items p'.marks_table) (vec_items p.buffer) (vec_items p'.buffer) o r S.marks_entries S.places F;
    buffer = buffer_by shapes z (to_marks os) p'.marks (vec_items p.marks_table) (vec_items p'.marks_table) (vec_items p.buffer) (vec_items p'.buffer) o r S.marks_entries S.places F;
    drawn = front_by shapes z (to_marks os) p'.marks (vec_items p.marks_table) (vec_items p'.marks_table) (vec_items p.buffer) (vec_items p'.buffer) o r S.marks_entries S.places F;
    stands = record {
      marks = subst (λ (cs : List (Order Mark)). After shapes cs p'.marks (vec_items p'.marks_table)) (sym (marks_more os (orders.Marks o) (call_of o ∷ []) refl)) F.stands;
      frames = subst (λ (cs : List (Order Rect)). After frames cs p'.frames (vec_items p'.frames_table)) (sym (frames_none os (orders.Marks o) refl)) (subst (λ (st : Sheet × List (Entry Rect)). After frames (to_frames os) st.0 st.1) (sym (λ i. (e i, f i))) S.frames);
      marks_entries = n ∙ S.marks_entries;
      frames_entries = ap length f ∙ S.frames_entries;
      places = m ∙ S.places;
    };
    marks = marks_sound z.entries os;
    frames = frames_sound z.entries os;
  }

  -- ---- one to the sheet of frames, where nothing of the marks changes
  pub frames_moment : (o : SheetOrder Rect) (r : Reply) → length (vec_items p'.frames_table) ≡ length (vec_items p.frames_table) → p'.marks ≡ p.marks → vec_items p'.marks_table ≡ vec_items p.marks_table
      → SheetMoment frames (to_frames os) (vec_items p.frames_table) (vec_items p.buffer) o r p'.frames (vec_items p'.frames_table) (vec_items p'.buffer) → MomentOf z os (orders.Frames o) p r p'
  frames_moment o r n e f F = record {
    told = told_by frames z (to_frames os) p'.frames (vec_items p.frames_table) (vec_items p'.frames_table) (vec_items p.buffer) (vec_items p'.buffer) o r S.frames_entries S.places F;
    buffer = buffer_by frames z (to_frames os) p'.frames (vec_items p.frames_table) (vec_items p'.frames_table) (vec_items p.buffer) (vec_items p'.buffer) o r S.frames_entries S.places F;
    drawn = front_by frames z (to_frames os) p'.frames (vec_items p.frames_table) (vec_items p'.frames_table) (vec_items p.buffer) (vec_items p'.buffer) o r S.frames_entries S.places F;
    stands = record {
      marks = subst (λ (cs : List (Order Mark)). After shapes cs p'.marks (vec_items p'.marks_table)) (sym (marks_none os (orders.Frames o) refl)) (subst (λ (st : Sheet × List (Entry Mark)). After shapes (to_marks os) st.0 st.1) (sym (λ i. (e i, f i))) S.marks);
      frames = subst (λ (cs : List (Order Rect)). After frames cs p'.frames (vec_items p'.frames_table)) (sym (frames_more os (orders.Frames o) (call_of o ∷ []) refl)) F.stands;
      marks_entries = ap length f ∙ S.marks_entries;
      frames_entries = n ∙ S.frames_entries;
      places = m ∙ S.places;
    };
    marks = marks_sound z.entries os;
    frames = frames_sound z.entries os;
  }

  -- ---- one to neither sheet
  pub other_after : (o : PageOrder) → to_marks (o ∷ []) ≡ [] → to_frames (o ∷ []) ≡ [] → p'.marks ≡ p.marks → vec_items p'.marks_table ≡ vec_items p.marks_table → p'.frames ≡ p.frames → vec_items p'.frames_table ≡ vec_items p.frames_table
      → PageAfter z (os ++ (o ∷ [])) p'
  other_after o a b e f g h = record {
    marks = subst (λ (cs : List (Order Mark)). After shapes cs p'.marks (vec_items p'.marks_table)) (sym (marks_none os o a)) (subst (λ (st : Sheet × List (Entry Mark)). After shapes (to_marks os) st.0 st.1) (sym (λ i. (e i, f i))) S.marks);
    frames = subst (λ (cs : List (Order Rect)). After frames cs p'.frames (vec_items p'.frames_table)) (sym (frames_none os o b)) (subst (λ (st : Sheet × List (Entry Rect)). After frames (to_frames os) st.0 st.1) (sym (λ i. (g i, h i))) S.frames);
    marks_entries = ap length f ∙ S.marks_entries;
    frames_entries = ap length h ∙ S.frames_entries;
    places = m ∙ S.places;
  }

  pub other_moment : (o : PageOrder) (r : Reply) → r ≡ reply_to z.entries z.places os o → vec_items p'.buffer ≡ buffer_after z.entries os o (vec_items p.buffer)
      → take (elements_in r) (vec_items p'.buffer) ≡ drawn_by z.entries z.places os o → PageAfter z (os ++ (o ∷ [])) p' → MomentOf z os o p r p'
  other_moment o r a b c d = record { told = a; buffer = b; drawn = c; stands = d; marks = marks_sound z.entries os; frames = frames_sound z.entries os }

  pub cover_moment : (q : CoverQuery) (r : Reply) → r ≡ cover_reply (length (vec_items p.buffer)) q.piece q.question → vec_items p'.buffer ≡ cover_buffer (vec_items p.buffer) q.piece q.question
      → PageAfter z (os ++ (orders.Cover q ∷ [])) p' → MomentOf z os (orders.Cover q) p r p'
  cover_moment q r a b d =
      other_moment (orders.Cover q) r
      (a ∙ ap (λ (places : ℕ). cover_reply places q.piece q.question) S.places)
      b
      ((λ i. take (elements_in (a i)) (b i)) ∙ cover_in_front (vec_items p.buffer) q.piece q.question ∙ ap (λ (places : ℕ). drawn_by z.entries places os (orders.Cover q)) S.places)
      d
