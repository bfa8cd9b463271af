-- Each kind of order is carried out on its sheet, and leaves the other as it was. Assumes nothing.
use Rattle.std.proofs.Common.{◌≡◌, List, length, take, sym, refl, ap, ◌∙◌, subst, arith, vec_items}
use Rattle.std.proofs.lemmas.List.{with_items_is}
use Rattle.plane.specs.declared.bezpath.PathEl.{PathEl}
use Rattle.plane.specs.declared.rect.Rect.{Rect}
use Rattle.marks.specs.declared.mark.Mark.{Mark}
use Rattle.sheets.specs.declared.sheet.Entry.{Entry}
use Rattle.sheets.specs.Runs.{After}
use Rattle.orders.specs.declared.order.PageOrder.{PageOrder}
use Rattle.orders.specs.declared.order.PageOrder.TheVariants as orders
use Rattle.exam.specs.declared.reply.Reply.{Reply}
use Rattle.exam.specs.declared.reply.Reply.TheVariants.{Move}
use Rattle.exam.specs.Replies.{elements_in, cover_reply, cover_buffer}
use Rattle.exam.proofs.Drawings.{none_measured}
use Rattle.std.specs.Vec.{with_items}
use Rattle.exam.specs.declared.page.Page.{Page}
use Rattle.exam.specs.Moments.{MomentOf}
use Rattle.exam.specs.Pages.{shapes, frames, to_marks, to_frames, SheetMoment}
use Rattle.exam.proofs.Pages.{marks_moment, frames_moment, cover_moment, other_moment, other_after}
use Rattle.exam.proofs.page.Page.follow.Goals as goal

pub returns-in-Marks : goal.returns-in-Marks
returns-in-Marks c = record {
  history = λ z os S.
      let p = c.args.self.now in
      let tab = c.as_mut_slice in
      let buf = c.as_mut_slice-buffer in
      let new = c.follow.new in
      let p' : Page = record { marks = new.sheet; frames = p.frames; marks_table = with_items p.marks_table new.table; frames_table = p.frames_table; buffer = with_items p.buffer new.buffer } in
      let n : length new.table ≡ length tab.result.now = omega arith in
      let m : length new.buffer ≡ length buf.result.now = omega arith in
      let e = with_items_is p.marks_table new.table (n ∙ tab.ensures.len) in
      let f = with_items_is p.buffer new.buffer (m ∙ buf.ensures.len) in
      let F = c.follow.ensures.history (to_marks os) (subst (After shapes (to_marks os) p.marks) (sym tab.ensures.value) S.marks) in
      let G = subst (λ (w : (List (Entry Mark) × List PathEl) × (List (Entry Mark) × List PathEl)). SheetMoment shapes (to_marks os) w.0.0 w.0.1 c.in-Marks.order c.follow.result new.sheet w.1.0 w.1.1)
      (λ i. ((tab.ensures.value i, buf.ensures.value i), (sym e i, sym f i))) F in
      subst (λ (o : PageOrder). MomentOf z os o p c.follow.result p') (sym c.in-Marks.is)
      (marks_moment z os p p' S (ap length f ∙ m ∙ ap length buf.ensures.value) c.in-Marks.order c.follow.result (ap length e ∙ n ∙ ap length tab.ensures.value) refl refl G);
}

pub returns-in-Frames : goal.returns-in-Frames
returns-in-Frames c = record {
  history = λ z os S.
      let p = c.args.self.now in
      let tab = c.as_mut_slice-in-Frames in
      let buf = c.as_mut_slice-buffer in
      let new = c.follow-in-Frames.new in
      let p' : Page = record { marks = p.marks; frames = new.sheet; marks_table = p.marks_table; frames_table = with_items p.frames_table new.table; buffer = with_items p.buffer new.buffer } in
      let n : length new.table ≡ length tab.result.now = omega arith in
      let m : length new.buffer ≡ length buf.result.now = omega arith in
      let e = with_items_is p.frames_table new.table (n ∙ tab.ensures.len) in
      let f = with_items_is p.buffer new.buffer (m ∙ buf.ensures.len) in
      let F = c.follow-in-Frames.ensures.history (to_frames os) (subst (After frames (to_frames os) p.frames) (sym tab.ensures.value) S.frames) in
      let G = subst (λ (w : (List (Entry Rect) × List PathEl) × (List (Entry Rect) × List PathEl)). SheetMoment frames (to_frames os) w.0.0 w.0.1 c.in-Frames.order c.follow-in-Frames.result new.sheet w.1.0 w.1.1)
      (λ i. ((tab.ensures.value i, buf.ensures.value i), (sym e i, sym f i))) F in
      subst (λ (o : PageOrder). MomentOf z os o p c.follow-in-Frames.result p') (sym c.in-Frames.is)
      (frames_moment z os p p' S (ap length f ∙ m ∙ ap length buf.ensures.value) c.in-Frames.order c.follow-in-Frames.result (ap length e ∙ n ∙ ap length tab.ensures.value) refl refl G);
}

pub returns-in-Measure : goal.returns-in-Measure
returns-in-Measure c = record {
  history = λ z os S.
      let p = c.args.self.now in
      let buf = c.as_mut_slice-buffer in
      let p' : Page = record { marks = p.marks; frames = p.frames; marks_table = p.marks_table; frames_table = p.frames_table; buffer = with_items p.buffer buf.result.now } in
      let f = with_items_is p.buffer buf.result.now buf.ensures.len ∙ buf.ensures.value in
      let m : length (vec_items p'.buffer) ≡ length (vec_items p.buffer) = ap length f in
      let o = orders.Measure c.in-Measure.measured in
      subst (λ (o : PageOrder). MomentOf z os o p c.measure.result p') (sym c.in-Measure.is)
      (other_moment z os p p' S m o c.measure.result c.measure.ensures f (ap (λ (r : Reply). take (elements_in r) (vec_items p'.buffer)) c.measure.ensures ∙ none_measured c.in-Measure.measured (vec_items p'.buffer))
      (other_after z os p p' S m o refl refl refl refl refl refl));
}

pub returns-in-Cover : goal.returns-in-Cover
returns-in-Cover c = record {
  history = λ z os S.
      let p = c.args.self.now in
      let buf = c.as_mut_slice-buffer in
      let new = c.cover.new in
      let p' : Page = record { marks = p.marks; frames = p.frames; marks_table = p.marks_table; frames_table = p.frames_table; buffer = with_items p.buffer new.buffer } in
      let l : length new.buffer ≡ length buf.result.now = omega arith in
      let f = with_items_is p.buffer new.buffer (l ∙ buf.ensures.len) in
      let m : length (vec_items p'.buffer) ≡ length (vec_items p.buffer) = ap length f ∙ l ∙ ap length buf.ensures.value in
      let q = c.in-Cover.query in
      subst (λ (o : PageOrder). MomentOf z os o p c.cover.result p') (sym c.in-Cover.is)
      (cover_moment z os p p' S m q c.cover.result
      (c.cover.ensures.reply ∙ ap (λ (els : List PathEl). cover_reply (length els) q.piece q.question) buf.ensures.value)
      (f ∙ c.cover.ensures.buffer ∙ ap (λ (els : List PathEl). cover_buffer els q.piece q.question) buf.ensures.value)
      (other_after z os p p' S m (orders.Cover q) refl refl refl refl refl refl));
}

pub returns-in-NoMove : goal.returns-in-NoMove
returns-in-NoMove c = record {
  history = λ z os S.
      let p = c.args.self.now in
      let buf = c.as_mut_slice-buffer in
      let p' : Page = record { marks = p.marks; frames = p.frames; marks_table = p.marks_table; frames_table = p.frames_table; buffer = with_items p.buffer buf.result.now } in
      let f = with_items_is p.buffer buf.result.now buf.ensures.len ∙ buf.ensures.value in
      let m : length (vec_items p'.buffer) ≡ length (vec_items p.buffer) = ap length f in
      let o = orders.NoMove c.in-NoMove.fault in
      subst (λ (o : PageOrder). MomentOf z os o p (Move c.in-NoMove.fault) p') (sym c.in-NoMove.is)
      (other_moment z os p p' S m o (Move c.in-NoMove.fault) refl f refl (other_after z os p p' S m o refl refl refl refl refl refl));
}
