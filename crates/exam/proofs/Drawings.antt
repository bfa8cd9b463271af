-- What an order draws stands at the start of the buffer. Assumes nothing.
use Rattle.std.proofs.Common.{◌≡◌, ℕ, Bool, cond, true, false, nat_lt, nat_le, List, ◌++◌, length, ℤ, Option, Some, None, take, drop, [], refl, ap}
use Rattle.std.specs.Prelude.{Ok, Err, Result}
use Rattle.std.proofs.Math.Seq.{take-append_seam}
use Rattle.plane.specs.declared.bezpath.PathEl.{PathEl}
use Rattle.plane.specs.Paths.{Drawn}
use Rattle.plane.specs.declared.fault.ShapeFault.{ShapeFault}
use Rattle.marks.specs.declared.measures.Measures.{Measures}
use Rattle.marks.specs.Measured.{measures_of}
use Rattle.orders.specs.declared.order.Measured.{Measured}
use Rattle.pieces.specs.declared.piece.Piece.{Piece}
use Rattle.pieces.specs.Pieces.{drawn}
use Rattle.sheets.specs.declared.fault.SheetFault.{SheetFault}
use Rattle.sheets.specs.declared.fault.SheetFault.TheVariants.{TooSmall, NoMark}
use Rattle.sheets.specs.declared.order.Order.{Order}
use Rattle.sheets.specs.declared.order.Order.TheVariants.{Put, Shift, ShiftAll, Lift, Winding, Top, BoundingBox, Draw}
use Rattle.sheets.specs.declared.order.Answer.TheVariants as said
use Rattle.sheets.specs.Answers.{elements_of}
use Rattle.sheets.specs.Book.{Marks, Row, Inked, put_answer, shift_answer, shift_all_answer, lift_answer, at_page_point, total, highest, all_drawn, draw_answer, draw_buffer}
use Rattle.sheets.specs.Runs.{reply, inked, answered}
use Rattle.orders.specs.declared.order.SheetOrder.{SheetOrder}
use Rattle.orders.specs.declared.order.SheetOrder.TheVariants.{Call, Set}
use Rattle.orders.specs.declared.order.Question.{Question}
use Rattle.orders.specs.declared.order.Question.TheVariants as questions
use Rattle.exam.specs.declared.reply.Reply.TheVariants.{Said, Right}
use Rattle.exam.specs.Replies.{same_top, judged, verdict, elements_in, measured_as, measured, cover_drawn, path_buffer, cover_reply, cover_buffer}
use Rattle.exam.specs.Pages.{granted, sheet_drawing, cover_drawing, told, call_of}

-- ---- a drawing, granted or refused
front_of : (b : Bool) (els buffer : List PathEl) → take (elements_of (answered said.Elements (cond b (Ok (length els)) (Err TooSmall)))) (cond b (els ++ drop (length els) buffer) buffer) ≡ cond b els []
front_of true els buffer = take-append_seam els (drop (length els) buffer)
front_of false els buffer = refl

front : (buffer : List PathEl) (I : Inked) → take (elements_of (answered said.Elements (draw_answer (length buffer) I))) (draw_buffer buffer I) ≡ granted (length buffer) I
front buffer (Ok els) = front_of (nat_le (length els) (length buffer)) els buffer
front buffer (Err f) = refl

-- ---- any call
none_at : (r : Result ℕ SheetFault) → elements_of (answered said.Position r) ≡ 0
none_at (Ok i) = refl
none_at (Err f) = refl

none_of : (r : Result ℕ SheetFault) → elements_of (answered said.Marks r) ≡ 0
none_of (Ok i) = refl
none_of (Err f) = refl

none_wound : (r : Result ℤ SheetFault) → elements_of (answered said.Winding r) ≡ 0
none_wound (Ok i) = refl
none_wound (Err f) = refl

none_top : (r : Result (Option ℕ) SheetFault) → elements_of (answered said.Top r) ≡ 0
none_top (Ok i) = refl
none_top (Err f) = refl

-- ---- a set point draws nothing
none_judged_of : (b : Bool) (i : ℕ) (top : Option ℕ) → elements_in (cond b (Right (same_top top (Some i))) (Said (said.Refused NoMark))) ≡ 0
none_judged_of true i top = refl
none_judged_of false i top = refl

none_judged : (key : Option ℕ) (marks : ℕ) (top : Option ℕ) → elements_in (judged key marks top) ≡ 0
none_judged None marks top = refl
none_judged (Some i) marks top = none_judged_of (nat_lt i marks) i top

none_set : (key : Option ℕ) (marks : ℕ) (r : Result (Option ℕ) SheetFault) → elements_in (verdict key marks (answered said.Top r)) ≡ 0
none_set key marks (Ok top) = none_judged key marks top
none_set key marks (Err f) = refl

module _ {M : Type 0} (k : Marks M) (n : ℕ) (bs : List (Row M)) (buffer : List PathEl) where
  call_in_front : (o : Order M) → take (elements_of (reply k n (length buffer) bs o)) (inked k bs buffer o) ≡ sheet_drawing k (length buffer) bs o
  call_in_front (Put mark m) = ap (λ j. take j buffer) (none_at (put_answer k n bs mark))
  call_in_front (Shift i m) = ap (λ j. take j buffer) (none_at (shift_answer bs i i m.map))
  call_in_front (ShiftAll m) = ap (λ j. take j buffer) (none_of (shift_all_answer bs m.map))
  call_in_front (Lift i) = ap (λ j. take j buffer) (none_of (lift_answer bs i))
  call_in_front (Winding p) = ap (λ j. take j buffer) (none_wound (at_page_point p (total k p bs)))
  call_in_front (Top p) = ap (λ j. take j buffer) (none_top (at_page_point p (highest k p bs)))
  call_in_front BoundingBox = refl
  call_in_front (Draw t) = front buffer (all_drawn k t bs)

  pub sheet_in_front : (o : SheetOrder M) → take (elements_in (told k n (length buffer) bs o)) (inked k bs buffer (call_of o)) ≡ sheet_drawing k (length buffer) bs (call_of o)
  sheet_in_front (Call o) = call_in_front o
  sheet_in_front (Set p) = ap (λ j. take j buffer) (none_set p.key (length bs) (at_page_point p.at (highest k p.at bs)))

-- ---- coverings
path_in_front : (buffer : List PathEl) (d : Drawn) → take (elements_in (cover_drawn (length buffer) d)) (path_buffer buffer d) ≡ granted (length buffer) d
path_in_front buffer (Ok els) = front_of (nat_le (length els) (length buffer)) els buffer
path_in_front buffer (Err f) = refl

pub cover_in_front : (buffer : List PathEl) (s : Piece) (q : Question) → take (elements_in (cover_reply (length buffer) s q)) (cover_buffer buffer s q) ≡ cover_drawing (length buffer) s q
cover_in_front buffer s (questions.Winding p) = ap (λ j. take j buffer) (none_wound _)
cover_in_front buffer s questions.BoundingBox = refl
cover_in_front buffer s (questions.Draw t) = path_in_front buffer (drawn s t)

-- ---- measures draw nothing
none_measured_as : (r : Result Measures ShapeFault) (buffer : List PathEl) → take (elements_in (measured_as r)) buffer ≡ []
none_measured_as (Ok m) buffer = refl
none_measured_as (Err f) buffer = refl

pub none_measured : (m : Measured) (buffer : List PathEl) → take (elements_in (measured m)) buffer ≡ []
none_measured m buffer = none_measured_as (measures_of m.mark m.accuracy m.allowance) buffer
