-- What the orders of a page are told, by two books: one for the marks, one for the frames. Assumes nothing.
use Rattle.std.specs.Prelude.{◌≡◌, ℕ, cond, nat_le, List, [], ◌∷◌, ◌++◌, length, Some, None, Ok, Err, Option, Result}
use Rattle.std.specs.List.{filter_map}
use Rattle.plane.specs.declared.bezpath.PathEl.{PathEl}
use Rattle.plane.specs.declared.rect.Rect.{Rect}
use Rattle.plane.specs.Rects as Rects
use Rattle.marks.specs.declared.mark.Mark.{Mark}
use Rattle.marks.specs.Marks as Marked
use Rattle.pieces.specs.declared.piece.Piece.{Piece}
use Rattle.pieces.specs.Pieces.{drawn}
use Rattle.sheets.specs.declared.order.Order.{Order}
use Rattle.sheets.specs.declared.order.Order.TheVariants as calls
use Rattle.sheets.specs.declared.sheet.Entry.{Entry}
use Rattle.sheets.specs.declared.sheet.Sheet.{Sheet}
use Rattle.sheets.specs.Book.{Marks, Row, all_drawn}
use Rattle.sheets.specs.Runs.{reply, ends, inked, After}
use Rattle.sheets.specs.Sound.{Sound}
use Rattle.orders.specs.declared.order.SheetOrder.{SheetOrder}
use Rattle.orders.specs.declared.order.SheetOrder.TheVariants.{Call, Set}
use Rattle.orders.specs.declared.order.PageOrder.{PageOrder}
use Rattle.orders.specs.declared.order.PageOrder.TheVariants as orders
use Rattle.orders.specs.declared.order.Question.{Question}
use Rattle.orders.specs.declared.order.Question.TheVariants as questions
use Rattle.exam.specs.declared.reply.Reply.{Reply}
use Rattle.exam.specs.declared.reply.Reply.TheVariants.{Said, Move}
use Rattle.exam.specs.Replies.{verdict, measured, cover_reply, cover_buffer}

-- what the marks mean, and the frames
abbrev pub shapes : Marks Mark
shapes = record { wind = Marked.wind; frame = Marked.box; drawn = Marked.drawn }

abbrev pub frames : Marks Rect
frames = record { wind = Rects.wind; frame = Rects.box; drawn = Rects.drawn }

-- ---- one sheet
-- which call an order is: a set point asks which mark is uppermost
abbrev pub call_of : {M : Type 0} → SheetOrder M → Order M
call_of (Call o) = o
call_of (Set p) = calls.Top p.at

-- what an order is told, where the table has n entries, the buffer has so many places, and the book has these rows
abbrev pub told : {M : Type 0} → Marks M → ℕ → ℕ → List (Row M) → SheetOrder M → Reply
told k n places bs (Call o) = Said (reply k n places bs o)
told k n places bs (Set p) = verdict p.key (length bs) (reply k n places bs (calls.Top p.at))

-- one order after these calls: it is told what the book tells, the buffer is the book's, what is left stands after these
-- calls with this one at their end, and the book's rows are sound
pub record SheetMoment {M : Type 0} (k : Marks M) (os : List (Order M)) (t : List (Entry M)) (buffer : List PathEl) (o : SheetOrder M) (r : Reply) (s' : Sheet) (t' : List (Entry M)) (buffer' : List PathEl) : Type 0 where
  pub told : r ≡ told k (length t) (length buffer) (ends k (length t) [] os) o
  pub drawn : buffer' ≡ inked k (ends k (length t) [] os) buffer (call_of o)
  pub stands : After k (os ++ (call_of o ∷ [])) s' t'
  pub sound : Sound k (ends k (length t) [] os)

-- for every list of calls after which the sheet and the table can stand
abbrev pub SheetAtEachMoment : {M : Type 0} → Marks M → Sheet → List (Entry M) → List PathEl → SheetOrder M → Reply → Sheet → List (Entry M) → List PathEl → Type 0
SheetAtEachMoment {M} k s t buffer o r s' t' buffer' = (os : List (Order M)) → After k os s t → SheetMoment k os t buffer o r s' t' buffer'

-- ---- the calls to each sheet, of a list of orders
abbrev pub marks_call : PageOrder → Option (Order Mark)
marks_call (orders.Marks o) = Some (call_of o)
marks_call (orders.Frames o) = None
marks_call (orders.Measure m) = None
marks_call (orders.Cover q) = None
marks_call (orders.NoMove f) = None

abbrev pub frames_call : PageOrder → Option (Order Rect)
frames_call (orders.Marks o) = None
frames_call (orders.Frames o) = Some (call_of o)
frames_call (orders.Measure m) = None
frames_call (orders.Cover q) = None
frames_call (orders.NoMove f) = None

abbrev pub to_marks : List PageOrder → List (Order Mark)
to_marks = filter_map marks_call

abbrev pub to_frames : List PageOrder → List (Order Rect)
to_frames = filter_map frames_call

-- the rows of both books after these orders, over tables of n entries
abbrev pub marks_rows : ℕ → List PageOrder → List (Row Mark)
marks_rows n os = ends shapes n [] (to_marks os)

abbrev pub frames_rows : ℕ → List PageOrder → List (Row Rect)
frames_rows n os = ends frames n [] (to_frames os)

-- ---- one order after these, on a page of n entries and so many places
abbrev pub reply_to : ℕ → ℕ → List PageOrder → PageOrder → Reply
reply_to n places os (orders.Marks o) = told shapes n places (marks_rows n os) o
reply_to n places os (orders.Frames o) = told frames n places (frames_rows n os) o
reply_to n places os (orders.Measure m) = measured m
reply_to n places os (orders.Cover q) = cover_reply places q.piece q.question
reply_to n places os (orders.NoMove f) = Move f

-- the buffer afterwards
abbrev pub buffer_after : ℕ → List PageOrder → PageOrder → List PathEl → List PathEl
buffer_after n os (orders.Marks o) buffer = inked shapes (marks_rows n os) buffer (call_of o)
buffer_after n os (orders.Frames o) buffer = inked frames (frames_rows n os) buffer (call_of o)
buffer_after n os (orders.Measure m) buffer = buffer
buffer_after n os (orders.Cover q) buffer = cover_buffer buffer q.piece q.question
buffer_after n os (orders.NoMove f) buffer = buffer

-- ---- the elements that an order draws
-- those of a drawing that is granted, where there are so many places; of one that is refused there are none
abbrev pub granted : {F : Type 0} → ℕ → Result (List PathEl) F → List PathEl
granted places (Ok els) = cond (nat_le (length els) places) els []
granted places (Err f) = []

abbrev pub sheet_drawing : {M : Type 0} → Marks M → ℕ → List (Row M) → Order M → List PathEl
sheet_drawing k places bs (calls.Put mark m) = []
sheet_drawing k places bs (calls.Shift i m) = []
sheet_drawing k places bs (calls.ShiftAll m) = []
sheet_drawing k places bs (calls.Lift i) = []
sheet_drawing k places bs (calls.Winding p) = []
sheet_drawing k places bs (calls.Top p) = []
sheet_drawing k places bs calls.BoundingBox = []
sheet_drawing k places bs (calls.Draw t) = granted places (all_drawn k t bs)

abbrev pub cover_drawing : ℕ → Piece → Question → List PathEl
cover_drawing places s (questions.Winding p) = []
cover_drawing places s questions.BoundingBox = []
cover_drawing places s (questions.Draw t) = granted places (drawn s t)

abbrev pub drawn_by : ℕ → ℕ → List PageOrder → PageOrder → List PathEl
drawn_by n places os (orders.Marks o) = sheet_drawing shapes places (marks_rows n os) (call_of o)
drawn_by n places os (orders.Frames o) = sheet_drawing frames places (frames_rows n os) (call_of o)
drawn_by n places os (orders.Measure m) = []
drawn_by n places os (orders.Cover q) = cover_drawing places q.piece q.question
drawn_by n places os (orders.NoMove f) = []
