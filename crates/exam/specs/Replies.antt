-- What single orders are answered: set points, measures and questions about coverings; and which answers are refusals. Assumes nothing.
use Rattle.std.specs.Prelude.{ℕ, Bool, true, false, cond, nat_eq, nat_lt, List, Some, None, Ok, Err, Option, Result}
use Rattle.plane.specs.declared.bezpath.PathEl.{PathEl}
use Rattle.plane.specs.declared.fault.ShapeFault.{ShapeFault}
use Rattle.plane.specs.Paths.{Drawn}
use Rattle.marks.specs.declared.measures.Measures.{Measures}
use Rattle.marks.specs.Measured.{measures_of}
use Rattle.pieces.specs.declared.piece.Piece.{Piece}
use Rattle.pieces.specs.Pieces.{wind, box, drawn}
use Rattle.sheets.specs.declared.fault.SheetFault.TheVariants.{NoMark}
use Rattle.sheets.specs.declared.order.Answer.{Answer}
use Rattle.sheets.specs.declared.order.Answer.TheVariants as Answers
use Rattle.sheets.specs.Answers.{elements_of}
use Rattle.sheets.specs.Book.{at_page_point, draw_answer, draw_buffer}
use Rattle.sheets.specs.Runs.{answered}
use Rattle.exam.specs.declared.reply.Reply.{Reply}
use Rattle.exam.specs.declared.reply.Reply.TheVariants.{Said, Right, Measures as Measured, Shape, Move}
use Rattle.orders.specs.declared.order.Measured.{Measured as Meant}
use Rattle.orders.specs.declared.order.Question.{Question}
use Rattle.orders.specs.declared.order.Question.TheVariants.{Winding, BoundingBox, Draw}

-- ---- set points
-- one position, or nothing, and the same
abbrev pub same_top : Option ℕ → Option ℕ → Bool
same_top (Some i) (Some j) = nat_eq i j
same_top (Some i) None = false
same_top None (Some j) = false
same_top None None = true

-- right exactly if the key says which mark is uppermost, or that none is; a key that names none of so many marks is refused
abbrev pub judged : Option ℕ → ℕ → Option ℕ → Reply
judged None marks top = Right (same_top top None)
judged (Some i) marks top = cond (nat_lt i marks) (Right (same_top top (Some i))) (Said (Answers.Refused NoMark))

-- a refusal stays one
abbrev pub verdict : Option ℕ → ℕ → Answer → Reply
verdict key marks (Answers.Top top) = judged key marks top
verdict key marks (Answers.Position i) = Said (Answers.Position i)
verdict key marks (Answers.Marks n) = Said (Answers.Marks n)
verdict key marks (Answers.Winding w) = Said (Answers.Winding w)
verdict key marks (Answers.Box b) = Said (Answers.Box b)
verdict key marks (Answers.Elements n) = Said (Answers.Elements n)
verdict key marks (Answers.Refused f) = Said (Answers.Refused f)

-- ---- measures
abbrev pub measured_as : Result Measures ShapeFault → Reply
measured_as (Ok m) = Measured m
measured_as (Err f) = Shape f

abbrev pub measured : Meant → Reply
measured m = measured_as (measures_of m.mark m.accuracy m.allowance)

-- ---- questions about a covering, where the buffer has so many places
-- a path is drawn as a sheet is, or refused by the shape
abbrev pub cover_drawn : ℕ → Drawn → Reply
cover_drawn places (Ok els) = Said (answered Answers.Elements (draw_answer places (Ok els)))
cover_drawn places (Err f) = Shape f

abbrev pub path_buffer : List PathEl → Drawn → List PathEl
path_buffer buffer (Ok els) = draw_buffer buffer (Ok els)
path_buffer buffer (Err f) = buffer

-- at a page point its winding, and elsewhere a refusal; its box; the count of its path's elements
abbrev pub cover_reply : ℕ → Piece → Question → Reply
cover_reply places s (Winding p) = Said (answered Answers.Winding (at_page_point p (wind s p)))
cover_reply places s BoundingBox = Said (Answers.Box (Some (box s)))
cover_reply places s (Draw t) = cover_drawn places (drawn s t)

abbrev pub cover_buffer : List PathEl → Piece → Question → List PathEl
cover_buffer buffer s (Winding p) = buffer
cover_buffer buffer s BoundingBox = buffer
cover_buffer buffer s (Draw t) = path_buffer buffer (drawn s t)

-- ---- drawn elements, refusals, and right answers
abbrev pub elements_in : Reply → ℕ
elements_in (Said a) = elements_of a
elements_in (Right b) = 0
elements_in (Measured m) = 0
elements_in (Shape f) = 0
elements_in (Move f) = 0

abbrev pub is_refusal : Answer → Bool
is_refusal (Answers.Refused f) = true
is_refusal (Answers.Position i) = false
is_refusal (Answers.Marks n) = false
is_refusal (Answers.Winding w) = false
is_refusal (Answers.Top t) = false
is_refusal (Answers.Box b) = false
is_refusal (Answers.Elements n) = false

abbrev pub is_refused : Reply → Bool
is_refused (Said a) = is_refusal a
is_refused (Right b) = false
is_refused (Measured m) = false
is_refused (Shape f) = true
is_refused (Move f) = true

abbrev pub is_right : Reply → Bool
is_right (Right b) = b
is_right (Said a) = false
is_right (Measured m) = false
is_right (Shape f) = false
is_right (Move f) = false
