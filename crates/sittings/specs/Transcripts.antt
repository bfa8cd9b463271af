-- What is written of a sitting, line by line. Assumes nothing.
use Rattle.std.specs.Prelude.{◌≡◌, ℕ, ◌++◌, List, [], ◌∷◌, Option, Some, None, Result, Ok, Err, codes, decimal}
use Rattle.std.specs.Io.KnownBytes.{Appends}
use Rattle.plane.specs.declared.bezpath.PathEl.{PathEl}
use Rattle.exam.specs.Pages.{drawn_by}
use Rattle.exam.specs.Texts.{SaysReply, SaysElement}
use Rattle.exam.specs.declared.reply.Reply.{Reply}
use Rattle.orders.specs.declared.line.Line.{Line}
use Rattle.orders.specs.declared.line.Line.TheVariants as lines
use Rattle.orders.specs.declared.unreadable.Intent.{Intent}
use Rattle.orders.specs.declared.unreadable.Intent.TheVariants as intents
use Rattle.orders.specs.declared.order.PageOrder.{PageOrder}
use Rattle.orders.specs.Words.{Text}
use Rattle.orders.specs.Lines.{order_of, line_of}
use Rattle.orders.specs.Intents.{intent_of}
use Rattle.orders.specs.Escapes.{escaped}
use Rattle.sittings.specs.declared.progress.Standing.{Standing}
use Rattle.sittings.specs.declared.progress.Standing.TheVariants.{NoPage, Marked, Unmarked}
use Rattle.sittings.specs.Courses.{Course, reply_in, begun, come, without_byte_order_mark}
use Rattle.sittings.specs.declared.tally.Tally.{Tally}
use Rattle.sittings.specs.Tallies.{page_sum, summary}
use Rattle.sittings.specs.Progresses.{over}

-- such a text is written
abbrev pub Written : (Text → Type 0) → Option Text → Option Text → Type 0
Written Says old new = (text : Text) × Says text × Appends old new text

-- ---- the sum of a page that ends, if there is one
abbrev pub sum_text : Standing → Text → Tally → Text
sum_text NoPage name t = []
sum_text Marked name t = page_sum name t ++ codes "\n"
sum_text Unmarked name t = page_sum name t ++ codes "\n"

abbrev pub end_text : Course → Text
end_text s = sum_text s.progress.standing s.name s.progress.page

-- ---- an order: LINE ORDER -> ANSWER, and the elements that it draws, one a line
-- LINE ORDER
abbrev pub numbered : ℕ → Text → Text
numbered n text = decimal n ++ (codes " " ++ text)

abbrev pub ElementsSay : List PathEl → Text → Type 0
ElementsSay [] text = text ≡ []
ElementsSay (e ∷ es) text = (line rest : Text) × SaysElement e line × ElementsSay es rest × (text ≡ line ++ (codes "\n" ++ rest))

abbrev pub AnswerSays : ℕ → Text → Reply → List PathEl → Text → Type 0
AnswerSays n order r es text = (answer elements : Text) × SaysReply r answer × ElementsSay es elements × (text ≡ numbered n (escaped order ++ (codes " -> " ++ (answer ++ (codes "\n" ++ elements)))))

abbrev pub CarriedSays : Text → PageOrder → Course → Text → Type 0
CarriedSays order o s text = AnswerSays s.progress.lines order (reply_in s o) (drawn_by s.sizes.entries s.sizes.places s.orders o) text

abbrev pub not_marked_text : Text → Course → Text
not_marked_text order s = numbered s.progress.lines (escaped order ++ (codes " -> not marked: " ++ (s.name ++ codes "\n")))

abbrev pub ObeyedSays : Standing → Text → PageOrder → Course → Text → Type 0
ObeyedSays Marked order o s text = CarriedSays order o s text
ObeyedSays NoPage order o s text = CarriedSays order o (begun s) text
ObeyedSays Unmarked order o s text = text ≡ not_marked_text order s

-- ---- a page line: the page before it is summed up first
abbrev pub turned_text : Text → Course → Text
turned_text order s = end_text s ++ numbered s.progress.lines (escaped order ++ codes " -> 0 marks\n")

-- ---- a line that cannot be read: LINE unreadable: REASON
abbrev pub meant_text : Intent → Course → Text
meant_text intents.Page s = end_text s
meant_text intents.Change s = []
meant_text intents.Question s = []

abbrev pub passed_text : Intent → Text → Course → Text
passed_text i why s = meant_text i s ++ numbered s.progress.lines (codes "unreadable: " ++ (why ++ codes "\n"))

-- ---- any line
abbrev pub FollowedSays : Text → Line → Course → Text → Type 0
FollowedSays order (lines.Page z) s text = text ≡ turned_text order s
FollowedSays order (lines.Order o) s text = ObeyedSays s.progress.standing order o s text

abbrev pub ReadSays : Text → Text → Result Line Text → Course → Text → Type 0
ReadSays bytes order (Ok l) s text = FollowedSays order l s text
ReadSays bytes order (Err why) s text = text ≡ passed_text (intent_of bytes) why s

abbrev pub TakenSays : Text → Result Text Text → Course → Text → Type 0
TakenSays bytes (Ok []) s text = text ≡ []
TakenSays bytes (Ok (b ∷ bs)) s text = ReadSays bytes (b ∷ bs) (line_of (b ∷ bs)) s text
TakenSays bytes (Err why) s text = text ≡ passed_text (intent_of bytes) why s

abbrev pub LineSays : Text → Course → Text → Type 0
LineSays line s text = TakenSays (without_byte_order_mark s.progress.lines line) (order_of (without_byte_order_mark s.progress.lines line)) (come s) text

-- ---- why a line cannot be read
abbrev pub fault_of : Result Line Text → Option Text
fault_of (Ok l) = None
fault_of (Err why) = Some why

abbrev pub taken_fault : Result Text Text → Option Text
taken_fault (Ok []) = None
taken_fault (Ok (b ∷ bs)) = fault_of (line_of (b ∷ bs))
taken_fault (Err why) = Some why

abbrev pub fault_in : Text → Course → Option Text
fault_in line s = taken_fault (order_of (without_byte_order_mark s.progress.lines line))

-- ---- the end: the page is summed up, and then come the two last lines
abbrev pub finish_text : Course → Text
finish_text s = end_text s ++ (summary (over s.progress).total ++ codes "\n")
