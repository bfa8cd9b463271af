-- The text of an answer and of an element. Assumes nothing.
use Rattle.std.specs.Prelude.{◌≡◌, ℕ, List, [], ◌∷◌, ◌++◌, Option, Some, None, codes, decimal, if◌then◌else◌, Float}
use Rattle.std.specs.Fmt.{signed_decimal}
use Rattle.numerals.specs.Numerals.{IsNumeral, Text}
use Rattle.plane.specs.declared.bezpath.PathEl.{PathEl}
use Rattle.plane.specs.declared.bezpath.PathEl.TheVariants.{MoveTo, LineTo, QuadTo, CurveTo, ClosePath}
use Rattle.plane.specs.declared.rect.Rect.{Rect}
use Rattle.plane.specs.Faults as Shapes
use Rattle.layers.specs.MoveFaults as Moves
use Rattle.marks.specs.declared.measures.Measures as of_marks
use Rattle.sheets.specs.SheetFaults as Sheets
use Rattle.sheets.specs.declared.order.Answer.{Answer}
use Rattle.sheets.specs.declared.order.Answer.TheVariants.{Position, Marks, Winding, Top, Box, Elements, Refused}
use Rattle.exam.specs.declared.reply.Reply.{Reply}
use Rattle.exam.specs.declared.reply.Reply.TheVariants.{Said, Right, Measures, Shape, Move}

-- numbers, each after a blank
abbrev pub SaysNumbers : List Float → Text → Type 0
SaysNumbers [] text = text ≡ []
SaysNumbers (x ∷ xs) text = (numeral rest : Text) × IsNumeral x numeral × SaysNumbers xs rest × (text ≡ codes " " ++ (numeral ++ rest))

-- a word, and the numbers that it stands for
abbrev pub Says : Text → List Float → Text → Type 0
Says word xs text = (numbers : Text) × SaysNumbers xs numbers × (text ≡ word ++ numbers)

abbrev pub SaysElement : PathEl → Text → Type 0
SaysElement (MoveTo p) text = Says (codes "M") (p.x ∷ p.y ∷ []) text
SaysElement (LineTo p) text = Says (codes "L") (p.x ∷ p.y ∷ []) text
SaysElement (QuadTo p q) text = Says (codes "Q") (p.x ∷ p.y ∷ q.x ∷ q.y ∷ []) text
SaysElement (CurveTo p q r) text = Says (codes "C") (p.x ∷ p.y ∷ q.x ∷ q.y ∷ r.x ∷ r.y ∷ []) text
SaysElement ClosePath text = text ≡ codes "Z"

abbrev pub SaysBox : Rect → Text → Type 0
SaysBox r text = Says (codes "box") (r.x0 ∷ r.y0 ∷ r.x1 ∷ r.y1 ∷ []) text

abbrev pub SaysAnswer : Answer → Text → Type 0
SaysAnswer (Position i) text = text ≡ codes "position " ++ decimal i
SaysAnswer (Marks n) text = text ≡ decimal n ++ codes " marks"
SaysAnswer (Winding w) text = text ≡ codes "winding " ++ signed_decimal w
SaysAnswer (Top (Some i)) text = text ≡ codes "top " ++ decimal i
SaysAnswer (Top None) text = text ≡ codes "top none"
SaysAnswer (Box (Some b)) text = SaysBox b text
SaysAnswer (Box None) text = text ≡ codes "box none"
SaysAnswer (Elements n) text = text ≡ decimal n ++ codes " elements"
SaysAnswer (Refused f) text = text ≡ codes "refused " ++ Sheets.text_of f

-- the steps that a length took, after a blank, where it took any
abbrev pub steps_text : Option ℕ → Text
steps_text (Some n) = codes " steps " ++ decimal n
steps_text None = []

abbrev pub SaysMeasures : of_marks.Measures → Text → Type 0
SaysMeasures m text = (area perimeter sides : Text)
    × Says (codes "area") (m.area ∷ []) area
    × Says (codes "perimeter") (m.perimeter ∷ []) perimeter
    × SaysBox m.bounding_box sides
    × (text ≡ area ++ (codes " " ++ (perimeter ++ (codes " " ++ (sides ++ steps_text m.steps)))))

abbrev pub SaysReply : Reply → Text → Type 0
SaysReply (Said a) text = SaysAnswer a text
SaysReply (Right b) text = text ≡ (if b then codes "right" else codes "wrong")
SaysReply (Measures m) text = SaysMeasures m text
SaysReply (Shape f) text = text ≡ codes "refused " ++ Shapes.text_of f
SaysReply (Move f) text = text ≡ codes "refused " ++ Moves.text_of f
