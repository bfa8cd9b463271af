-- The texts of answers. Assumes nothing.
use Rattle.std.specs.Prelude.{ℕ, cond, List, [], ◌∷◌, ◌++◌, codes, decimal, vec_items, Float}
use Rattle.std.specs.Fmt.{signed_decimal}
use Rattle.std.specs.List.{flat_map}
use Rattle.cases.specs.Texts.{written}
use Rattle.plane.specs.Faults.{text_of as fault_text}
use Rattle.plane.specs.declared.bezpath.PathEl.{PathEl}
use Rattle.plane.specs.declared.bezpath.PathEl.TheVariants.{MoveTo, LineTo, QuadTo, CurveTo, ClosePath}
use Rattle.plane.specs.declared.point.Point.{Point}
use Rattle.questions.specs.declared.answer.Answer.{Answer}
use Rattle.questions.specs.declared.answer.Answer.TheVariants as Given

abbrev pub pair_text : Float → Float → List ℕ
pair_text x y = written x ++ (codes " " ++ written y)

abbrev pub point_text : Point → List ℕ
point_text p = pair_text p.x p.y

-- the letter, and the coordinates of the points
abbrev pub element_text : PathEl → List ℕ
element_text (MoveTo p) = codes "M " ++ point_text p
element_text (LineTo p) = codes "L " ++ point_text p
element_text (QuadTo p q) = codes "Q " ++ (point_text p ++ (codes " " ++ point_text q))
element_text (CurveTo p q r) = codes "C " ++ (point_text p ++ (codes " " ++ (point_text q ++ (codes " " ++ point_text r))))
element_text ClosePath = codes "Z"

-- with a blank before each
abbrev pub elements_text : List PathEl → List ℕ
elements_text els = flat_map (λ e. codes " " ++ element_text e) els

-- one blank apart
abbrev pub path_text : List PathEl → List ℕ
path_text [] = []
path_text (el ∷ els) = element_text el ++ elements_text els

-- the words of an answer, one blank apart
abbrev pub text_of : Answer → List ℕ
text_of (Given.Number x) = written x
text_of (Given.Length x n) = written x ++ (codes " " ++ decimal n)
text_of (Given.Frame r) = pair_text r.x0 r.y0 ++ (codes " " ++ pair_text r.x1 r.y1)
text_of (Given.Winding w) = signed_decimal w
text_of (Given.Holds b) = cond b (codes "true") (codes "false")
text_of (Given.Point p) = point_text p
text_of (Given.Map m) = pair_text m.a m.b ++ (codes " " ++ (pair_text m.c m.d ++ (codes " " ++ pair_text m.e m.f)))
text_of (Given.Radii r th) = pair_text r.x r.y ++ (codes " " ++ written th)
text_of (Given.Corners r k) =
    pair_text r.x0 r.y0 ++ (codes " " ++ (pair_text r.x1 r.y1 ++ (codes " " ++ (pair_text k.top_left k.top_right ++ (codes " " ++ pair_text k.bottom_right k.bottom_left)))))
text_of (Given.Path v) = path_text (vec_items v)
text_of (Given.Refused e) = codes "refused " ++ fault_text e

-- the words of an answer, with a blank before each
abbrev pub answer_text : Answer → List ℕ
answer_text (Given.Path v) = elements_text (vec_items v)
answer_text a = codes " " ++ text_of a
