-- How questions about a covering are read from left to right, up to the first fault, of which it is said what is wrong. Assumes nothing.
use Rattle.std.specs.Prelude.{if◌then◌else◌, Result, Ok, Err}
use Rattle.plane.specs.declared.affine.Affine.{Affine}
use Rattle.layers.specs.declared.fault.MoveFault.{MoveFault}
use Rattle.marks.specs.declared.mark.Mark.{Mark}
use Rattle.orders.specs.declared.order.CoverQuery.{CoverQuery}
use Rattle.orders.specs.declared.order.Question.{Question}
use Rattle.orders.specs.declared.order.Question.TheVariants.{Winding, BoundingBox, Draw}
use Rattle.orders.specs.Words.{Text}
use Rattle.orders.specs.Values.{covering, query}
use Rattle.orders.specs.Reasons.{no_over, no_question}
use Rattle.orders.specs.Kinds.{is, mark}
use Rattle.orders.specs.Runs.{◌>>=◌, Left, run, end}
use Rattle.orders.specs.Sheets.{Placement, placed, last_point, last_tolerance}

-- up to `over`
unfoldable pub up_to_over : Placement Mark → Left → Result ((Mark × Affine) × Left) Text
up_to_over p s =
    if is p.next "over" then Ok ((p.mark, p.by), s)
    else (if is p.next "" then Err no_over else Err s.miscount)

-- the upper shape, and the numbers of its move
unfoldable pub upper : Left → Result ((Mark × Affine) × Left) Text
upper s = do
  p ← placed mark s
  up_to_over p.0 p.1

-- what is asked, by the word that says so
unfoldable pub question : Text → Left → Result Question Text
question w s =
    if is w "winding" then (last_point s >>= λ p. Ok (Winding p))
    else (if is w "bounding_box" then (end (run 0 s.words) >>= λ _. Ok BoundingBox)
    else (if is w "draw" then (last_tolerance s >>= λ t. Ok (Draw t))
    else Err (no_question w)))

unfoldable pub cover : Left → Result (Result CoverQuery MoveFault) Text
cover s = do
  u ← upper s
  l ← placed mark u.1
  q ← question l.0.next l.1
  Ok (query q (covering u.0.0 u.0.1 l.0.mark l.0.by))
