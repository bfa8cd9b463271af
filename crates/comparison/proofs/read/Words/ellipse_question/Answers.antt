-- The ellipse is made, or it is given by its map. Assumes nothing.
use Rattle.std.proofs.Common.{refl, inl, inr}
use Rattle.comparison.proofs.read.Words.ellipse_question.Goals as goal

pub returns-in_ok-number-in-New-clause-text : goal.returns-in_ok-number-in-New-clause-text
returns-in_ok-number-in-New-clause-text c =
    let made = inl (_, _, _, c.new-made.ensures, refl, c.in-New.is, refl) in
    (_, made, λ ws left. c.in_ok-point-in-New.ensures _ (c.in_ok-vector-in-New.ensures _ (c.in_ok-number-in-New.ensures ws left)))

pub returns-in_ok-ellipse_ask-in_default-clause-text : goal.returns-in_ok-ellipse_ask-in_default-clause-text
returns-in_ok-ellipse_ask-in_default-clause-text c =
    let asked = c.in_ok-ellipse_ask-in_default.ensures in
    (_, inr (_, asked.0, c.from_affine-ellipse.ensures, asked.1, refl), λ ws left. c.in_ok-map-in_default.ensures _ (asked.2 ws left))
