-- The subject's numbers come first, and then those that it is asked with. Assumes nothing.
use Rattle.std.proofs.Common.{refl}
use Rattle.comparison.proofs.read.Words.question.Goals as goal

pub returns-in_ok-ask-in-Rect-clause-text : goal.returns-in_ok-ask-in-Rect-clause-text
returns-in_ok-ask-in-Rect-clause-text c =
    let asked = c.in_ok-ask-in-Rect.ensures in
    (_, (asked.0, asked.1, refl), λ ws left. c.in_ok-rect-in-Rect.ensures _ (asked.2 ws left))

pub returns-in_ok-ask-in-Circle-clause-text : goal.returns-in_ok-ask-in-Circle-clause-text
returns-in_ok-ask-in-Circle-clause-text c =
    let asked = c.in_ok-ask-in-Circle.ensures in
    (_, (asked.0, asked.1, refl), λ ws left. c.in_ok-circle-in-Circle.ensures _ (asked.2 ws left))

pub returns-in_ok-ask-in-Triangle-clause-text : goal.returns-in_ok-ask-in-Triangle-clause-text
returns-in_ok-ask-in-Triangle-clause-text c =
    let asked = c.in_ok-ask-in-Triangle.ensures in
    (_, (asked.0, asked.1, refl), λ ws left. c.in_ok-triangle-in-Triangle.ensures _ (asked.2 ws left))

pub returns-in_ok-map_ask-in-Affine-clause-text : goal.returns-in_ok-map_ask-in-Affine-clause-text
returns-in_ok-map_ask-in-Affine-clause-text c =
    let asked = c.in_ok-map_ask-in-Affine.ensures in
    (_, (asked.0, asked.1, refl), λ ws left. c.in_ok-map-in-Affine.ensures _ (asked.2 ws left))
