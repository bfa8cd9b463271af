-- The accuracy comes first, and then the allowance. Assumes nothing.
use Rattle.std.proofs.Common.{refl}
use Rattle.comparison.proofs.read.Words.ellipse_ask.Goals as goal

pub returns-in_ok-steps-in-Perimeter : goal.returns-in_ok-steps-in-Perimeter
returns-in_ok-steps-in-Perimeter c =
    let steps = c.in_ok-steps-in-Perimeter.ensures in
    (_, (steps.0, steps.1, c.in-Perimeter.is, refl), λ ws left. c.in_ok-number-in-Perimeter.ensures _ (steps.2 ws left))
