-- The sides come first, and then the radii. Assumes nothing.
use Rattle.std.proofs.Common.{refl}
use Rattle.plane.specs.Rects.{rect}
use Rattle.comparison.proofs.read.Words.rounded.Goals as goal

pub returns : goal.returns
returns c =
    let r = rect c.in_ok-number.field-0 c.in_ok-number-2.field-0 c.in_ok-number-3.field-0 c.in_ok-number-4.field-0 in
    (_, (r, _, c.new.ensures.value, refl), λ ws k. c.in_ok-number.ensures _ (c.in_ok-number-2.ensures _ (c.in_ok-number-3.ensures _ (c.in_ok-number-4.ensures _ (c.in_ok-radii.ensures ws k)))))
