-- After the start each step gives the next curve, and leaves those after it.
use Rattle.std.proofs.Common.{◌≡◌, ◌∷◌, ◌+◌, sym, subst}
use Rattle.plane.specs.Cursors.{one_fewer}
use Rattle.shapes.specs.declared.circle.CirclePath.{CirclePath}
use Rattle.shapes.specs.declared.circle.CircleStage.{CircleStage}
use Rattle.shapes.specs.Circles.{rest, rest_at}
use Rattle.shapes.specs.Round.{next_curve}
use Rattle.shapes.proofs.circle.CirclePathIterator.next.Goals as goal

pub returns-then-ix-self : goal.returns-then-ix-self
returns-then-ix-self c =
    let k = c.args.self.now in
    let after : CirclePath = record { circle = k.circle; delta_th = k.delta_th; arm_len = k.arm_len; n = k.n; ix = k.ix + 1; stage = k.stage } in
    let P : CircleStage → Type 0 = λ s. rest_at s k ≡ c.curve.result ∷ rest_at s after in
    let step : rest k ≡ c.curve.result ∷ rest after = subst P (sym c.in-Curves.is) (next_curve k.circle k.delta_th k.arm_len k.n k.ix c.curve.result c.if-ix-self.true c.curve.ensures) in
    record { steps = step; goes = one_fewer _ rest k after c.curve.result tt step }
