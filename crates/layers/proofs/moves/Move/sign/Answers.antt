-- The sign is the determinant.
use Rattle.std.proofs.Common.{ℤ, sym, subst}
use Rattle.floats.specs.Value.{Val}
use Rattle.plane.specs.Affines.{det}
use Rattle.layers.specs.Composed.{sign_is_det, sign_by}
use Rattle.layers.proofs.moves.Move.sign.Goals as goal

pub returns-then-determinant-clause-determinant : goal.returns-then-determinant-clause-determinant
returns-then-determinant-clause-determinant c =
    let m = c.args.self.map in
    subst (λ (z : ℤ). Val (det m) z 0) (sym (sign_by m c.determinant.result _ c.determinant.ensures c.if-determinant.true)) (sign_is_det m c.args.self.lawful)

pub returns-else-determinant-clause-determinant : goal.returns-else-determinant-clause-determinant
returns-else-determinant-clause-determinant c =
    let m = c.args.self.map in
    subst (λ (z : ℤ). Val (det m) z 0) (sym (sign_by m c.determinant.result _ c.determinant.ensures c.if-determinant.false)) (sign_is_det m c.args.self.lawful)
