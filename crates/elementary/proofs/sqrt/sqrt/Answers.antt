-- Each case of the argument has the root that its clauses say.
use Rattle.std.proofs.Common.{refl, ◌∙◌, T}
use Rattle.std.specs.Bool.{passes}
use Rattle.std.specs.Float.{float_zero, float_is_finite}
use Rattle.std.specs.Float.Ieee.{lt}
use Rattle.std.specs.Float.Order.{lt_trans, lt_irrefl, lt_of_le_of_lt, le_of_lt, le_of_eq, eq_flip, eq-not_lt}
use Rattle.elementary.proofs.Numbers.{no_number}
use Rattle.elementary.proofs.RootCases as on
use Rattle.elementary.proofs.sqrt.sqrt.Goals as goal
use Rattle.elementary.proofs.sqrt.sqrt.Goals.{else-x-via-then-x+else-x-2, else-x-via-else-x}

pub positive_root-requires : goal.positive_root-requires
positive_root-requires c = (on.above_zero c.args.x c.if-x.true, on.below_infinity c.args.x c.if-x.true c.if-x-2.true)

pub returns-then-x-2-clause-zeros : goal.returns-then-x-2-clause-zeros
returns-then-x-2-clause-zeros c = λ h. absurd (eq-not_lt float_zero c.args.x (eq_flip c.args.x float_zero h) (on.above_zero c.args.x c.if-x.true))

pub returns-then-x-2-clause-below : goal.returns-then-x-2-clause-below
returns-then-x-2-clause-below c = λ h. absurd (lt_irrefl float_zero (lt_trans float_zero c.args.x float_zero (on.above_zero c.args.x c.if-x.true) h))

pub returns-then-x-3 : goal.returns-then-x-3
returns-then-x-3 c =
    let x = c.args.x in
    let from = on.from_zero x c.if-x-3.true in
    let outside : T (lt float_zero x) → T (float_is_finite x) → ⊥ =
    λ h k. elim c.else-x.branch [ else-x-via-then-x+else-x-2 w ↦ on.finite_below x k w.if-x-2.false | else-x-via-else-x w ↦ on.not_above x w.if-x.false h ] in
    record {
      nearest = λ h k. absurd (outside h k);
      zeros = λ h. refl;
      infinity = λ h. h;
      below = λ h. absurd (lt_irrefl float_zero (lt_of_le_of_lt float_zero x float_zero from h));
      nothing = λ h. h;
      defined = on.own_root x (passes _ c.well_formed.0.1) from outside;
    }

pub returns-else-x-3 : goal.returns-else-x-3
returns-else-x-3 c =
    let x = c.args.x in
    let under = on.not_from_zero x c.if-x-3.false in
    record {
      nearest = λ h k. absurd (under (le_of_lt float_zero x h));
      zeros = λ h. absurd (under (le_of_eq float_zero x (eq_flip x float_zero h)));
      infinity = λ h. absurd (under (on.infinity_from_zero x h));
      below = λ h. no_number;
      nothing = λ h. no_number;
      defined = no_number ∙ on.no_root x (λ h. under (le_of_lt float_zero x h)) (λ h. under (le_of_eq float_zero x (eq_flip x float_zero h)));
    }
