-- Where there is no page, one begins. Assumes nothing.
use Rattle.std.proofs.Common.{OnOk, sym, ap, ◌∙◌, subst}
use Rattle.sittings.specs.declared.progress.Progress.{Progress}
use Rattle.sittings.specs.declared.progress.Standing.{Standing}
use Rattle.sittings.specs.Moments.{StandsFor}
use Rattle.sittings.specs.Courses.{begun, obeyed_on}
use Rattle.sittings.specs.Transcripts.{Written, ObeyedSays}
use Rattle.sittings.proofs.sitting.Sitting.obey.Goals as goal

pub returns-in_ok-begin-in-NoPage-clause-kept : goal.returns-in_ok-begin-in-NoPage-clause-kept
returns-in_ok-begin-in-NoPage-clause-kept g c s K =
    let e = sym (ap (λ (p : Progress). p.standing) K.progress) ∙ c.in-NoPage.is in
    subst (λ (st : Standing). OnOk c.carry_out-in-NoPage.result (StandsFor (obeyed_on st c.args.order s) c.carry_out-in-NoPage.new.self)) (sym e)
    (c.carry_out-in-NoPage.ensures.kept (begun s) (c.in_ok-begin-in-NoPage.ensures.kept s K))

pub returns-in_ok-begin-in-NoPage-clause-written : goal.returns-in_ok-begin-in-NoPage-clause-written
returns-in_ok-begin-in-NoPage-clause-written g c s K =
    let e = sym (ap (λ (p : Progress). p.standing) K.progress) ∙ c.in-NoPage.is in
    subst (λ (st : Standing). OnOk c.carry_out-in-NoPage.result (Written (ObeyedSays st c.args.text.now c.args.order s) (g.W.Write.contents c.args.out.now) (g.W.Write.contents c.carry_out-in-NoPage.new.out))) (sym e)
    (c.carry_out-in-NoPage.ensures.written (begun s) (c.in_ok-begin-in-NoPage.ensures.kept s K))
