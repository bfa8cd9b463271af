-- Each turn takes one line more, and the last one finds none. Assumes nothing.
use Rattle.std.proofs.Common.{◌≡◌, true, false, Ok, rules, vec_items}
use Rattle.std.specs.Prelude.{is_ok}
use Rattle.cases.proofs.Takings.{goes_on, stops_before, stops_at, takes_all}
use Rattle.cases.proofs.lines.take_lines.Goals as goal

pub returns-in_err-line : goal.returns-in_err-line
returns-in_err-line g c =
    stops_before g.T.Taker.takes _ _ _ _ _ c.loop-line.invariant.3 (search rules)

pub returns-in_err-take : goal.returns-in_err-take
returns-in_err-take g c =
    let line : c.in-Some.line ≡ Ok c.in_ok-line.field-0 = c.in_ok-line.was in
    let steps = rw (line, c.loop-line.invariant.2) at c.in-Some.ensures.steps in
    let failed : is_ok c.take.result ≡ false = search rules in
    let taken = rw (c.as_slice.ensures.value, failed) at c.take.ensures in
    stops_at g.T.Taker.takes vec_items _ _ _ _ _ _ c.in_ok-line.field-0 _ c.loop-line.invariant.3 steps.2 taken (search rules)

pub loop-line-preserved : goal.loop-line-preserved
loop-line-preserved g c =
    let line : c.in-Some.line ≡ Ok c.in_ok-line.field-0 = c.in_ok-line.was in
    let steps = rw (line, c.loop-line.invariant.2) at c.in-Some.ensures.steps in
    let well : is_ok c.take.result ≡ true = search rules in
    let taken = rw (c.as_slice.ensures.value, well) at c.take.ensures in
    (tt, tt, steps.1, goes_on g.T.Taker.takes vec_items _ _ _ _ _ _ c.in_ok-line.field-0 c.loop-line.invariant.3 steps.2 taken)

pub returns : goal.returns
returns g c =
    let steps = rw (c.loop-line.invariant.2) at c.in-None.ensures.steps in
    takes_all g.T.Taker.takes _ _ _ _ c.loop-line.invariant.3 steps.2
