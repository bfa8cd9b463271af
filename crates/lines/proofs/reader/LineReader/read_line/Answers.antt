-- Each turn takes more of the line, and the last one its end. Assumes nothing.
use Rattle.std.proofs.Common.{◌≢◌, ◌∙◌, Result, Ok, Err, true, rules, arith, ap, sym, subst, vec_items}
use Rattle.std.proofs.lemmas.Grind.{common_steps}
use Rattle.std.specs.Prelude.{OnErr}
use Rattle.std.specs.Io.KnownBytes.{Consumes, Keeps}
use Rattle.lines.specs.Lines.{HasNoEnd}
use Rattle.lines.specs.Readers.{bytes_left, line_of}
use Rattle.lines.proofs.Ends.{taken_more, line_given, last_line, nothing_left}
use Rattle.lines.proofs.reader.LineReader.read_line.Goals as goal

on_err : {T E : Type 0} (r : Result T E) (P : Type 0) → P → OnErr r P
on_err (Ok x) P h = tt
on_err (Err e) P h = h

pub returns-then-not-branch-clause-given : goal.returns-then-not-branch-clause-given
returns-then-not-branch-clause-given g c = λ given.
    let left = bytes_left g.R.Read.remaining in
    let same = sym (ap vec_items c.fill.ensures.line) in
    let taken = subst (Consumes (left c.args.self.now) (left c.loop.self)) same c.loop.invariant.taken in
    let whole = subst HasNoEnd same c.loop.invariant.whole in
    last_line (left c.args.self.now) (left c.loop.self) (left c.fill.new.self) (line_of c.fill.new.self) taken whole (c.fill.ensures.end (search rules)) c.fill.ensures.left (search rules)

pub returns-then-not-branch-clause-ended : goal.returns-then-not-branch-clause-ended
returns-then-not-branch-clause-ended g c = λ ended.
    let left = bytes_left g.R.Read.remaining in
    let same = sym (ap vec_items c.fill.ensures.line) in
    let taken = subst (Consumes (left c.args.self.now) (left c.loop.self)) same c.loop.invariant.taken in
    nothing_left (left c.args.self.now) (left c.loop.self) (left c.fill.new.self) (line_of c.fill.new.self) taken (c.fill.ensures.end (search rules)) c.fill.ensures.left (grind (arith, common_steps))

pub returns-in_err-take_part-clause-broken : goal.returns-in_err-take_part-clause-broken
returns-in_err-take_part-clause-broken g c =
    let left = bytes_left g.R.Read.remaining in
    let same = sym (ap vec_items (c.pass_line_feed.ensures.line ∙ c.fill.ensures.line)) in
    let taken = subst (Consumes (left c.args.self.now) (left c.loop.self)) same c.loop.invariant.taken in
    let kept = subst (Keeps (left c.loop.self)) (sym c.pass_line_feed.ensures.left) c.fill.ensures.left in
    let failed : c.take_part.result ≢ Ok true = search rules in
    let more = c.take_part.ensures.goes_on failed in
    on_err _ _ (taken_more (left c.args.self.now) (left c.loop.self) (left c.pass_line_feed.new.self) (left c.take_part.new.self) _ more.0 _ taken kept more.3 more.1)

pub returns-then-branch-clause-given : goal.returns-then-branch-clause-given
returns-then-branch-clause-given g c = λ _.
    let left = bytes_left g.R.Read.remaining in
    let same = sym (ap vec_items (c.pass_line_feed.ensures.line ∙ c.fill.ensures.line)) in
    let taken = subst (Consumes (left c.args.self.now) (left c.loop.self)) same c.loop.invariant.taken in
    let whole = subst HasNoEnd same c.loop.invariant.whole in
    let kept = subst (Keeps (left c.loop.self)) (sym c.pass_line_feed.ensures.left) c.fill.ensures.left in
    line_given (left c.args.self.now) (left c.loop.self) (left c.pass_line_feed.new.self) (left c.take_part.new.self) (line_of c.pass_line_feed.new.self) (line_of c.take_part.new.self)
    taken whole kept (c.take_part.ensures.done (search rules))

pub loop-preserved : goal.loop-preserved
loop-preserved g c =
    let left = bytes_left g.R.Read.remaining in
    let same = sym (ap vec_items (c.pass_line_feed.ensures.line ∙ c.fill.ensures.line)) in
    let taken = subst (Consumes (left c.args.self.now) (left c.loop.self)) same c.loop.invariant.taken in
    let whole = subst HasNoEnd same c.loop.invariant.whole in
    let kept = subst (Keeps (left c.loop.self)) (sym c.pass_line_feed.ensures.left) c.fill.ensures.left in
    let more = c.take_part.ensures.goes_on (search rules) in
    record {
      taken = taken_more (left c.args.self.now) (left c.loop.self) (left c.pass_line_feed.new.self) (left c.take_part.new.self) _ more.0 _ taken kept more.3 more.1;
      whole = c.take_part.ensures.whole whole;
      out = search rules;
    }
