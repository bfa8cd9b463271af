-- Each step gives the next element of the outline, and leaves those after it.
use Rattle.std.proofs.Common.{◌∙◌, sym, rules}
use Rattle.plane.specs.Outlines.{outline}
use Rattle.plane.proofs.Outlined.{drop_at, drop_past}
use Rattle.plane.proofs.closed_path.ClosedPathIterator.next.Goals as goal

pub returns-clause-steps : goal.returns-clause-steps
returns-clause-steps g c = drop_at (outline c.args.self.now.corners) c.args.self.now.ix c.in_ok-el.el (sym c.element.ensures.value ∙ c.in_ok-el.was)

pub returns-in_err-el-clause-steps : goal.returns-in_err-el-clause-steps
returns-in_err-el-clause-steps g c =
    let none = drop_past (outline c.args.self.now.corners) c.args.self.now.ix (sym c.element.ensures.value ∙ c.in_err-el.was) in search rules
