-- The files so far were taken. Assumes nothing.
use Rattle.std.proofs.Common.{List}
use Rattle.orders.specs.Words.{Text}
use Rattle.sittings.specs.Files.{TakesFiles}
use Rattle.sittings.specs.Moments.{SittingAfter}
use Rattle.sittings.specs.Courses.{Input}
use Rattle.sittings.proofs.files.take_in_turn.Given as goal

abbrev pub invariant-loop-name : goal.invariant-loop-name
invariant-loop-name g l =
    (past : List Input) → SittingAfter past l.fn.sitting
    → (taken : List (List Text)) × TakesFiles past l.name-index l.is_whole taken l.sitting (g.W.Write.contents l.fn.out) (g.W.Write.contents l.out)
