-- Each line so far was taken, and read where the sitting is strict. Assumes nothing.
use Rattle.std.proofs.Common.{◌≡◌, List, true}
use Rattle.lines.specs.Readers.{bytes_left}
use Rattle.orders.specs.Words.{Text}
use Rattle.sittings.specs.Moments.{SittingAfter}
use Rattle.sittings.specs.Courses.{Input}
use Rattle.sittings.proofs.Taken.{SoFar}
use Rattle.sittings.proofs.files.take_lines.Given as goal

abbrev pub invariant-loop : goal.invariant-loop
invariant-loop g l =
    (l.strict ≡ true → l.all_read ≡ true)
    × ((past : List Input) → SittingAfter past l.fn.sitting
    → (taken : List Text) × SoFar past taken (bytes_left g.R.Read.remaining l.fn.lines) (bytes_left g.R.Read.remaining l.lines) l.all_read l.sitting (g.W.Write.contents l.fn.out) (g.W.Write.contents l.out))
