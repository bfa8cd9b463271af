-- The sum of what the entries so far give.
use Rattle.std.proofs.Common.{◌≡◌, map, take}
use Rattle.sheets.specs.Book.{marks, total}
use Rattle.sheets.specs.Tables.{row_of}
use Rattle.sheets.proofs.questions.sum_at.Given as goal

abbrev pub invariant-loop-entry : goal.invariant-loop-entry
invariant-loop-entry g l = l.sum ≡ total (marks g.M.Shape) l.pt (map row_of (take l.entry-index l.entries))
