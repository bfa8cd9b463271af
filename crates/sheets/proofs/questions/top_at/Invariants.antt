-- The highest of the entries so far.
use Rattle.std.proofs.Common.{◌≡◌, map, take}
use Rattle.sheets.specs.Book.{marks, highest}
use Rattle.sheets.specs.Tables.{row_of}
use Rattle.sheets.proofs.questions.top_at.Given as goal

abbrev pub invariant-loop-position : goal.invariant-loop-position
invariant-loop-position g l = l.top ≡ highest (marks g.M.Shape) l.pt (map row_of (take l.position l.entries))
