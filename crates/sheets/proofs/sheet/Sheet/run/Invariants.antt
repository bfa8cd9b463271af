-- The orders so far were answered by the book, and what they left is known.
use Rattle.std.proofs.Common.{◌≡◌, take, drop}
use Rattle.sheets.specs.Book.{marks}
use Rattle.sheets.specs.Runs.{left, RunByBook}
use Rattle.sheets.proofs.sheet.Sheet.run.Given as goal

abbrev pub invariant-loop-i : goal.invariant-loop-i
invariant-loop-i g l =
    let k = marks g.M.Shape in
    (drop l.i l.answers ≡ drop l.i l.initial.answers)
    × ((l.self, l.table) ≡ left k (l.initial.self, l.initial.table) (take l.i l.orders))
    × RunByBook k l.initial.self l.initial.table l.initial.buffer (take l.i l.orders) (take l.i l.answers) l.self l.table l.buffer
