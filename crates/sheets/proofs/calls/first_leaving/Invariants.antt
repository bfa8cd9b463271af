-- None of the entries so far leaves.
use Rattle.std.proofs.Common.{◌≡◌, map, drop}
use Rattle.sheets.specs.Book.{leaving}
use Rattle.sheets.specs.Tables.{row_of}
use Rattle.sheets.proofs.calls.first_leaving.Given as goal

abbrev pub invariant-loop-position : goal.invariant-loop-position
invariant-loop-position g l = leaving 0 (map row_of l.entries) l.by.map ≡ leaving l.position (map row_of (drop l.position l.entries)) l.by.map
