-- The entries so far are moved, and the others as they were.
use Rattle.std.proofs.Common.{◌≡◌, ◌++◌, map, take, drop}
use Rattle.sheets.specs.Tables.{moved_entry}
use Rattle.sheets.proofs.calls.carry_all.Given as goal

abbrev pub invariant-loop-entry : goal.invariant-loop-entry
invariant-loop-entry g l = l.entries ≡ map (moved_entry l.by.map) (take l.entry-index l.initial.entries) ++ drop l.entry-index l.initial.entries
