-- How many rows a sheet and a table have. Assumes nothing.
use Rattle.std.proofs.Common.{◌≡◌, List, length, arith, length-take}
use lib.ListN.{length-map}
use Rattle.sheets.specs.declared.sheet.Entry.{Entry}
use Rattle.sheets.specs.declared.sheet.Sheet.{Sheet}
use Rattle.sheets.specs.Tables.{held, used, rows}

pub used_count : {M : Type 0} (s : Sheet) (t : List (Entry M)) → length (used s t) ≡ held s t
used_count s t = simp length-take (omega arith)

pub rows_count : {M : Type 0} (s : Sheet) (t : List (Entry M)) → length (rows s t) ≡ held s t
rows_count s t = simp length-map (used_count s t)
