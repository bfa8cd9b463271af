-- The paths so far stand at the front of the buffer; the places beyond are as they were.
use Rattle.std.proofs.Common.{◌≡◌, ◌≤◌, length, take, drop, Ok}
use Rattle.sheets.specs.Book.{marks}
use Rattle.sheets.proofs.Drawing.{front}
use Rattle.sheets.proofs.draw.pour_all.Given as goal

abbrev pub invariant-loop-position : goal.invariant-loop-position
invariant-loop-position g l =
    (front (marks g.M.Shape) l.tolerance l.position l.entries ≡ Ok (take l.at l.buffer))
    × (l.at ≤ length l.buffer)
    × (drop l.at l.buffer ≡ drop l.at l.initial.buffer)
