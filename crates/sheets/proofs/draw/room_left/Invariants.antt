-- What is left of the places, for what is left of the path.
use Rattle.std.proofs.Common.{◌≡◌, length}
use Rattle.sheets.specs.Draws.{left_of}
use Rattle.sheets.proofs.draw.room_left.Given as goal

abbrev pub invariant-loop : goal.invariant-loop
invariant-loop g l =
    (goal.iterator-loop g).can_next l.iterator' × (goal.iterator-loop g).is_finite l.iterator'
    × (left_of l.left (length (g.C.Cursor.rest l.iterator')) ≡ left_of l.fn.places (length (g.C.Cursor.rest l.fn.path)))
