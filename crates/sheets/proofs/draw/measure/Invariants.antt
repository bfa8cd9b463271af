-- What the paths so far leave of the places.
use Rattle.std.proofs.Common.{◌≡◌, Ok}
use Rattle.sheets.specs.Book.{marks}
use Rattle.sheets.specs.Draws.{measured}
use Rattle.sheets.proofs.Drawing.{front}
use Rattle.sheets.proofs.draw.measure.Given as goal

abbrev pub invariant-loop-position : goal.invariant-loop-position
invariant-loop-position g l = Ok l.left ≡ measured l.places (front (marks g.M.Shape) l.tolerance l.position l.entries)
