-- The box is the placing's.
use Rattle.std.proofs.Common.{sym, ap, ◌∙◌}
use Rattle.pieces.specs.Pieces.{box}
use Rattle.pieces.proofs.piece.PieceShape.bounding_box.Goals as goal

pub returns-in-Two : goal.returns-in-Two
returns-in-Two c = c.bounding_box-in-Two.ensures ∙ ap box (sym c.in-Two.is)
