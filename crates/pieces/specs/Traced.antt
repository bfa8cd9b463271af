-- What a cursor on the path of a piece has still to give. Assumes nothing.
use Rattle.std.specs.Prelude.{List, map}
use Rattle.plane.specs.declared.bezpath.PathEl.{PathEl}
use Rattle.plane.specs.Affines.{image_el}
use Rattle.marks.specs.declared.mark.MarkPath.{MarkPath}
use Rattle.marks.specs.Marks as Marks
use Rattle.layers.specs.declared.placing.PlacingPath.{PlacingPath}
use Rattle.layers.specs.Coverings.{rest_of}
use Rattle.pieces.specs.declared.path.PiecePath.{PiecePath}
use Rattle.pieces.specs.declared.path.PiecePath.TheVariants.{One, Two}

abbrev pub mark_rest : PlacingPath MarkPath → List PathEl
mark_rest c = map (image_el c.map) (Marks.rest c.below)

abbrev pub rest : PiecePath → List PathEl
rest (One c) = mark_rest c
rest (Two c) = map (image_el c.map) (rest_of c.below.stage (mark_rest c.below.upper) (mark_rest c.below.lower))
