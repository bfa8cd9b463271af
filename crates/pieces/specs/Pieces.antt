-- Pieces: what a placed mark means, and a placed covering of two, and how they are made and moved on. Assumes nothing.
use Rattle.std.specs.Prelude.{ℤ, Some, None, Ok, Err, Option, Result, Float}
use Rattle.plane.specs.declared.affine.Affine.{Affine}
use Rattle.plane.specs.declared.point.Point.{Point}
use Rattle.plane.specs.declared.rect.Rect.{Rect}
use Rattle.plane.specs.Paths.{Drawn}
use Rattle.marks.specs.declared.mark.Mark.{Mark}
use Rattle.marks.specs.Marks as Marks
use Rattle.layers.specs.declared.fault.MoveFault.{MoveFault}
use Rattle.layers.specs.declared.placing.Placing.{Placing}
use Rattle.layers.specs.declared.covering.Covering.{Covering}
use Rattle.layers.specs.Moves.{read_as, unmoved}
use Rattle.layers.specs.Placings.{placed_wind, placed_box, placed_drawn}
use Rattle.layers.specs.Coverings.{covered_wind, covered_box, covered_drawn}
use Rattle.layers.specs.Onward.{moved_on}
use Rattle.pieces.specs.declared.piece.Piece.{Piece}
use Rattle.pieces.specs.declared.piece.Piece.TheVariants.{One, Two}

-- ---- a placed mark
abbrev pub mark_wind : Placing Mark → Point → ℤ
mark_wind s p = placed_wind (read_as s.numbers) (Marks.wind s.below) p

abbrev pub mark_box : Placing Mark → Rect
mark_box s = placed_box (read_as s.numbers) (Marks.box s.below)

abbrev pub mark_drawn : Placing Mark → Float → Drawn
mark_drawn s t = placed_drawn (read_as s.numbers) (Marks.drawn s.below t)

-- ---- one over another
abbrev pub Pair : Type 0
Pair = Covering (Placing Mark) (Placing Mark)

abbrev pub pair_wind : Pair → Point → ℤ
pair_wind s p = covered_wind (mark_wind s.upper p) (mark_wind s.lower p)

abbrev pub pair_box : Pair → Rect
pair_box s = covered_box (mark_box s.upper) (mark_box s.lower)

abbrev pub pair_drawn : Pair → Float → Drawn
pair_drawn s t = covered_drawn (mark_drawn s.upper t) (mark_drawn s.lower t)

-- ---- a piece
abbrev pub wind : Piece → Point → ℤ
wind (One s) p = mark_wind s p
wind (Two s) p = placed_wind (read_as s.numbers) (pair_wind s.below) p

abbrev pub box : Piece → Rect
box (One s) = mark_box s
box (Two s) = placed_box (read_as s.numbers) (pair_box s.below)

abbrev pub drawn : Piece → Float → Drawn
drawn (One s) t = mark_drawn s t
drawn (Two s) t = placed_drawn (read_as s.numbers) (pair_drawn s.below t)

-- ---- how pieces are made
-- the mark, placed by m
abbrev pub placed : Affine → Mark → Piece
placed m s = One (record { numbers = m; below = s })

-- one placed mark over another, without a move of their own
abbrev pub covered : Placing Mark → Placing Mark → Piece
covered u l = Two (record { numbers = unmoved; below = record { upper = u; lower = l } })

-- the placed mark that a piece is, unless it is a covering
abbrev pub single_of : Piece → Option (Placing Mark)
single_of (One s) = Some s
single_of (Two s) = None

-- a piece made of a placing, or why there is none
abbrev pub made_of : {S : Type 0} → (Placing S → Piece) → Result (Placing S) MoveFault → Result Piece MoveFault
made_of {S} make (Ok s) = Ok (make s)
made_of {S} make (Err f) = Err f

-- first the move that placed the piece, then m, or 7 OFF PAGE
abbrev pub moved_piece : Affine → Piece → Result Piece MoveFault
moved_piece m (One s) = made_of One (moved_on m s)
moved_piece m (Two s) = made_of Two (moved_on m s)
