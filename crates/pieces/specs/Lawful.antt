-- The laws of a placed mark and of one over another: those of the layers, over those of the marks. Assumes nothing.
use Rattle.std.specs.Prelude.{◌≡◌, pos, ◌≢◌, Float}
use Rattle.plane.specs.declared.point.Point.{Point}
use Rattle.plane.specs.Paths.{WellDrawn}
use Rattle.plane.specs.Points.{FieldPoint, Same, FiniteBox, InBox}
use Rattle.plane.specs.Winding.{IsWinding}
use Rattle.marks.specs.declared.mark.Mark.{Mark}
use Rattle.marks.specs.Marks as Marks
use Rattle.marks.specs.Lawful.{mark_small, mark_same, mark_boxed, mark_formed}
use Rattle.layers.specs.declared.placing.Placing.{Placing}
use Rattle.layers.specs.Moves.{read_as}
use Rattle.layers.specs.Placings.{placed_wind, placed_box, placed_drawn}
use Rattle.layers.specs.Coverings.{covered_wind}
use Rattle.layers.specs.Placed.{read_move, placed_small, placed_same, placed_boxed}
use Rattle.layers.specs.Covered.{covered_small, covered_boxed}
use Rattle.layers.specs.Formed.{placed_formed, covered_formed}
use Rattle.pieces.specs.Pieces.{mark_wind, mark_box, mark_drawn, Pair, pair_wind, pair_box, pair_drawn}

-- ---- a placed mark
pub one_small : (s : Placing Mark) (p : Point) → IsWinding (mark_wind s p)
one_small s p = placed_small (read_as s.numbers) (Marks.wind s.below) p (mark_small s.below)

pub one_same : (s : Placing Mark) (p q : Point) → Same p q → mark_wind s q ≡ mark_wind s p
one_same s p q e = placed_same (read_as s.numbers) (Marks.wind s.below) p q (mark_same s.below) e

pub one_boxed : (s : Placing Mark) (p : Point) → FiniteBox (mark_box s) → FieldPoint p → (mark_wind s p ≢ pos 0) → InBox (mark_box s) p
one_boxed s p f h n = placed_boxed (read_as s.numbers) (Marks.wind s.below) (Marks.box s.below) p (read_move s.numbers) (mark_boxed s.below) f h n

pub one_formed : (s : Placing Mark) (t : Float) → WellDrawn (mark_drawn s t)
one_formed s t = placed_formed (read_as s.numbers) (Marks.drawn s.below t) (mark_formed s.below t)

-- ---- one over another
pair_small : (s : Pair) (p : Point) → IsWinding (pair_wind s p)
pair_small s p = covered_small (mark_wind s.upper p) (mark_wind s.lower p) (one_small s.upper p) (one_small s.lower p)

pair_same : (s : Pair) (p q : Point) → Same p q → pair_wind s q ≡ pair_wind s p
pair_same s p q e = λ i. covered_wind (one_same s.upper p q e i) (one_same s.lower p q e i)

pair_boxed : (s : Pair) (p : Point) → FiniteBox (pair_box s) → FieldPoint p → (pair_wind s p ≢ pos 0) → InBox (pair_box s) p
pair_boxed s p f h n =
    covered_boxed (mark_box s.upper) (mark_box s.lower) p (mark_wind s.upper p) (mark_wind s.lower p)
    (λ b k. one_boxed s.upper p b h k) (λ b k. one_boxed s.lower p b h k) f n

pair_formed : (s : Pair) (t : Float) → WellDrawn (pair_drawn s t)
pair_formed s t = covered_formed (mark_drawn s.upper t) (mark_drawn s.lower t) (one_formed s.upper t) (one_formed s.lower t)

-- ---- and placed
pub two_small : (s : Placing Pair) (p : Point) → IsWinding (placed_wind (read_as s.numbers) (pair_wind s.below) p)
two_small s p = placed_small (read_as s.numbers) (pair_wind s.below) p (pair_small s.below)

pub two_same : (s : Placing Pair) (p q : Point) → Same p q → placed_wind (read_as s.numbers) (pair_wind s.below) q ≡ placed_wind (read_as s.numbers) (pair_wind s.below) p
two_same s p q e = placed_same (read_as s.numbers) (pair_wind s.below) p q (pair_same s.below) e

pub two_boxed : (s : Placing Pair) (p : Point) → FiniteBox (placed_box (read_as s.numbers) (pair_box s.below)) → FieldPoint p
    → (placed_wind (read_as s.numbers) (pair_wind s.below) p ≢ pos 0) → InBox (placed_box (read_as s.numbers) (pair_box s.below)) p
two_boxed s p f h n = placed_boxed (read_as s.numbers) (pair_wind s.below) (pair_box s.below) p (read_move s.numbers) (pair_boxed s.below) f h n

pub two_formed : (s : Placing Pair) (t : Float) → WellDrawn (placed_drawn (read_as s.numbers) (pair_drawn s.below t))
two_formed s t = placed_formed (read_as s.numbers) (pair_drawn s.below t) (pair_formed s.below t)
