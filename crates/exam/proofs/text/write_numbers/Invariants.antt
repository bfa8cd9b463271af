-- What is written is so much of what the word and the numbers say. Assumes nothing.
use Rattle.std.proofs.Common.{drop}
use Rattle.numerals.proofs.Writing.{SoFar}
use Rattle.exam.specs.Texts.{Says, SaysNumbers}
use Rattle.exam.proofs.text.write_numbers.Given as goal

abbrev pub invariant-loop-x : goal.invariant-loop-x
invariant-loop-x g l =
    SoFar (SaysNumbers (drop l.x-index l.numbers)) (Says l.word l.numbers) (g.W.Write.contents l.fn.out) (g.W.Write.contents l.out)
