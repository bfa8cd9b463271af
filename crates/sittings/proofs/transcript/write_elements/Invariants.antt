-- What is written is so much of what the elements say, and what is left makes the whole. Assumes nothing.
use Rattle.std.proofs.Common.{drop}
use Rattle.numerals.proofs.Writing.{SoFar}
use Rattle.sittings.specs.Transcripts.{ElementsSay}
use Rattle.sittings.proofs.transcript.write_elements.Given as goal

abbrev pub invariant-loop-el : goal.invariant-loop-el
invariant-loop-el g l =
    SoFar (ElementsSay (drop l.el-index l.els)) (ElementsSay l.els) (g.W.Write.contents l.fn.out) (g.W.Write.contents l.out)
