-- What was taken of the line so far is kept, and holds no end. Assumes nothing.
use Rattle.std.specs.Io.KnownBytes.{Consumes, Keeps}
use Rattle.lines.specs.Lines.{HasNoEnd}
use Rattle.lines.specs.Readers.{bytes_left, line_of}
use Rattle.lines.proofs.reader.LineReader.read_line.Given as goal

abbrev pub invariant-loop : goal.invariant-loop
invariant-loop g l = record {
  taken : Consumes (bytes_left g.R.Read.remaining l.fn.self) (bytes_left g.R.Read.remaining l.self) (line_of l.self);
  whole : HasNoEnd (line_of l.self);
  out : Keeps (g.W.Write.contents l.fn.out) (g.W.Write.contents l.out);
}
