-- What a reader of lines has. Assumes nothing.
use Rattle.std.specs.Prelude.{ℕ, Bool, true, false, List, Option, vec_items}
use Rattle.std.specs.Option.{option_map}
use Rattle.std.specs.Io.Buffered.{reader_remaining}
use Rattle.lines.specs.declared.reader.LineReader.{LineReader}
use Rattle.lines.specs.Lines.{without_line_feed}

-- the bytes that are left behind an end of a line; behind a CR, the LF that comes next belongs to that end
abbrev pub left_behind : Bool → List ℕ → List ℕ
left_behind true bs = without_line_feed bs
left_behind false bs = bs

-- the bytes whose lines are still to be read, where they are known
abbrev pub bytes_left : {R : Type 0} → (R → Option (List ℕ)) → LineReader R → Option (List ℕ)
bytes_left remaining r = option_map (left_behind r.after_cr) (reader_remaining remaining r.input)

-- the line that was read last
abbrev pub line_of : {R : Type 0} → LineReader R → List ℕ
line_of r = vec_items r.line
