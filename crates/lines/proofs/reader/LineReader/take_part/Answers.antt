-- The end is where it was found, and what is taken is what stands before it. Assumes nothing.
use Rattle.std.proofs.Common.{rules, refl, take, vec_items}
use Rattle.std.specs.Io.Buffered.{reader_buffer, reader_remaining}
use Rattle.lines.proofs.Ends.{buffer_begins, ends_line, line_goes_on, position_front, position-none, no_end_more}
use Rattle.lines.proofs.reader.LineReader.take_part.Goals as goal

pub returns-in_ok-extend_from_slice-in-Some-clause-done :
    goal.returns-in_ok-extend_from_slice-in-Some-clause-done
returns-in_ok-extend_from_slice-in-Some-clause-done g c =
    let self = c.args.self.now in
    λ _. ends_line (reader_remaining g.R.Read.remaining self.input) (reader_remaining g.R.Read.remaining c.consume.new.self)
    (reader_buffer self.input) c.buffer-buffered.result.now (vec_items self.line) (vec_items c.extend_from_slice.new.self) c.in-Some.end self.after_cr
    (buffer_begins _ _ (g.R.Read.remaining self.input.inner)) c.requires c.buffer-buffered.ensures (search rules) (search rules) c.consume.ensures.bytes

pub returns-in_ok-extend_from_slice-in-None-clause-goes_on :
    goal.returns-in_ok-extend_from_slice-in-None-clause-goes_on
returns-in_ok-extend_from_slice-in-None-clause-goes_on g c =
    let self = c.args.self.now in
    λ _. line_goes_on (reader_remaining g.R.Read.remaining self.input) (reader_remaining g.R.Read.remaining c.consume-in-None.new.self)
    (reader_buffer self.input) c.buffer-buffered.result.now (vec_items self.line) (vec_items c.extend_from_slice-in-None.new.self) _ self.after_cr
    (buffer_begins _ _ (g.R.Read.remaining self.input.inner)) c.requires c.buffer-buffered.ensures (search rules) (search rules) refl c.consume-in-None.ensures.bytes

pub returns-in_ok-extend_from_slice-in-Some-clause-whole :
    goal.returns-in_ok-extend_from_slice-in-Some-clause-whole
returns-in_ok-extend_from_slice-in-Some-clause-whole g c =
    let shown = c.buffer-buffered.result.now in
    no_end_more (vec_items c.args.self.now.line) (take c.in-Some.end shown) _ (search rules) (position_front shown c.in-Some.end (search rules))

pub returns-in_ok-extend_from_slice-in-None-clause-whole :
    goal.returns-in_ok-extend_from_slice-in-None-clause-whole
returns-in_ok-extend_from_slice-in-None-clause-whole g c =
    let shown = c.buffer-buffered.result.now in
    no_end_more (vec_items c.args.self.now.line) shown _ (search rules) (position-none shown (search rules))
