-- The counts come after the last file. Assumes nothing.
use Rattle.std.proofs.Common.{[], ◌++◌, refl}
use Rattle.std.proofs.KnownBytes.{Appends-trans}
use Rattle.sittings.specs.Files.{of_files}
use Rattle.sittings.specs.Courses.{course}
use Rattle.sittings.specs.Transcripts.{finish_text}
use Rattle.sittings.proofs.Taken.{appends_kept}
use Rattle.sittings.proofs.files.take_files.Goals as goal

pub returns : goal.returns
returns g c =
    let all = c.in_ok-all_read.ensures [] c.new-sitting.ensures in
    let G = all.1.lines in
    let front = G.written.0 in
    let end = finish_text (course (of_files all.0)) in
    (all.0, all.1.few, all.1.all, all.1.is_read, (front ++ end, (front, G.written.1, refl), appends_kept _ _ _ (front ++ end) (Appends-trans _ _ _ front end G.written.2 (c.in_ok-finish.ensures.written (of_files all.0) G.stands)) c.in_ok-flush.ensures.bytes))
