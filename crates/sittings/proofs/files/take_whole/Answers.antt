-- The end of the file comes after its lines. Assumes nothing.
use Rattle.std.proofs.Common.{◌++◌, ◌∷◌, [], map, refl}
use Rattle.sittings.specs.Courses.{next_line, file_end}
use Rattle.sittings.proofs.Taken.{kept, by_end, goes_on, one_file}
use Rattle.sittings.proofs.files.take_whole.Goals as goal

pub returns : goal.returns
returns g c past h =
    let t = c.in_ok-taken.ensures past h in
    let more = map next_line t.0 in
    let G = kept past more c.take_lines.new.sitting c.take_lines.new.sitting _ _ _ t.1.lines refl c.in_ok-is_whole.ensures in
    let end = c.in_ok-end_file.ensures in
    let now = c.end_file.new.self in
    let E = by_end (past ++ more) now _ _ (end.history (past ++ more) G.stands) (end.written (past ++ more) G.stands) in
    let all = goes_on past more (file_end ∷ []) _ now _ _ _ G E in
    (t.0 ∷ [], one_file past t.0 c.in_ok-is_whole.is_whole c.in_ok-taken.taken.all_read now _ _ (kept past (more ++ (file_end ∷ [])) now now _ _ _ all refl c.in_ok-flush.ensures.bytes) t.1.is_read)
