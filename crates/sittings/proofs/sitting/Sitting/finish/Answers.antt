-- The counts come after the sum of the last page. Assumes nothing.
use Rattle.std.proofs.Common.{◌++◌, codes}
use Rattle.std.proofs.KnownBytes.{Appends-trans}
use Rattle.std.proofs.lemmas.Result.{on_ok_weaker}
use Rattle.sittings.specs.Progresses.{over}
use Rattle.sittings.specs.Courses.{course}
use Rattle.sittings.specs.Tallies.{summary}
use Rattle.sittings.specs.Transcripts.{end_text}
use Rattle.sittings.proofs.Transcripts.{appends_same}
use Rattle.sittings.proofs.sitting.Sitting.finish.Goals as goal

pub returns : goal.returns
returns g c = record {
  written = λ past K.
      let s = course past in
      let E = c.in_ok-end_page.ensures.kept s K in
      let counts = summary (over s.progress).total ++ codes "\n" in
      on_ok_weaker c.writeln.result (λ w. Appends-trans _ _ _ (end_text s) counts (c.in_ok-end_page.ensures.written s K) (appends_same _ _ _ counts (λ i. summary (E.progress i).total ++ codes "\n") w)) c.writeln.ensures.bytes;
}
