-- The line comes after the sum of the page before it. Assumes nothing.
use Rattle.std.proofs.Common.{◌++◌, codes}
use Rattle.std.proofs.KnownBytes.{Appends-trans}
use Rattle.std.proofs.lemmas.Result.{on_ok_weaker}
use Rattle.orders.specs.Escapes.{escaped}
use Rattle.sittings.specs.Transcripts.{numbered, end_text}
use Rattle.sittings.proofs.Transcripts.{appends_same}
use Rattle.sittings.proofs.sitting.Sitting.turn_over.Goals as goal

pub returns-clause-written : goal.returns-clause-written
returns-clause-written g c s K =
    let E = c.in_ok-end_page.ensures.kept s K in
    let own = escaped c.args.text.now ++ codes " -> 0 marks\n" in
    on_ok_weaker c.writeln.result (λ w. Appends-trans _ _ _ (end_text s) (numbered s.progress.lines own) (c.in_ok-end_page.ensures.written s K) (appends_same _ _ _ (numbered s.progress.lines own) (λ i. numbered (E.progress i).lines own) w)) c.writeln.ensures.bytes
