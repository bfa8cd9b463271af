-- The reason comes after what the line's intent has written. Assumes nothing.
use Rattle.std.proofs.Common.{◌++◌, codes, ap, ◌∙◌}
use Rattle.std.proofs.KnownBytes.{Appends-trans}
use Rattle.std.proofs.lemmas.Result.{on_ok_weaker}
use Rattle.orders.specs.Reasons.{reason_of}
use Rattle.sittings.specs.Transcripts.{numbered, meant_text}
use Rattle.sittings.specs.declared.progress.Progress.{Progress}
use Rattle.sittings.proofs.Moments.{meant_lines}
use Rattle.sittings.proofs.Transcripts.{appends_same}
use Rattle.sittings.proofs.sitting.Sitting.pass_over.Goals as goal

pub returns-clause-written : goal.returns-clause-written
returns-clause-written g c s K =
    let i = c.intent.result in
    let own = codes "unreadable: " ++ (reason_of c.args.why ++ codes "\n") in
    let n = ap (λ (p : Progress). p.lines) (c.in_ok-heed.ensures.kept s K).progress ∙ meant_lines i s in
    on_ok_weaker c.writeln.result (λ w.
    appends_same _ _ _ _ (λ j. meant_text (c.intent.ensures j) s ++ numbered s.progress.lines own)
    (Appends-trans _ _ _ (meant_text i s) (numbered s.progress.lines own) (c.in_ok-heed.ensures.written s K) (appends_same _ _ _ (numbered s.progress.lines own) (λ j. numbered (n j) own) w)))
    c.writeln.ensures.bytes
