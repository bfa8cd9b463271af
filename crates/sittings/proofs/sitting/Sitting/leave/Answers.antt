-- What is known of the sitting names the same line and page. Assumes nothing.
use Rattle.std.proofs.Common.{◌++◌, codes, ◌∙◌}
use Rattle.orders.specs.Escapes.{escaped}
use Rattle.sittings.specs.Transcripts.{numbered}
use Rattle.sittings.proofs.Transcripts.{on_ok_same}
use Rattle.sittings.proofs.sitting.Sitting.leave.Goals as goal

pub returns-clause-written : goal.returns-clause-written
returns-clause-written g c s K =
    let name = c.as_str-name.ensures.value ∙ K.name in
    on_ok_same c.writeln.result _ _ _ _ (λ i. numbered (K.progress i).lines (escaped c.args.text.now ++ (codes " -> not marked: " ++ (name i ++ codes "\n")))) c.writeln.ensures.bytes
