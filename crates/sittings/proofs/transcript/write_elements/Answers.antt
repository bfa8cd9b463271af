-- Each turn writes one element more. Assumes nothing.
use Rattle.std.proofs.Common.{◌+◌, ◌++◌, drop, codes}
use Rattle.std.proofs.KnownBytes.{Appends-trans}
use Rattle.numerals.proofs.Writing.{one_more, all_written}
use Rattle.sittings.specs.Transcripts.{ElementsSay}
use Rattle.sittings.proofs.Transcripts.{element_more, no_elements}
use Rattle.sittings.proofs.transcript.write_elements.Goals as goal

pub loop-el-preserved : goal.loop-el-preserved
loop-el-preserved g c =
    let es = c.args.els.now in
    let i = c.loop-el.el-index in
    let told = c.in_ok-write_element.ensures in
    one_more (ElementsSay (drop i es)) (ElementsSay es) _ _ (ElementsSay (drop (i + 1) es)) (g.W.Write.contents c.write_all.new.self) (told.0 ++ codes "\n") c.loop-el.invariant
    (Appends-trans _ _ _ told.0 (codes "\n") told.2 c.in_ok-write_all.ensures.bytes)
    (element_more es i _ told.0 c.loop-el-test.true told.1)

pub returns : goal.returns
returns g c =
    let es = c.args.els.now in
    let i = c.loop-el.el-index in
    all_written (ElementsSay (drop i es)) (ElementsSay es) _ _ c.loop-el.invariant (no_elements es i c.loop-el-test.false)
