-- A line is taken by what stands before its comment. Assumes nothing.
use Rattle.std.proofs.Common.{[], Ok, Err, sym, refl, ap, ◌∙◌, subst}
use Rattle.std.proofs.lemmas.Result.{on_ok_weaker}
use Rattle.orders.specs.Intents.{intent_of}
use Rattle.orders.specs.Reasons.{reason_of}
use Rattle.sittings.specs.Moments.{StandsFor}
use Rattle.sittings.specs.Courses.{Course, course, next_line, come}
use Rattle.sittings.specs.Transcripts.{passed_text}
use Rattle.sittings.proofs.Moments.{pushed, come_kept, line_kept, line_says, read_on, read_says, sound_now}
use Rattle.sittings.proofs.sitting.Sitting.take_line.Goals as goal

pub returns-in-Ok-empty-clause-history : goal.returns-in-Ok-empty-clause-history
returns-in-Ok-empty-clause-history g c past K =
    let s = course past in
    let N = c.next_line-line in
    let it = c.args.self.now in
    let line = c.args.line.now in
    let bytes = N.result.now in
    let C = come_kept s it N.new.self line bytes K N.ensures.bytes N.ensures.progress N.ensures.same in
    pushed past (next_line line) N.new.self (line_kept s it N.new.self line bytes K N.ensures.bytes N.ensures.progress N.ensures.same (Ok []) (c.in-Ok-empty.ensures ∙ ap Ok c.in-Ok-empty.is-empty) N.new.self C)

pub returns-in-Ok-clause-history : goal.returns-in-Ok-clause-history
returns-in-Ok-clause-history g c past K =
    let s = course past in
    let N = c.next_line-line in
    let it = c.args.self.now in
    let line = c.args.line.now in
    let bytes = N.result.now in
    let text = c.in-Ok.text.now in
    let C = come_kept s it N.new.self line bytes K N.ensures.bytes N.ensures.progress N.ensures.same in
    on_ok_weaker c.take_order.result
    (λ k. pushed past (next_line line) c.take_order.new.self (line_kept s it N.new.self line bytes K N.ensures.bytes N.ensures.progress N.ensures.same (Ok text) c.in-Ok.ensures c.take_order.new.self
    (subst (λ (m : Course). StandsFor m c.take_order.new.self) (sym (read_on bytes text (come s) c.in-Ok.not-empty)) k)))
    (c.take_order.ensures.kept (come s) C)

pub returns-in-Ok-clause-written : goal.returns-in-Ok-clause-written
returns-in-Ok-clause-written g c past K =
    let s = course past in
    let N = c.next_line-line in
    let it = c.args.self.now in
    let line = c.args.line.now in
    let bytes = N.result.now in
    let text = c.in-Ok.text.now in
    let C = come_kept s it N.new.self line bytes K N.ensures.bytes N.ensures.progress N.ensures.same in
    on_ok_weaker c.take_order.result
    (λ w. (w.0, line_says s it N.new.self line bytes K N.ensures.bytes N.ensures.progress N.ensures.same (Ok text) c.in-Ok.ensures w.0 (read_says bytes text (come s) w.0 c.in-Ok.not-empty w.1), w.2))
    (c.take_order.ensures.written (come s) C)

pub returns-in_ok-pass_over-in-Err-clause-history : goal.returns-in_ok-pass_over-in-Err-clause-history
returns-in_ok-pass_over-in-Err-clause-history g c past K =
    let s = course past in
    let N = c.next_line-line in
    let it = c.args.self.now in
    let line = c.args.line.now in
    let bytes = N.result.now in
    let C = come_kept s it N.new.self line bytes K N.ensures.bytes N.ensures.progress N.ensures.same in
    pushed past (next_line line) c.pass_over.new.self (line_kept s it N.new.self line bytes K N.ensures.bytes N.ensures.progress N.ensures.same (Err (reason_of c.in-Err.why)) c.in-Err.ensures c.pass_over.new.self
    (c.in_ok-pass_over-in-Err.ensures.kept (come s) C))

pub returns-in_ok-pass_over-in-Err-clause-written : goal.returns-in_ok-pass_over-in-Err-clause-written
returns-in_ok-pass_over-in-Err-clause-written g c past K =
    let s = course past in
    let N = c.next_line-line in
    let it = c.args.self.now in
    let line = c.args.line.now in
    let bytes = N.result.now in
    let C = come_kept s it N.new.self line bytes K N.ensures.bytes N.ensures.progress N.ensures.same in
    let said = passed_text (intent_of bytes) (reason_of c.in-Err.why) (come s) in
    (said, line_says s it N.new.self line bytes K N.ensures.bytes N.ensures.progress N.ensures.same (Err (reason_of c.in-Err.why)) c.in-Err.ensures said refl, c.in_ok-pass_over-in-Err.ensures.written (come s) C)

pub returns-in_err-pass_over-in-Err-clause-sound : goal.returns-in_err-pass_over-in-Err-clause-sound
returns-in_err-pass_over-in-Err-clause-sound g c past = sound_now (course past)

pub returns-in-Ok-empty-clause-sound : goal.returns-in-Ok-empty-clause-sound
returns-in-Ok-empty-clause-sound g c past = sound_now (course past)

pub returns-in-Ok-clause-sound : goal.returns-in-Ok-clause-sound
returns-in-Ok-clause-sound g c past = sound_now (course past)

pub returns-in_ok-pass_over-in-Err-clause-sound : goal.returns-in_ok-pass_over-in-Err-clause-sound
returns-in_ok-pass_over-in-Err-clause-sound g c past = sound_now (course past)
