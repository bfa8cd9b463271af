-- Each turn takes one line more, and the last one finds none. Assumes nothing.
use Rattle.std.proofs.Common.{[], ◌∷◌, ◌++◌, ◌≡◌, true, false, map, Ok, Err, sym, refl, ap, ◌∙◌, subst, inl, inr}
use Rattle.std.proofs.KnownBytes.{Keeps-refl}
use Rattle.sittings.specs.Files.{IsNoLine}
use Rattle.sittings.specs.Courses.{next_line}
use Rattle.sittings.proofs.Taken.{none_yet, line_more, at_end, broken_off, cut_short, read_before}
use Rattle.sittings.proofs.files.take_lines.Goals as goal

pub loop-init : goal.loop-init
loop-init g c = (λ s. refl, λ past h. ([], none_yet past _ _ _ h))

pub returns-in-Ok-None : goal.returns-in-Ok-None
returns-in-Ok-None g c past h =
    let I = c.loop.invariant in
    let so = I.1 past h in
    let e = c.in-Ok-None.is ∙ ap Ok c.in-Ok-None.field-0-is in
    let end = c.take_next.ensures.end e in
    let none = c.take_next.ensures.none (subst IsNoLine (sym e) tt) in
    (so.0, at_end past so.0 _ _ c.args.strict _ c.loop.sitting c.take_next.new.sitting _ _ _ c.to_the_end.result c.to_the_end.ensures.0 so.1 I.0 _ end.0 end.1 none.0 none.1)

pub returns-in-Err-Input : goal.returns-in-Err-Input
returns-in-Err-Input g c past h =
    let I = c.loop.invariant in
    let so = I.1 past h in
    let e = c.in-Err-Input.is ∙ ap Err c.in-Err-Input.field-0-is in
    let none = c.take_next.ensures.none (subst IsNoLine (sym e) tt) in
    (so.0, broken_off past so.0 _ _ c.args.strict _ c.loop.sitting c.take_next.new.sitting _ _ _ c.broken_off.result c.broken_off.ensures.0 so.1 I.0 c.broken_off.ensures.1 none.0 none.1)

pub returns-then-not-all_read : goal.returns-then-not-all_read
returns-then-not-all_read g c past h =
    let I = c.loop.invariant in
    let so = I.1 past h in
    let T = c.take_next.ensures.line (past ++ map next_line so.0) c.in-Ok-Some.read so.1.lines.stands (c.in-Ok-Some.is ∙ ap Ok c.in-Ok-Some.field-0-is) in
    let S = line_more past so.0 _ _ _ c.loop.all_read c.in-Ok-Some.read c.loop.sitting c.take_next.new.sitting _ _ _ so.1 T in
    let now = c.take_next.new.sitting in
    let t = c.to_the_end-then-not-all_read in
    let before = read_before past so.0 T.line _ _ c.args.strict c.loop.all_read c.loop.sitting _ _ so.1 I.0 in
    (so.0 ++ (T.line ∷ []), cut_short past (so.0 ++ (T.line ∷ [])) _ _ c.args.strict _ now now _ _ _ t.result t.ensures.0 S before c.if-strict.true c.if-not-all_read.true refl (Keeps-refl _))

pub loop-preserved : goal.loop-preserved
loop-preserved g c = (
  λ s. elim c.else-strict.either [ inl e ↦ e.1 | inr e ↦ absurd (let f : true ≡ false = sym s ∙ e in cc) ],
  λ past h.
      let so = c.loop.invariant.1 past h in
      let T = c.take_next.ensures.line (past ++ map next_line so.0) c.in-Ok-Some.read so.1.lines.stands (c.in-Ok-Some.is ∙ ap Ok c.in-Ok-Some.field-0-is) in
      (so.0 ++ (T.line ∷ []), line_more past so.0 _ _ _ c.loop.all_read c.in-Ok-Some.read c.loop.sitting c.take_next.new.sitting _ _ _ so.1 T),
)

pub returns : goal.returns
returns g c past h =
    let I = c.loop.invariant in
    let so = I.1 past h in
    let it = c.loop.sitting in
    (so.0, broken_off past so.0 _ _ c.args.strict _ it it _ _ _ c.broken_off-2.result c.broken_off-2.ensures.0 so.1 I.0 c.broken_off-2.ensures.1 refl (Keeps-refl _))
