-- A refused path ends the count; a path that is granted takes its places.
use Rattle.std.proofs.Common.{◌≡◌, ℕ, ◌+◌, ◌++◌, map, length, Ok, Err, Option, sym, ap, ◌∙◌, rules, length-append}
use lib.ListN.{length-map}
use Rattle.plane.specs.Affines.{image_el}
use Rattle.layers.specs.Moves.{read_as}
use Rattle.sheets.specs.declared.fault.SheetFault.TheVariants.{Path}
use Rattle.sheets.specs.Book.{marks, Inked}
use Rattle.sheets.specs.Draws.{measured, left_of, spent}
use Rattle.sheets.proofs.Drawing.{front, more_ok, more_err, measured_ok, spent_more, handed_on}
use Rattle.sheets.proofs.draw.measure.Goals as goal

pub returns-in_err-path : goal.returns-in_err-path
returns-in_err-path g c =
    let k = marks g.M.Shape in
    let tol = c.args.tolerance in
    let es = c.args.entries.now in
    let i = c.loop-position.position in
    let e = c.index-entries-position in
    let f = c.in_err-path.field-0.0 in
    let said = c.in_err-path.ensures in
    let so = measured_ok c.args.places (front k tol i es) c.loop-position.left c.loop-position.invariant in
    let all = more_err k tol es i e.result so.0 f.fault c.loop-position-test.true e.is said.0 so.1 in
    handed_on c.from_residual.result (Path f) c.from_residual.ensures.1
    ∙ (λ j. Err (Path (record { position = said.1 j; fault = f.fault })))
    ∙ sym (ap (λ (s : Inked). measured c.args.places s) all)

pub loop-position-preserved : goal.loop-position-preserved
loop-position-preserved g c =
    let k = marks g.M.Shape in
    let tol = c.args.tolerance in
    let es = c.args.entries.now in
    let i = c.loop-position.position in
    let e = c.index-entries-position in
    let els = g.M.Path.Cursor.rest c.in_ok-path.path in
    let more = map (image_el (read_as e.result.numbers)) els in
    let so = measured_ok c.args.places (front k tol i es) c.loop-position.left c.loop-position.invariant in
    let a = more_ok k tol es i e.result so.0 els c.loop-position-test.true e.is c.in_ok-path.ensures so.1 in
    let n : length so.0 + length els ≡ length (so.0 ++ more) = simp (length-append, length-map) in
    let s : c.and_then-left.result ≡ spent c.loop-position.left (length els) = search rules in
    let q = s ∙ ap (λ (o : Option ℕ). spent o (length els)) so.2 ∙ spent_more c.args.places (length so.0) (length els) ∙ ap (left_of c.args.places) n in
    ap Ok q ∙ sym (ap (λ (s : Inked). measured c.args.places s) a)
