-- What fits as a whole fits path by path, and nothing of it is refused.
use Rattle.std.proofs.Common.{◌≡◌, ℕ, ◌≤◌, ◌++◌, map, length, take, drop, Ok, Err, sym, ap, ◌∙◌, arith, length-take-le}
use Rattle.std.proofs.lemmas.List.{drop-drop}
use Rattle.plane.specs.declared.affine.Affine.{Affine}
use Rattle.plane.specs.Affines.{image_el}
use Rattle.sheets.specs.declared.fault.SheetFault.TheVariants.{Path}
use Rattle.sheets.specs.Book.{marks}
use Rattle.sheets.specs.Draws.{entries_drawn}
use Rattle.sheets.proofs.Drawing.{fitting_ok, room_for, more_ok, more_err}
use Rattle.sheets.proofs.draw.pour_all.Goals as goal

pub returns-in_err-path : goal.returns-in_err-path
returns-in_err-path g c =
    let k = marks g.M.Shape in
    let tol = c.args.tolerance in
    let es = c.args.entries.now in
    let l = c.loop-position in
    let e = c.index-entries-position in
    let f = c.in_err-path.field-0.0 in
    let all = fitting_ok (length c.args.buffer.now) (entries_drawn k tol es) c.requires in
    let no = more_err k tol es l.position e.result (take l.at l.buffer) f.fault c.loop-position-test.true e.is c.in_err-path.ensures.0 l.invariant.0 in
    let clash : Ok all.0 ≡ Err (Path (record { position = l.position; fault = f.fault })) = sym all.1 ∙ no in
    cc

pub pour-at-requires : goal.pour-at-requires
pour-at-requires g c =
    let k = marks g.M.Shape in
    let tol = c.args.tolerance in
    let es = c.args.entries.now in
    let l = c.loop-position in
    let e = c.index-entries-position in
    let all = fitting_ok (length c.args.buffer.now) (entries_drawn k tol es) c.requires in
    let els = g.M.Path.Cursor.rest c.in_ok-path.path in
    let r = room_for k tol es l.position e.result (take l.at l.buffer) els all.0 c.loop-position-test.true e.is c.in_ok-path.ensures l.invariant.0 all.1 in
    let m = length-take-le l.at l.buffer l.invariant.1 in
    let q : length all.0 ≤ length c.args.buffer.now = all.2 in
    omega arith

pub loop-position-preserved : goal.loop-position-preserved
loop-position-preserved g c =
    let k = marks g.M.Shape in
    let es = c.args.entries.now in
    let l = c.loop-position in
    let e = c.index-entries-position in
    let p = c.pour-at in
    let els = g.M.Path.Cursor.rest c.in_ok-path.path in
    let place = c.numbers.ensures.value ∙ c.place.ensures in
    let a = more_ok k c.args.tolerance es l.position e.result (take l.at l.buffer) els c.loop-position-test.true e.is c.in_ok-path.ensures l.invariant.0 in
    let front' = p.ensures.front ∙ ap (λ (m : Affine). take l.at l.buffer ++ map (image_el m) els) place in
    let b = ap (λ (n : ℕ). drop n l.buffer) p.ensures.end ∙ sym (drop-drop (length els) l.at l.buffer) ∙ ap (drop (length els)) l.invariant.2 ∙ drop-drop (length els) l.at c.args.buffer.now ∙ sym (ap (λ (n : ℕ). drop n c.args.buffer.now) p.ensures.end) in
    (a ∙ ap Ok (sym front'), p.ensures.within, p.ensures.back ∙ b)
