-- The answer by the entry at the position; what is left stands for the book's rows.
use Rattle.std.proofs.Common.{◌≡◌, ◌<◌, ◌≤◌, Bool, cond, length, ℕ, get_or, set, None, Ok, Err, Result, sym, refl, ap, ◌∙◌, arith, rules, get_or-take, length-set}
use Rattle.layers.specs.Moves.{page_offset}
use Rattle.sheets.specs.declared.fault.SheetFault.{SheetFault}
use Rattle.sheets.specs.declared.fault.SheetFault.TheVariants.{OffPage, NoMark}
use Rattle.sheets.specs.declared.order.Order.TheVariants.{Shift}
use Rattle.sheets.specs.declared.order.Answer.TheVariants as said
use Rattle.sheets.specs.declared.sheet.Entry.{Entry}
use Rattle.sheets.specs.Book.{marks, shift_answer}
use Rattle.sheets.specs.Tables.{held, used, where_granted, alter, moved_entry}
use Rattle.sheets.specs.Runs.{answered}
use Rattle.sheets.proofs.Sounds.{laws}
use Rattle.sheets.proofs.Moments.{told}
use Rattle.sheets.proofs.Counts.{used_count}
use Rattle.sheets.proofs.Shifts.{shift_none, shift_at, set_alter, shift_book}
use Rattle.sheets.proofs.sheet.Sheet.shift.Goals as goal

pub returns-in_err-ok_or : goal.returns-in_err-ok_or
returns-in_err-ok_or g c =
    let s = c.args.self.now in
    let t = c.args.table.now in
    let m = c.args.by.map in
    let i = c.args.position in
    let h : length (used s t) ≤ i = search rules in
    let f : c.from_residual.result ≡ Err NoMark = search rules in
    let a = f ∙ shift_none m i i (used s t) h in
    let u = sym (ap (λ (z : Result ℕ SheetFault). where_granted z (alter i (moved_entry m) t) t) f) in
    let b = shift_book m s t t i c.from_residual.result c.args.by.lawful a u in
    let k = marks g.M.Shape in
    let law = laws {k = k} g.met.M.Shape.same g.met.M.Shape.boxed g.met.M.Shape.formed in
    record { answer = a; table = u; book = b; history = told k law s s t t (Shift i c.args.by) (answered said.Position) c.from_residual.result (λ bs. shift_answer bs i i m) (λ bs. (refl, refl)) b refl }

pub returns-then-not-is_on_page : goal.returns-then-not-is_on_page
returns-then-not-is_on_page g c =
    let s = c.args.self.now in
    let t = c.args.table.now in
    let m = c.args.by.map in
    let i = c.args.position in
    let e = c.in_ok-ok_or.field-0.now in
    let h : i < length (used s t) = search rules in
    let r : e ≡ get_or (used s t) i e = search rules in
    let b = c.if-not-is_on_page.ensures ∙ ap (λ (x : Entry _). page_offset x.numbers) c.moved-entry.ensures in
    let a = ap (λ (z : Bool). cond z (Ok i) (Err (OffPage None))) b ∙ shift_at m i i (used s t) e h r in
    let b = shift_book m s t t i (Err (OffPage None)) c.args.by.lawful a refl in
    let k = marks g.M.Shape in
    let law = laws {k = k} g.met.M.Shape.same g.met.M.Shape.boxed g.met.M.Shape.formed in
    record { answer = a; table = refl; book = b; history = told k law s s t t (Shift i c.args.by) (answered said.Position) (Err (OffPage None)) (λ bs. shift_answer bs i i m) (λ bs. (refl, refl)) b refl }

pub returns : goal.returns
returns g c =
    let s = c.args.self.now in
    let t = c.args.table.now in
    let m = c.args.by.map in
    let i = c.args.position in
    let e = c.in_ok-ok_or.field-0.now in
    let h : i < length (used s t) = search rules in
    let r : e ≡ get_or (used s t) i e = search rules in
    let b = c.if-not-is_on_page.ensures ∙ ap (λ (x : Entry _). page_offset x.numbers) c.moved-entry.ensures in
    let a = ap (λ (z : Bool). cond z (Ok i) (Err (OffPage None))) b ∙ shift_at m i i (used s t) e h r in
    let n = used_count s t in
    let j : i < held s t = omega arith in
    let u = ap (set t i) c.moved-entry.ensures ∙ set_alter m i t e (omega arith) (r ∙ get_or-take (held s t) t i e j) in
    let b = shift_book m s t (set t i c.moved-entry.result) i (Ok i) c.args.by.lawful a u in
    let k = marks g.M.Shape in
    let law = laws {k = k} g.met.M.Shape.same g.met.M.Shape.boxed g.met.M.Shape.formed in
    record { answer = a; table = u; book = b; history = told k law s s t (set t i c.moved-entry.result) (Shift i c.args.by) (answered said.Position) (Ok i) (λ bs. shift_answer bs i i m) (λ bs. (refl, refl)) b (length-set t i c.moved-entry.result) }

pub offset_bounds-table-position : goal.offset_bounds-table-position
offset_bounds-table-position g c =
    let s = c.args.self.now in
    let t = c.args.table.now in
    let h : c.args.position < length (used s t) = search rules in
    let n = used_count s t in
    let l : c.args.position < length t = omega arith in
    search rules
