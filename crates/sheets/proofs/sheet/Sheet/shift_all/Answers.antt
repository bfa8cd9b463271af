-- What is left stands for the book's rows.
use Rattle.std.proofs.Common.{◌≡◌, ℕ, List, ◌++◌, map, take, drop, None, sym, ap, ◌∙◌, take-append-drop, rules, refl, arith}
use Rattle.sheets.specs.declared.sheet.Entry.{Entry}
use Rattle.sheets.specs.declared.order.Order.TheVariants.{ShiftAll}
use Rattle.sheets.specs.declared.order.Answer.TheVariants as said
use Rattle.sheets.specs.Book.{marks, by_lowest, leaving, shift_all_answer}
use Rattle.sheets.specs.Tables.{moved_entry, row_of}
use Rattle.sheets.specs.Runs.{answered}
use Rattle.sheets.proofs.Sounds.{laws}
use Rattle.sheets.proofs.Moments.{told}
use Rattle.sheets.proofs.Counts.{rows_count}
use Rattle.sheets.proofs.Shifts.{shift_all_book}
use Rattle.sheets.proofs.sheet.Sheet.shift_all.Goals as goal

pub returns-then-is_some-clause-book : goal.returns-then-is_some-clause-book
returns-then-is_some-clause-book g c =
    let t = c.args.table.now in
    shift_all_book c.args.by.map c.args.self.now t _ _ c.args.by.lawful (search rules) (take-append-drop c.count-count.result t)

pub returns-clause-book : goal.returns-clause-book
returns-clause-book g c =
    let s = c.args.self.now in
    let t = c.args.table.now in
    let m = c.args.by.map in
    let v = c.count-count.ensures.value in
    let none : None ≡ c.first_leaving-mark.result = search rules in
    let found = none ∙ c.first_leaving-mark.ensures ∙ ap (λ (n : ℕ). leaving 0 (map row_of (take n t)) m) v in
    let u = ap (λ (es : List (Entry _)). es ++ drop c.count-count.result t) c.carry_all.ensures ∙ ap (λ (n : ℕ). map (moved_entry m) (take n t) ++ drop n t) v in
    shift_all_book m s t _ _ c.args.by.lawful (λ i. by_lowest ((v ∙ sym (rows_count s t)) i) (found i)) u

pub returns-then-is_some-clause-history : goal.returns-then-is_some-clause-history
returns-then-is_some-clause-history g c =
    let k = marks g.M.Shape in
    let law = laws {k = k} g.met.M.Shape.same g.met.M.Shape.boxed g.met.M.Shape.formed in
    told k law c.args.self.now c.args.self.now c.args.table.now _ (ShiftAll c.args.by) (answered said.Marks) _ (λ bs. shift_all_answer bs c.args.by.map) (λ bs. (refl, refl)) (returns-then-is_some-clause-book g c) (omega arith)

pub returns-clause-history : goal.returns-clause-history
returns-clause-history g c =
    let k = marks g.M.Shape in
    let law = laws {k = k} g.met.M.Shape.same g.met.M.Shape.boxed g.met.M.Shape.formed in
    told k law c.args.self.now c.args.self.now c.args.table.now _ (ShiftAll c.args.by) (answered said.Marks) _ (λ bs. shift_all_answer bs c.args.by.map) (λ bs. (refl, refl)) (returns-clause-book g c) (omega arith)
