-- What is left stands for the book's rows.
use Rattle.std.proofs.Common.{◌<◌, ◌≤◌, true, false, length, Ok, refl, ap, ◌∙◌, arith, rules, length-set}
use Rattle.plane.specs.Rects.{finite_sides}
use Rattle.sheets.specs.declared.order.Order.TheVariants.{Put}
use Rattle.sheets.specs.declared.order.Answer.TheVariants as said
use Rattle.sheets.specs.Book.{marks, usable, put_answer}
use Rattle.sheets.specs.Tables.{held}
use Rattle.sheets.specs.Runs.{answered}
use Rattle.sheets.proofs.Sounds.{laws}
use Rattle.sheets.proofs.Moments.{told}
use Rattle.sheets.proofs.Puts.{put_full, put_room, put_book}
use Rattle.sheets.proofs.sheet.Sheet.put.Goals as goal

pub returns-then-position-usable-clause-book : goal.returns-then-position-usable-clause-book
returns-then-position-usable-clause-book g c =
    let k = marks g.M.Shape in
    let s = c.args.self.now in
    let t = c.args.table.now in
    let v = c.count-position.ensures.value in
    let w = c.usable.ensures.value in
    let h : usable (length t) ≤ held s t = omega arith in
    put_book k s t c.args.mark c.args.place.map _ _ _ c.args.place.lawful (put_full k s t c.args.mark h) refl refl

pub returns-then-not-is_finite-clause-book : goal.returns-then-not-is_finite-clause-book
returns-then-not-is_finite-clause-book g c =
    let k = marks g.M.Shape in
    let s = c.args.self.now in
    let t = c.args.table.now in
    let v = c.count-position.ensures.value in
    let w = c.usable.ensures.value in
    let h : held s t < usable (length t) = omega arith in
    put_book k s t c.args.mark c.args.place.map _ _ _ c.args.place.lawful (put_room k s t c.args.mark false h (c.if-not-is_finite.ensures ∙ ap finite_sides c.bounding_box.ensures)) refl refl

pub returns-clause-book : goal.returns-clause-book
returns-clause-book g c =
    let k = marks g.M.Shape in
    let s = c.args.self.now in
    let t = c.args.table.now in
    let v = c.count-position.ensures.value in
    let w = c.usable.ensures.value in
    let h : held s t < usable (length t) = omega arith in
    let a = ap Ok v ∙ put_room k s t c.args.mark true h (c.if-not-is_finite.ensures ∙ ap finite_sides c.bounding_box.ensures) in
    put_book k s t c.args.mark c.args.place.map _ _ _ c.args.place.lawful a (search rules) (search rules)

pub returns-then-position-usable-clause-history : goal.returns-then-position-usable-clause-history
returns-then-position-usable-clause-history g c =
    let k = marks g.M.Shape in
    let law = laws {k = k} g.met.M.Shape.same g.met.M.Shape.boxed g.met.M.Shape.formed in
    told k law c.args.self.now _ c.args.table.now _ (Put c.args.mark c.args.place) (answered said.Position) _ (λ bs. put_answer k (length c.args.table.now) bs c.args.mark) (λ bs. (refl, refl)) (returns-then-position-usable-clause-book g c) refl

pub returns-then-not-is_finite-clause-history : goal.returns-then-not-is_finite-clause-history
returns-then-not-is_finite-clause-history g c =
    let k = marks g.M.Shape in
    let law = laws {k = k} g.met.M.Shape.same g.met.M.Shape.boxed g.met.M.Shape.formed in
    told k law c.args.self.now _ c.args.table.now _ (Put c.args.mark c.args.place) (answered said.Position) _ (λ bs. put_answer k (length c.args.table.now) bs c.args.mark) (λ bs. (refl, refl)) (returns-then-not-is_finite-clause-book g c) refl

pub returns-clause-history : goal.returns-clause-history
returns-clause-history g c =
    let k = marks g.M.Shape in
    let law = laws {k = k} g.met.M.Shape.same g.met.M.Shape.boxed g.met.M.Shape.formed in
    told k law c.args.self.now _ c.args.table.now _ (Put c.args.mark c.args.place) (answered said.Position) _ (λ bs. put_answer k (length c.args.table.now) bs c.args.mark) (λ bs. (refl, refl)) (returns-clause-book g c) (length-set _ _ _)
