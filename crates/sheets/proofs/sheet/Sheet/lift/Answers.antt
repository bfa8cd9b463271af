-- What is left stands for the book's rows.
use Rattle.std.proofs.Common.{refl, arith, ◌≤◌, ◌<◌, ◌∙◌, ap, ◌+◌, ℕ, length, ◌-◌, Ok}
use Rattle.std.specs.List.{copy_within}
use Rattle.sheets.specs.declared.order.Order.TheVariants.{Lift}
use Rattle.sheets.specs.declared.order.Answer.TheVariants as said
use Rattle.sheets.specs.Book.{marks, lift_answer}
use Rattle.sheets.specs.Tables.{counting, held}
use Rattle.sheets.specs.Runs.{answered}
use Rattle.sheets.proofs.Sounds.{laws}
use Rattle.sheets.proofs.Moments.{told}
use Rattle.sheets.proofs.Lifts.{lifted, lift_none, lift_one, lift_book}
use Rattle.sheets.proofs.sheet.Sheet.lift.Goals as goal

pub returns-then-position-count-clause-book : goal.returns-then-position-count-clause-book
returns-then-position-count-clause-book g c =
    let v = c.count-count.ensures.value in
    let h : held c.args.self.now c.args.table.now ≤ c.args.position = omega arith in
    lift_book c.args.self.now c.args.table.now c.args.position _ _ _ (lift_none c.args.self.now c.args.table.now c.args.position h) refl refl

pub returns-then-position-count-clause-history : goal.returns-then-position-count-clause-history
returns-then-position-count-clause-history g c =
    let k = marks g.M.Shape in
    let law = laws {k = k} g.met.M.Shape.same g.met.M.Shape.boxed g.met.M.Shape.formed in
    told k law c.args.self.now _ c.args.table.now _ (Lift c.args.position) (answered said.Marks) _ (λ bs. lift_answer bs c.args.position) (λ bs. (refl, refl)) (returns-then-position-count-clause-book g c) refl

pub returns : goal.returns
returns g c =
    let s = c.args.self.now in
    let t = c.args.table.now in
    let i = c.args.position in
    let v = c.count-count.ensures.value in
    let h : i < held s t = omega arith in
    let n : held s t ≤ length t = omega arith in
    let u = c.copy_within.ensures.after ∙ ap (λ (n : ℕ). copy_within t (i + 1) n i) v ∙ lifted i (held s t) t h n in
    let a = ap (λ (n : ℕ). Ok (n - 1)) v ∙ lift_one s t i h in
    let r = ap (λ (n : ℕ). counting (n - 1)) v in
    let b = lift_book s t i _ _ _ a r u in
    let k = marks g.M.Shape in
    let law = laws {k = k} g.met.M.Shape.same g.met.M.Shape.boxed g.met.M.Shape.formed in
    record { answer = a; «record» = r; table = u; book = b; history = told k law s _ t _ (Lift i) (answered said.Marks) _ (λ bs. lift_answer bs i) (λ bs. (refl, refl)) b (omega arith) }
