-- The union of the boxes, lowest first.
use Rattle.std.proofs.Common.{◌≡◌, List, ◌∷◌, map, Some, rules, sym, ap, ◌∙◌}
use Rattle.std.proofs.lemmas.Fn.{fold_over, fronts}
use Rattle.std.proofs.lemmas.Iterator.{YieldsList-from_slice}
use Rattle.plane.specs.Rects.{joined}
use Rattle.sheets.specs.declared.sheet.Entry.{Entry}
use Rattle.sheets.specs.Book.{marks, moved_box, union_from, union_of}
use Rattle.sheets.specs.Tables.{row_of}
use Rattle.sheets.proofs.Asked.{union_more}
use Rattle.sheets.proofs.questions.union_of_boxes.Goals as goal

pub returns : goal.returns
returns g c =
    let k = marks g.M.Shape in
    let first = moved_box k (row_of c.in_ok-first.first.now) in
    let rest = c.in_ok-first.rest.now in
    let d : c.args.entries.now ≡ c.in_ok-first.first.now ∷ rest = search rules in
    let f : c.fold.result ≡ union_from k first (map row_of rest) =
    fold_over fronts _ _ (λ ys b. b ≡ union_from k first (map row_of ys)) _
    (λ ys a x b f' h q. let e : b ≡ joined a (moved_box k (row_of x.now)) = search rules in (e ∙ ap (λ u. joined u (moved_box k (row_of x.now))) h ∙ sym (union_more k first ys x.now), search rules))
    c.iter.result rest _ _ (YieldsList-from_slice {s = c.iter.result} rest c.iter.ensures.rest).runs c.frame.ensures c.fold.ensures.ran in
    ap Some f ∙ ap (λ (es : List (Entry _)). union_of k (map row_of es)) (sym d)
