-- The pieces, one behind the other. Assumes nothing.
use Rattle.std.proofs.Common.{◌++◌, codes, append_assoc}
use Rattle.std.proofs.KnownBytes.{Appends-trans}
use Rattle.numerals.proofs.Writing.{wrote_after}
use Rattle.exam.specs.Texts.{SaysMeasures, steps_text}
use Rattle.exam.proofs.text.write_measures.Goals as goal

pub returns : goal.returns
returns g c =
    let m = c.args.measures in
    let area = c.in_ok-write_numbers.ensures in
    let perimeter = c.in_ok-write_numbers-2.ensures in
    let sides = c.in_ok-write_box.ensures in
    let to_perimeter = Appends-trans _ _ _ _ _ (Appends-trans _ _ _ area.0 (codes " ") area.2 c.in_ok-write_all.ensures.bytes) perimeter.2 in
    let to_sides = Appends-trans _ _ _ _ _ (Appends-trans _ _ _ _ (codes " ") to_perimeter c.in_ok-write_all-2.ensures.bytes) sides.2 in
    wrote_after c.write_steps.result (SaysMeasures m) _ _ _ ((((area.0 ++ codes " ") ++ perimeter.0) ++ codes " ") ++ sides.0) (steps_text m.steps) to_sides
    (area.0, perimeter.0, sides.0, area.1, perimeter.1, sides.1, simp append_assoc) c.write_steps.ensures
