-- Each turn writes one number more. Assumes nothing.
use Rattle.std.proofs.Common.{◌+◌, ◌++◌, drop, codes, refl}
use Rattle.std.proofs.KnownBytes.{Appends-trans}
use Rattle.numerals.proofs.Writing.{one_more, all_written}
use Rattle.exam.specs.Texts.{Says, SaysNumbers}
use Rattle.exam.proofs.NumberLists.{number_more, no_numbers}
use Rattle.exam.proofs.text.write_numbers.Goals as goal

pub loop-x-init : goal.loop-x-init
loop-x-init g c = (c.args.word.now, rw c.as_bytes.ensures.value at c.in_ok-write_all.ensures.bytes, λ rest said. (rest, said, refl))

pub loop-x-preserved : goal.loop-x-preserved
loop-x-preserved g c =
    let xs = c.args.numbers.now in
    let i = c.loop-x.x-index in
    let contents = g.W.Write.contents in
    let told = c.in_ok-write_number.ensures in
    one_more (SaysNumbers (drop i xs)) (Says c.args.word.now xs) _ _ (SaysNumbers (drop (i + 1) xs)) (contents c.write_number.new.out) (codes " " ++ told.0) c.loop-x.invariant
    (Appends-trans _ _ _ (codes " ") told.0 c.in_ok-write_all-2.ensures.bytes told.2)
    (number_more xs i _ told.0 c.loop-x-test.true told.1)

pub returns : goal.returns
returns g c =
    let xs = c.args.numbers.now in
    let i = c.loop-x.x-index in
    all_written (SaysNumbers (drop i xs)) (Says c.args.word.now xs) _ _ c.loop-x.invariant (no_numbers xs i c.loop-x-test.false)
