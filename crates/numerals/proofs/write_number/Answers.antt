-- The text of the printer, with no `.0` at its end. Assumes nothing.
use Rattle.std.proofs.Common.{◌≡◌, Bor, false, codes, refl, sym, ◌∙◌, subst}
use Rattle.std.proofs.lemmas.Bool.Decides.{Decides-eqb}
use Rattle.std.proofs.lemmas.Slice.Eq.{strip_suffix_is}
use Rattle.std.specs.Io.KnownBytes.{Appends}
use lib.Ieee.{is_nan}
use Rattle.numerals.specs.Numerals.{IsNumeral, Text}
use Rattle.numerals.proofs.Printed.{IsPrinted, only_nan, as_cut}
use Rattle.numerals.proofs.Writing.{wrote}
use Rattle.numerals.proofs.write_number.Goals as goal

pub returns-then-is_nan : goal.returns-then-is_nan
returns-then-is_nan g c =
    wrote c.write_all.result (IsNumeral c.args.x) (Appends (g.W.Write.contents c.args.out.now) (g.W.Write.contents c.write_all.new.self)) (codes "nan")
    (only_nan c.args.x (sym c.is_nan.ensures.value ∙ c.if-is_nan.true)) c.write_all.ensures.bytes

pub returns : goal.returns
returns g c =
    let x = c.args.x in
    let text = c.as_bytes-text.result.now in
    let number : is_nan x ≡ false = sym c.is_nan.ensures.value ∙ c.if-is_nan.false in
    let printed : IsPrinted x text = subst (IsPrinted x) (sym c.as_bytes-text.ensures.value) (record { reads = c.format.ensures.parses; plain = c.format.ensures.plain; layout = c.format.ensures.layout; word = c.format.ensures.word }) in
    let cut = strip_suffix_is Decides-eqb text (codes ".0") c.strip_suffix.result c.strip_suffix.ensures.cases in
    let numeral = as_cut x text c.strip_suffix.result c.as_bytes-text.result number printed refl cut in
    wrote c.write_all-2.result (IsNumeral x) (Appends (g.W.Write.contents c.args.out.now) (g.W.Write.contents c.write_all-2.new.self)) c.unwrap_or.result.now
    (subst (λ (r : Bor Text). IsNumeral x r.now) (sym c.unwrap_or.ensures) numeral) c.write_all-2.ensures.bytes
