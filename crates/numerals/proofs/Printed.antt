-- What is written is a numeral of the number. Assumes nothing.
use Rattle.std.proofs.Common.{◌≡◌, Bool, true, false, [], ◌∷◌, ◌++◌, codes, Some, None, Option, Bor, ◌≢◌, inl, inr, refl, sym, ◌∙◌, subst, arith}
use Rattle.std.proofs.lemmas.Float.Parse.{parse_float_on_literals}
use Rattle.std.specs.Float.{binary64, float_is_finite}
use Rattle.std.specs.Option.{MatchOption, unwrap_or}
use lib.Ieee.{Float, nan, inf, fin, is_nan}
use Rattle.ryu.specs.Parse.{parse_float}
use Rattle.ryu.specs.Plain.{IsPlainNumber, IsLaidOutNumber, word_of}
use Rattle.numerals.specs.Numerals.{IsNumeral, Text}
use Rattle.numerals.proofs.WholeNumbers.{NoPoint, one_stands, no_point_left, reads_same}

pub only_nan : (x : Float) → is_nan x ≡ true → IsNumeral x (codes "nan")
unfolding parse_float_on_literals is_nan
only_nan nan e = (refl, refl)
only_nan (inf s) e = absurd cc
only_nan (fin s m e) h = absurd cc

-- the text of the printer
pub record IsPrinted (x : Float) (text : Text) : Type 0 where
  pub reads : parse_float binary64 text ≡ Some x
  pub plain : float_is_finite x ≡ true → IsPlainNumber text
  pub layout : float_is_finite x ≡ true → IsLaidOutNumber 16 4 text
  pub word : float_is_finite x ≡ false → text ≡ word_of x

pub as_printed : (x : Float) (text : Text) → is_nan x ≡ false → IsPrinted x text → ((front : Text) → text ≢ front ++ codes ".0") → IsNumeral x text
unfolding float_is_finite is_nan
as_printed nan text e p bare = absurd cc
as_printed (inf s) text e p bare = (p.reads, p.word refl)
as_printed (fin s m e) text h p bare = (p.reads, record { layout = inl (p.layout refl); bare = bare })

no_point : (negative : Bool) → NoPoint (word_of (inf negative))
no_point true = (λ e. omega arith, (λ e. omega arith, (λ e. omega arith, (λ e. omega arith, tt))))
no_point false = (λ e. omega arith, (λ e. omega arith, (λ e. omega arith, tt)))

pub without_tail : (x : Float) (text front : Text) → is_nan x ≡ false → IsPrinted x text → text ≡ front ++ codes ".0" → IsNumeral x front
unfolding float_is_finite is_nan
without_tail nan text front e p same = absurd cc
without_tail (inf s) text front e p same = absurd (one_stands front (48 ∷ []) (subst NoPoint (sym (p.word refl) ∙ same) (no_point s)))
without_tail (fin s m e) text front h p same =
    let bare : (start : Text) → front ≢ start ++ codes ".0" = λ start twice. one_stands start (48 ∷ []) (subst NoPoint twice (no_point_left text front (p.plain refl) same)) in
    (reads_same binary64 text front (p.plain refl) same ∙ p.reads, record { layout = inr (subst (IsLaidOutNumber 16 4) same (p.layout refl)); bare = bare })

-- the text of the printer, or what stands before `.0` in it
pub as_cut : (x : Float) (text : Text) (r : Option (Bor Text)) (whole : Bor Text) → is_nan x ≡ false → IsPrinted x text → whole.now ≡ text
    → MatchOption r ((front : Text) → text ≢ front ++ codes ".0") (λ y. text ≡ y.now ++ codes ".0") → IsNumeral x (unwrap_or r whole).now
as_cut x text (Some y) whole number p same cut = without_tail x text y.now number p cut
as_cut x text None whole number p same cut = subst (IsNumeral x) (sym same) (as_printed x text number p cut)
