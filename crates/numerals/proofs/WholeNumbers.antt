-- A text that ends in `.0` reads the same without it. Assumes nothing.
use Rattle.std.proofs.Common.{◌≡◌, ℕ, ◌+◌, ◌*◌, ◌<◌, Bool, true, false, cond, List, [], ◌∷◌, ◌++◌, length, codes, Some, refl, sym, ap, ◌∙◌, subst, arith, append-nil, append_assoc, length-append, rules}
use Rattle.std.proofs.lemmas.Float.Parse.{parse_float-text_of}
use Rattle.std.proofs.lemmas.Int.Digits.{digits_value_push}
use Rattle.std.proofs.lemmas.Str.Parse.{digit_from_value}
use Rattle.std.specs.Float.Numeral.{Parts, exponent_text, text_of, IsWellFormed}
use Rattle.std.specs.Fmt.{sign_text}
use Rattle.std.specs.Str.Parse.{AllDigits, digits_value}
use lib.Ieee.{Format, round}
use lib.Ieee.Scale.{round_same}
use Rattle.ryu.specs.Parse.{parse_float}
use Rattle.ryu.specs.Plain.{IsPlain, IsPlainNumber}

-- ---- the last point of a text
abbrev pub NoPoint : List ℕ → Type 0
NoPoint [] = Unit {0}
NoPoint (c ∷ cs) = (c ≡ 46 → ⊥) × NoPoint cs

in_digits : (ds : List ℕ) → AllDigits 10 ds → NoPoint ds
in_digits [] h = tt
in_digits (d ∷ ds) h = let r = digit_from_value d h.0 in (λ e. omega arith, in_digits ds h.1)

in_both : (xs ys : List ℕ) → NoPoint xs → NoPoint ys → NoPoint (xs ++ ys)
in_both [] ys h k = k
in_both (x ∷ xs) ys h k = (h.0, in_both xs ys h.1 k)

in_sign : (negative : Bool) → NoPoint (sign_text negative)
in_sign true = (λ e. omega arith, tt)
in_sign false = tt

in_exponent : (negative : Bool) (ds : List ℕ) → AllDigits 10 ds → NoPoint (exponent_text negative ds)
in_exponent negative [] h = tt
in_exponent negative (d ∷ ds) h = (λ e. omega arith, in_both (sign_text negative) (d ∷ ds) (in_sign negative) (in_digits (d ∷ ds) h))

pub one_stands : (xs ys : List ℕ) → NoPoint (xs ++ 46 ∷ ys) → ⊥
one_stands [] ys h = h.0 refl
one_stands (x ∷ xs) ys h = one_stands xs ys h.1

-- two texts that are one have their last point at one place
last_point : (a b c d : List ℕ) → a ++ 46 ∷ b ≡ c ++ 46 ∷ d → NoPoint b → NoPoint d → (a ≡ c) × (b ≡ d)
last_point [] b [] d e h k = (refl, cc)
last_point [] b (x ∷ c) d e h k = let rest : b ≡ c ++ 46 ∷ d = cc in absurd (one_stands c d (subst NoPoint rest h))
last_point (x ∷ a) b [] d e h k = let rest : d ≡ a ++ 46 ∷ b = cc in absurd (one_stands a b (subst NoPoint rest k))
last_point (x ∷ a) b (y ∷ c) d e h k =
    let first : x ≡ y = cc in
    let rest : a ++ 46 ∷ b ≡ c ++ 46 ∷ d = cc in
    let r = last_point a b c d rest h k in
    (cc, r.1)

-- ---- such a text is a sign and digits

-- perhaps a minus, and then digits
abbrev IsSignedDigits : List ℕ → Type 0
IsSignedDigits text = (negative : Bool) × (ds : List ℕ) × (text ≡ sign_text negative ++ ds) × AllDigits 10 ds × (0 < length ds)

by_point : (front : List ℕ) (negative : Bool) (p : Parts) (point : Bool) → p.point ≡ point → IsPlain p → front ++ codes ".0" ≡ sign_text negative ++ text_of p → IsSignedDigits front
by_point front negative p false e plain same =
    let w = plain.well_formed in
    let exponent = in_exponent p.exponent_negative p.exponent w.exponent_digits in
    let none = in_both (sign_text negative) _ (in_sign negative) (in_both p.whole _ (in_digits p.whole w.whole_digits) exponent) in
    absurd (one_stands front (48 ∷ []) (subst NoPoint (sym (rw e at same)) none))
by_point front negative p true e plain same =
    let w = plain.well_formed in
    let tail = p.fraction ++ exponent_text p.exponent_negative p.exponent in
    let joined : front ++ 46 ∷ 48 ∷ [] ≡ (sign_text negative ++ p.whole) ++ 46 ∷ tail = rw e at same ∙ sym (append_assoc (sign_text negative) p.whole (46 ∷ tail)) in
    let parts = last_point front _ _ tail joined (λ x. omega arith, tt) (in_both p.fraction _ (in_digits p.fraction w.fraction_digits) (in_exponent p.exponent_negative p.exponent w.exponent_digits)) in
    (negative, p.whole, parts.0, w.whole_digits, plain.whole)

-- ---- the value
-- digits, and perhaps `.0` behind them
abbrev whole_parts : List ℕ → Bool → Parts
whole_parts ds pointed = record {
  whole = ds;
  point = pointed;
  fraction = cond pointed (48 ∷ []) [];
  exponent_negative = false;
  exponent = [];
  len = length ds + cond pointed 2 0;
}

well_formed : (ds : List ℕ) (pointed : Bool) → AllDigits 10 ds → IsWellFormed (whole_parts ds pointed)
well_formed ds true h = record {
  whole_digits = h;
  fraction_digits = (omega arith, tt);
  exponent_digits = tt;
  no_point = search rules;
  no_exponent = λ _. refl;
  len_is = omega (arith, length-append ds (46 ∷ 48 ∷ []));
}
well_formed ds false h = record {
  whole_digits = h;
  fraction_digits = tt;
  exponent_digits = tt;
  no_point = λ _. refl;
  no_exponent = λ _. refl;
  len_is = omega (arith, length-append ds []);
}

tail_tells_nothing : (f : Format) (negative : Bool) (ds : List ℕ) → AllDigits 10 ds → 0 < length ds
    → parse_float f ((sign_text negative ++ ds) ++ codes ".0") ≡ parse_float f (sign_text negative ++ ds)
tail_tells_nothing f negative ds h some =
    let long = parse_float-text_of f negative (whole_parts ds true) (well_formed ds true h) some in
    let short = parse_float-text_of f negative (whole_parts ds false) (well_formed ds false h) some in
    let value : round f negative (digits_value 10 (ds ++ 48 ∷ []) * 1) 10 ≡ round f negative (digits_value 10 (ds ++ []) * 1) 1 =
    round_same f negative _ _ _ _ (omega arith) (omega arith) (rw append-nil (omega (arith, digits_value_push 10 ds 48))) in
    ap (parse_float f) (append_assoc (sign_text negative) ds (codes ".0")) ∙ long ∙ ap Some value ∙ sym short ∙ ap (λ (t : List ℕ). parse_float f (sign_text negative ++ t)) (append-nil ds)

-- without the `.0` no point is left
pub no_point_left : (text front : List ℕ) → IsPlainNumber text → text ≡ front ++ codes ".0" → NoPoint front
no_point_left text front plain e =
    let d = by_point front plain.0 plain.1 _ refl plain.3 (sym e ∙ plain.2) in
    rw d.2 (in_both (sign_text d.0) d.1 (in_sign d.0) (in_digits d.1 d.3))

-- without the `.0` the text reads the same
pub reads_same : (f : Format) (text front : List ℕ) → IsPlainNumber text → text ≡ front ++ codes ".0" → parse_float f front ≡ parse_float f text
reads_same f text front plain e =
    let d = by_point front plain.0 plain.1 _ refl plain.3 (sym e ∙ plain.2) in
    rw (e, d.2) (sym (tail_tells_nothing f d.0 d.1 d.3 d.4))
