-- What `parse` reads as a whole number is one.
use Rattle.std.proofs.Common.{◌≡◌, ℕ, ◌^◌, Bool, true, false, cond, ◌&&◌, ltb, length, Some, None, Result, Ok, Err, refl, sym, ap}
use Rattle.std.specs.Prelude.{MatchResult}
use Rattle.std.specs.Str.{all_ascii_digits}
use Rattle.std.specs.Str.Parse.{ParsesUnsigned, without_leading_plus, digits_value}
use Rattle.std.proofs.lemmas.Bool.{lt-ltb, ltb-true}
use Rattle.std.proofs.lemmas.Str.Parse.{IsNumeralModel, numerals_by_value, tells_all_ascii_digits}
use Rattle.orders.specs.Words.{Text}
use Rattle.orders.specs.Values.{whole}

digits : IsNumeralModel (λ ds. all_ascii_digits ds ≡ true) (digits_value 10)
digits = numerals_by_value (λ ds. all_ascii_digits ds ≡ true) tells_all_ascii_digits

none : (a b d : Bool) (n : ℕ) → (a ≡ true → b ≡ true → d ≡ true → ⊥) → cond (a && (b && d)) (Some n) None ≡ None
none true true true n h = absurd (h refl refl refl)
none true true false n h = refl
none true false d n h = refl
none false b d n h = refl

pub whole_is : {E : Type 0} (k : ℕ) (bs : Text) (r : Result ℕ E) → ParsesUnsigned k 10 bs r → MatchResult r (λ n. whole k bs ≡ Some n) (λ _. whole k bs ≡ None)
whole_is k bs (Ok n) h =
    let ds = without_leading_plus bs in
    rw (lt-ltb 0 (length ds) h.0.0.0, digits.from ds h.0.0.1, lt-ltb (digits_value 10 ds) (2 ^ k) h.0.1) (ap Some (sym h.1))
whole_is k bs (Err e) h =
    let ds = without_leading_plus bs in
    none (ltb 0 (length ds)) (all_ascii_digits ds) (ltb (digits_value 10 ds) (2 ^ k)) (digits_value 10 ds)
    (λ a b d. h ((ltb-true 0 (length ds) a, digits.to ds b), ltb-true (digits_value 10 ds) (2 ^ k) d))
