-- The texts of numbers. Assumes nothing.
use Rattle.std.proofs.Common.{◌≡◌, ℕ, ◌^◌, ◌<◌, Bool, true, false, not, T, cond, List, [], ◌∷◌, codes, refl, sym, ap, ◌∙◌, arith}
use Rattle.std.specs.Prelude.{◌&&◌, nat_le, nat_lt}
use Rattle.std.specs.List.{list_all}
use Rattle.std.proofs.lemmas.Bool.{and_from, and_parts}
use Rattle.std.proofs.lemmas.Bool.Decides.{nat_tests}
use lib.Ieee.{Float, nan, inf, fin, binary64, fits, is_nan, of_bits, to_bits}
use lib.Ieee.Bits.{of_bits-fits, of_bits-to_bits, to_bits-lt, to_bits-of_bits}
use Rattle.cases.specs.Texts.{hexadecimal, is_hex_digit, written, Writes}
use Rattle.cases.proofs.Digits.{all_digits-hexadecimal, hexadecimal-injective, written_in_digits}

-- a pattern that is not a NaN's writes its number
pub of_pattern : (bs : List ℕ) (n : ℕ) (x : Float) → n < 2 ^ 64 → bs ≡ hexadecimal 16 n → x ≡ of_bits binary64 n → is_nan x ≡ false → Writes bs x
of_pattern bs n x h e p k =
    let known : T (not (is_nan (of_bits binary64 n))) = rw (← p, k) tt in
    (rw p (of_bits-fits binary64 n), rw k (e ∙ ap (hexadecimal 16) (sym (ap (to_bits binary64) p ∙ to_bits-of_bits binary64 n h known))))

pub of_nan : (bs : List ℕ) → bs ≡ codes "nan" → Writes bs (of_bits binary64 0x7ff8_0000_0000_0000)
unfolding of_bits is_nan fits
of_nan bs e = (tt, e)

-- a number that is not NaN is written by its pattern
by_pattern : (bs : List ℕ) (x : Float) → (bs ≡ codes "nan" → ⊥) → Writes bs x → (to_bits binary64 x < 2 ^ 64) × (bs ≡ hexadecimal 16 (to_bits binary64 x)) × (is_nan x ≡ false)
by_pattern bs x other h = by (is_nan x) refl
  where
    by : (b : Bool) → is_nan x ≡ b → (to_bits binary64 x < 2 ^ 64) × (bs ≡ hexadecimal 16 (to_bits binary64 x)) × (is_nan x ≡ false)
    by true e = absurd (other (rw e at h.1))
    by false e = (to_bits-lt binary64 x h.0, rw e at h.1, e)

-- a text that is neither `nan` nor a pattern's writes no number
pub no_pattern : (bs : List ℕ) (x : Float) → (bs ≡ codes "nan" → ⊥) → ((n : ℕ) → ¬ ((n < 2 ^ 64) × (bs ≡ hexadecimal 16 n))) → ¬ (Writes bs x)
no_pattern bs x other none h = let p = by_pattern bs x other h in none (to_bits binary64 x) (p.0, p.1)

-- nor does a NaN's pattern
pub no_nan_pattern : (bs : List ℕ) (n : ℕ) (x y : Float) → (bs ≡ codes "nan" → ⊥) → n < 2 ^ 64 → bs ≡ hexadecimal 16 n → y ≡ of_bits binary64 n → is_nan y ≡ true → ¬ (Writes bs x)
no_nan_pattern bs n x y other l e p k h =
    let q = by_pattern bs x other h in
    let same : n ≡ to_bits binary64 x = hexadecimal-injective 16 n (to_bits binary64 x) l q.0 (sym e ∙ q.1) in
    let back : y ≡ x = p ∙ ap (of_bits binary64) same ∙ of_bits-to_bits binary64 x h.0 in
    let differs : true ≡ false = sym k ∙ ap is_nan back ∙ q.2 in
    cc

-- 0 to 9 and the letters, among others; a blank and '-' stand below them
abbrev pub is_word_byte : ℕ → Bool
is_word_byte b = nat_le 48 b && nat_lt b 128

all_words : (bs : List ℕ) → list_all is_hex_digit bs ≡ true → list_all is_word_byte bs ≡ true
all_words [] h = refl
all_words (b ∷ bs) h =
    let both = and_parts (is_hex_digit b) (list_all is_hex_digit bs) h in
    let digit = both.0 in
    let word : is_word_byte b ≡ true = grind (arith, nat_tests) in
    and_from _ _ word (all_words bs both.1)

pub word_bytes-written : (x : Float) → list_all is_word_byte (written x) ≡ true
word_bytes-written x = by (is_nan x)
  where
    by : (b : Bool) → list_all is_word_byte (cond b (codes "nan") (hexadecimal 16 (to_bits binary64 x))) ≡ true
    by true = refl
    by false = all_words (hexadecimal 16 (to_bits binary64 x)) (all_digits-hexadecimal 16 (to_bits binary64 x))

-- two numbers of one text are one
only_nan : (x : Float) → is_nan x ≡ true → x ≡ nan
unfolding is_nan
only_nan nan e = refl
only_nan (inf s) e = cc
only_nan (fin s m k) e = cc

pub written-injective : (x y : Float) → T (fits binary64 x) → T (fits binary64 y) → written x ≡ written y → x ≡ y
written-injective x y fx fy e = by (is_nan x) (is_nan y) refl refl
  where
    by : (a b : Bool) → is_nan x ≡ a → is_nan y ≡ b → x ≡ y
    by true true p q = only_nan x p ∙ sym (only_nan y q)
    by true false p q = let text : codes "nan" ≡ hexadecimal 16 (to_bits binary64 y) = rw (p, q) at e in let long = (written_in_digits (codes "nan") (to_bits binary64 y) text).0 in absurd (omega (arith, long))
    by false true p q = let text : hexadecimal 16 (to_bits binary64 x) ≡ codes "nan" = rw (p, q) at e in let long = (written_in_digits (codes "nan") (to_bits binary64 x) (sym text)).0 in absurd (omega (arith, long))
    by false false p q =
        let text : hexadecimal 16 (to_bits binary64 x) ≡ hexadecimal 16 (to_bits binary64 y) = rw (p, q) at e in
        let bits = hexadecimal-injective 16 (to_bits binary64 x) (to_bits binary64 y) (to_bits-lt binary64 x fx) (to_bits-lt binary64 y fy) text in
        sym (of_bits-to_bits binary64 x fx) ∙ ap (of_bits binary64) bits ∙ of_bits-to_bits binary64 y fy
