-- What std writes of a number in hexadecimal, filled up with zeros. Assumes nothing.
use Rattle.std.proofs.Common.{◌≡◌, Some, ℕ, zero, suc, ◌+◌, ◌-◌, ◌/◌, ◌%◌, ◌^◌, ◌<◌, ◌≤◌, Bool, true, false, cond, List, [], ◌∷◌, ◌++◌, length, replicate, refl, sym, ap, ◌∙◌, append_assoc, add-one, pow-suc, arith}
use Rattle.std.specs.Prelude.{nat_eq}
use Rattle.std.specs.Fmt.{char_count, digit_glyph, digits_onto, digits, digits_output, padded_integral, format_spec, styled_digits_output}
use Rattle.std.proofs.lemmas.List.{append-nil, replicate_more}
use Rattle.std.proofs.lemmas.Bool.Decides.{nat_tests}
use Rattle.cases.specs.Texts.{hex_digit, hexadecimal}

zeros : (k : ℕ) → hexadecimal k 0 ≡ replicate k 48
unfolding hexadecimal
zeros zero = refl
zeros (suc k) = ap (λ (l : List ℕ). l ++ (48 ∷ [])) (zeros k) ∙ rw add-one at (replicate_more {X = ℕ} k 48)

-- the text is at most so long, and behind zeros it is that of n and acc
abbrev Fills : ℕ → ℕ → List ℕ → List ℕ → Type 0
Fills k n acc ds = (length ds ≤ k + length acc) × (replicate (k + length acc - length ds) 48 ++ ds ≡ hexadecimal k n ++ acc)

last : (k n : ℕ) (acc : List ℕ) → n / 16 ≡ 0 → Fills (suc k) n acc (digit_glyph false (n % 16) ∷ acc)
unfolding hexadecimal
last k n acc e =
    let left : suc k + length acc - length (digit_glyph false (n % 16) ∷ acc) ≡ k = omega arith in (
      omega arith,
      ap (λ (j : ℕ). replicate j 48 ++ (digit_glyph false (n % 16) ∷ acc)) left
          ∙ ap (λ (l : List ℕ). l ++ (hex_digit (n % 16) ∷ acc)) (sym (zeros k) ∙ ap (hexadecimal k) (sym e))
          ∙ sym (append_assoc (hexadecimal k (n / 16)) (hex_digit (n % 16) ∷ []) acc),
    )

front : (k n : ℕ) (acc ds : List ℕ) → Fills k (n / 16) (digit_glyph false (n % 16) ∷ acc) ds → Fills (suc k) n acc ds
unfolding hexadecimal
front k n acc ds h =
    let left : suc k + length acc - length ds ≡ k + length (digit_glyph false (n % 16) ∷ acc) - length ds = omega arith in
    (omega (arith, h.0), ap (λ (j : ℕ). replicate j 48 ++ ds) left ∙ h.1 ∙ sym (append_assoc (hexadecimal k (n / 16)) (hex_digit (n % 16) ∷ []) acc))

onto : (j k n : ℕ) (acc : List ℕ) → k < j → n < 16 ^ suc k → Fills (suc k) n acc (digits_onto j 16 false n acc)
onto zero k n acc l h = absurd (omega arith)
onto (suc j) zero n acc l h =
    let none : n / 16 ≡ 0 = omega (arith, pow-suc 16 0) in
    let stops : nat_eq (n / 16) 0 ≡ true = grind (arith, nat_tests) in
    rw stops (last zero n acc none)
onto (suc j) (suc k) n acc l h = by (nat_eq (n / 16) 0) refl (onto j k (n / 16) (digit_glyph false (n % 16) ∷ acc) (omega arith) (omega (arith, pow-suc 16 (suc k))))
  where
    by : (b : Bool) → nat_eq (n / 16) 0 ≡ b → Fills (suc k) (n / 16) (digit_glyph false (n % 16) ∷ acc) (digits_onto j 16 false (n / 16) (digit_glyph false (n % 16) ∷ acc)) → Fills (suc (suc k)) n acc (cond (nat_eq (n / 16) 0) (digit_glyph false (n % 16) ∷ acc) (digits_onto j 16 false (n / 16) (digit_glyph false (n % 16) ∷ acc)))
    by true e r = let none : n / 16 ≡ 0 = grind (arith, nat_tests) in rw e (last (suc k) n acc none)
    by false e r = rw e (front (suc k) n acc _ r)

filled_up : (ds : List ℕ) → padded_integral (format_spec 32 0 4 16 (2 ^ 64 - 1)) false [] ds ≡ replicate (16 - length ds) 48 ++ ds
unfolding padded_integral char_count
filled_up ds =
    let room : 16 - length ds - 0 - 0 ≡ 16 - length ds = omega arith in
    ap (λ (k : ℕ). replicate k 48 ++ (ds ++ [])) room ∙ ap (λ (l : List ℕ). replicate (16 - length ds) 48 ++ l) (append-nil ds)

padded : (n : ℕ) (ds : List ℕ) → Fills 16 n [] ds → padded_integral (format_spec 32 0 4 16 (2 ^ 64 - 1)) false [] ds ≡ hexadecimal 16 n
padded n ds f = filled_up ds ∙ f.1 ∙ append-nil (hexadecimal 16 n)

fills : (n : ℕ) → n < 2 ^ 64 → Fills 16 n [] (digits 16 false n)
unfolding digits
fills n h = onto 64 15 n [] (omega arith) h

-- what `{:016x}` writes
pub padded_output : (d : _) (s : _) (n : ℕ) → n < 2 ^ 64 → s ≡ format_spec 32 0 4 16 (2 ^ 64 - 1) → digits_output d ≡ Some (digits 16 false n) → styled_digits_output d s ≡ Some (hexadecimal 16 n)
padded_output d s n h e o = rw (e, o) (ap Some (padded n (digits 16 false n) (fills n h)))
