-- Texts of hexadecimal digits, and the numbers that they write. Assumes nothing.
use Rattle.std.proofs.Common.{◌≡◌, ℕ, zero, suc, ◌+◌, ◌*◌, ◌/◌, ◌%◌, ◌^◌, ◌<◌, ◌≢◌, Bool, true, false, cond, List, [], ◌∷◌, ◌++◌, length, drop, get_or, take, refl, sym, ap, ◌∙◌, append_assoc, add-one, pow-suc, arith}
use Rattle.std.specs.Prelude.{nat_eq, Result, Ok, Err}
use Rattle.std.specs.List.{list_all}
use Rattle.std.specs.Char.{digit_value}
use Rattle.std.specs.Str.Parse.{digits_value_after, digits_value, AllDigits, ParsesUnsigned, without_leading_plus}
use Rattle.std.proofs.lemmas.Bool.{and_from, and_parts}
use Rattle.std.proofs.lemmas.Bool.Decides.{nat_tests}
use Rattle.std.proofs.lemmas.List.{append-nil, length-append, take_all, take_more}
use Rattle.std.proofs.lemmas.List.Folds.{list_all-append, list_all_at}
use Rattle.std.proofs.lemmas.Int.Digits.{digits_value-lt, digits_value_push}
use native.Mathlib.Nat.{pow-le-pow_right}
use lib.Arith.{digits_lt, digits_div, digits_mod}
use Rattle.std.specs.Result.{result_ok}
use Rattle.cases.specs.Texts.{Finds, hex_digit, hexadecimal, is_hex_digit}

hex_digit-digit_value : (c : ℕ) → is_hex_digit c ≡ true → hex_digit (digit_value c) ≡ c
hex_digit-digit_value c h = grind (arith, nat_tests)

digit_value-lt : (c : ℕ) → is_hex_digit c ≡ true → digit_value c < 16
digit_value-lt c h = grind (arith, nat_tests)

digit_value-hex_digit : (d : ℕ) → d < 16 → digit_value (hex_digit d) ≡ d
digit_value-hex_digit d h = grind (arith, nat_tests)

is_hex_digit-hex_digit : (d : ℕ) → d < 16 → is_hex_digit (hex_digit d) ≡ true
is_hex_digit-hex_digit d h = grind (arith, nat_tests)

-- what `hexadecimal` writes: so many digits, of that value
pub length-hexadecimal : (k n : ℕ) → length (hexadecimal k n) ≡ k
unfolding hexadecimal
length-hexadecimal zero n = refl
length-hexadecimal (suc k) n = omega (arith, length-append (hexadecimal k (n / 16)) (hex_digit (n % 16) ∷ []), length-hexadecimal k (n / 16))

pub all_digits-hexadecimal : (k n : ℕ) → list_all is_hex_digit (hexadecimal k n) ≡ true
unfolding hexadecimal
all_digits-hexadecimal zero n = refl
all_digits-hexadecimal (suc k) n =
    let last : list_all is_hex_digit (hex_digit (n % 16) ∷ []) ≡ true = and_from _ true (is_hex_digit-hex_digit (n % 16) (omega arith)) refl in
    list_all-append is_hex_digit (hexadecimal k (n / 16)) (hex_digit (n % 16) ∷ []) ∙ and_from _ _ (all_digits-hexadecimal k (n / 16)) last

pub digits_value-hexadecimal : (k n : ℕ) → n < 16 ^ k → digits_value 16 (hexadecimal k n) ≡ n
unfolding hexadecimal
digits_value-hexadecimal zero n h = omega arith
digits_value-hexadecimal (suc k) n h =
    let front : digits_value 16 (hexadecimal k (n / 16)) ≡ n / 16 = digits_value-hexadecimal k (n / 16) (omega (arith, pow-suc 16 k)) in
    let last : digit_value (hex_digit (n % 16)) ≡ n % 16 = digit_value-hex_digit (n % 16) (omega arith) in
    digits_value_push 16 (hexadecimal k (n / 16)) (hex_digit (n % 16)) ∙ omega (arith, front, last)

-- one digit more
pub more_digits : (v d i : ℕ) → d < 16 → hexadecimal (i + 1) (v * 16 + d) ≡ hexadecimal i v ++ (hex_digit d ∷ [])
unfolding hexadecimal
more_digits v d i k = rw (add-one, digits_div v k, digits_mod v k)

-- up to fifteen digits there is room for one more
pub room : (v i : ℕ) → v < 16 ^ i → i < 16 → v < 2 ^ 60
room v i h k = omega (arith, pow-le-pow_right {n = 16} (omega arith) {i = i} {j = 15} (omega arith))

pub more_below : (v d i : ℕ) → v < 16 ^ i → d < 16 → v * 16 + d < 16 ^ (i + 1)
more_below v d i h k = rw (add-one, pow-suc 16 i) (digits_lt h k)

pub more_read : (bs : List ℕ) (v d i : ℕ) → i < length bs → d < 16 → get_or bs i 0 ≡ hex_digit d → take i bs ≡ hexadecimal i v → take (i + 1) bs ≡ hexadecimal (i + 1) (v * 16 + d)
more_read bs v d i l k e h = rw (take_more bs i 0 l, more_digits v d i k, e, h)

-- sixteen digits fit 64 bits
pub all_read : (bs : List ℕ) (v i : ℕ) → length bs ≡ 16 → i ≡ 16 → v < 16 ^ i → take i bs ≡ hexadecimal i v → (v < 2 ^ 64) × (bs ≡ hexadecimal 16 v)
all_read bs v i l e h k =
    let below : v < 16 ^ 16 = rw e at h in
    let whole : take 16 bs ≡ bs = take_all 16 bs (omega arith) in
    let read : take 16 bs ≡ hexadecimal 16 v = rw e at k in
    (below, sym whole ∙ read)

-- digits behind those of n
pub hexadecimal-digits_value_after : (ds : List ℕ) (k n : ℕ) → list_all is_hex_digit ds ≡ true → hexadecimal (k + length ds) (digits_value_after 16 n ds) ≡ hexadecimal k n ++ ds
hexadecimal-digits_value_after [] k n h =
    let whole : k + length {A = ℕ} [] ≡ k = omega arith in
    ap (λ (j : ℕ). hexadecimal j n) whole ∙ sym (append-nil (hexadecimal k n))
hexadecimal-digits_value_after (c ∷ cs) k n h =
    let both = and_parts (is_hex_digit c) (list_all is_hex_digit cs) h in
    let room : k + length (c ∷ cs) ≡ (k + 1) + length cs = omega arith in
    let rest = hexadecimal-digits_value_after cs (k + 1) (n * 16 + digit_value c) both.1 in
    let first = more_digits n (digit_value c) k (digit_value-lt c both.0) in
    ap (λ (j : ℕ). hexadecimal j (digits_value_after 16 n (c ∷ cs))) room ∙ rest ∙ ap (λ (l : List ℕ). l ++ cs) first
    ∙ append_assoc (hexadecimal k n) (hex_digit (digit_value c) ∷ []) cs ∙ ap (λ (b : ℕ). hexadecimal k n ++ (b ∷ cs)) (hex_digit-digit_value c both.0)

-- a text of digits is that of their value
whole_text : (ds : List ℕ) → list_all is_hex_digit ds ≡ true → hexadecimal (length ds) (digits_value 16 ds) ≡ ds
unfolding hexadecimal
whole_text ds h =
    let none : 0 + length ds ≡ length ds = omega arith in
    ap (λ (k : ℕ). hexadecimal k (digits_value 16 ds)) (sym none) ∙ hexadecimal-digits_value_after ds 0 0 h

pub all_digits : (ds : List ℕ) → list_all is_hex_digit ds ≡ true → AllDigits 16 ds
all_digits [] h = tt
all_digits (c ∷ cs) h = let both = and_parts (is_hex_digit c) (list_all is_hex_digit cs) h in (digit_value-lt c both.0, all_digits cs both.1)

no_plus : (bs : List ℕ) → list_all is_hex_digit bs ≡ true → without_leading_plus bs ≡ bs
no_plus [] h = refl
no_plus (c ∷ cs) h =
    let digit : is_hex_digit c ≡ true = (and_parts (is_hex_digit c) (list_all is_hex_digit cs) h).0 in
    let differs : nat_eq c 43 ≡ false = grind (arith, nat_tests) in
    ap (λ (b : Bool). drop (cond b 1 0) (c ∷ cs)) differs

-- what std reads of sixteen digits
pub finds_digits : {E : Type 0} (bs : List ℕ) (r : Result ℕ E) → length bs ≡ 16 → list_all is_hex_digit bs ≡ true → ParsesUnsigned 64 16 bs r → Finds (λ n. (n < 2 ^ 64) × (bs ≡ hexadecimal 16 n)) (result_ok r)
finds_digits bs (Ok n) l h p =
    let plain = no_plus bs h in
    let value : n ≡ digits_value 16 bs = p.1 ∙ ap (digits_value 16) plain in
    let below : digits_value 16 bs < 16 ^ length bs = digits_value-lt 16 bs (all_digits bs h) in
    let small : digits_value 16 bs < 16 ^ 16 = rw l at below in
    (rw value small, sym (ap (hexadecimal 16) value ∙ ap (λ (k : ℕ). hexadecimal k (digits_value 16 bs)) (sym l) ∙ whole_text bs h))
finds_digits bs (Err e) l h p =
    let plain = no_plus bs h in
    let below : digits_value 16 bs < 16 ^ length bs = digits_value-lt 16 bs (all_digits bs h) in
    let small : digits_value 16 bs < 16 ^ 16 = rw l at below in
    absurd (p (rw plain ((omega arith, all_digits bs h), small)))

-- a text of other bytes, or of another length, is that of no number
pub written_in_digits : (bs : List ℕ) (n : ℕ) → bs ≡ hexadecimal 16 n → (length bs ≡ 16) × (list_all is_hex_digit bs ≡ true)
written_in_digits bs n e = rw e (length-hexadecimal 16 n, all_digits-hexadecimal 16 n)

pub other_length : (bs : List ℕ) → length bs ≢ 16 → (n : ℕ) → ¬ ((n < 2 ^ 64) × (bs ≡ hexadecimal 16 n))
other_length bs l n h = l (written_in_digits bs n h.1).0

pub other_byte : (bs : List ℕ) (i : ℕ) → i < length bs → ((d : ℕ) → ¬ ((d < 16) × (get_or bs i 0 ≡ hex_digit d))) → (n : ℕ) → ¬ ((n < 2 ^ 64) × (bs ≡ hexadecimal 16 n))
other_byte bs i l none n h = by (is_hex_digit (get_or bs i 0)) refl
  where
    by : (b : Bool) → is_hex_digit (get_or bs i 0) ≡ b → ⊥
    by true e = none (digit_value (get_or bs i 0)) (digit_value-lt (get_or bs i 0) e, sym (hex_digit-digit_value (get_or bs i 0) e))
    by false e = let all = (written_in_digits bs n h.1).1 in let fails = list_all_at is_hex_digit bs i 0 l e in cc

pub hexadecimal-injective : (k m n : ℕ) → m < 16 ^ k → n < 16 ^ k → hexadecimal k m ≡ hexadecimal k n → m ≡ n
hexadecimal-injective k m n h l e = sym (digits_value-hexadecimal k m h) ∙ ap (digits_value 16) e ∙ digits_value-hexadecimal k n l
