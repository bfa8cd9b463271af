-- A case's text has one reading. Assumes nothing.
use Rattle.std.proofs.Common.{◌≡◌, ◌≢◌, ℕ, ◌<◌, true, List, [], ◌∷◌, ◌++◌, length, get_or, Option, Some, None, Bor, codes, refl, sym, ap, ◌∙◌, arith}
use Rattle.std.specs.Option.{MatchOption}
use Rattle.std.specs.List.{list_all}
use Rattle.std.proofs.lemmas.Bool.{and_parts}
use Rattle.std.proofs.lemmas.Bool.Decides.{nat_tests}
use Rattle.std.proofs.lemmas.List.Folds.{list_all-append}
use Rattle.std.proofs.lemmas.List.Sums.{AllPass-from_list_all}
use Rattle.std.proofs.lemmas.Str.Pattern.{IsSplitOnceResult, split_after, split_parts}
use Rattle.cases.specs.declared.number.Number.{Number}
use Rattle.cases.specs.Texts.{written, Writes}
use Rattle.cases.proofs.Numerals.{is_word_byte, word_bytes-written, written-injective}
use Rattle.vectors.specs.declared.case.Function.{Function}
use Rattle.vectors.specs.declared.case.Function.TheVariants.{Sqrt, SinCos, Tan, Atan2, SixthRoot, Powi2, Powi7}
use Rattle.vectors.specs.declared.case.Numbers.{Numbers}
use Rattle.vectors.specs.declared.case.Numbers.TheVariants.{One, Two}
use Rattle.vectors.specs.Answers.{Answers}
use Rattle.vectors.specs.Functions.{name_of}
use Rattle.vectors.specs.Texts.{AllFit, WritesAll, text_of}

-- two words, put together again
pub two_words : (t u w a b : List ℕ) → t ≡ u ++ (32 ∷ w) → u ≡ a → w ≡ b → t ≡ a ++ (codes " " ++ b)
two_words t u w a b e p q = cc

-- words hold no blank, nor '-'
pub words_lack : (b : ℕ) (bs : List ℕ) → b < 48 → list_all is_word_byte bs ≡ true → (i : ℕ) → i < length bs → get_or bs i 0 ≢ b
words_lack b bs low h i l e =
    let word : is_word_byte (get_or bs i 0) ≡ true = AllPass-from_list_all is_word_byte bs h i 0 l in
    let low_word : is_word_byte b ≡ true = rw e at word in
    grind (arith, nat_tests)

no_blank : (bs xs ys : List ℕ) → list_all is_word_byte bs ≡ true → bs ≢ xs ++ (32 ∷ ys)
no_blank bs xs ys h e =
    let parts = and_parts (list_all is_word_byte xs) (list_all is_word_byte (32 ∷ ys)) (sym (list_all-append is_word_byte xs (32 ∷ ys)) ∙ (rw e at h)) in
    let back : list_all is_word_byte (32 ∷ ys) ≡ true = parts.1 in
    cc

same_halves : (xs ys us vs : List ℕ) → list_all is_word_byte xs ≡ true → list_all is_word_byte ys ≡ true → xs ++ (32 ∷ us) ≡ ys ++ (32 ∷ vs) → (xs ≡ ys) × (us ≡ vs)
same_halves [] [] us vs h k e = (refl, cc)
same_halves [] (y ∷ ys) us vs h k e =
    let word : is_word_byte y ≡ true = (and_parts (is_word_byte y) (list_all is_word_byte ys) k).0 in
    let blank : y ≡ 32 = cc in
    let low : is_word_byte 32 ≡ true = rw blank at word in
    cc
same_halves (x ∷ xs) [] us vs h k e =
    let word : is_word_byte x ≡ true = (and_parts (is_word_byte x) (list_all is_word_byte xs) h).0 in
    let blank : x ≡ 32 = cc in
    let low : is_word_byte 32 ≡ true = rw blank at word in
    cc
same_halves (x ∷ xs) (y ∷ ys) us vs h k e =
    let first : x ≡ y = cc in
    let rest : xs ++ (32 ∷ us) ≡ ys ++ (32 ∷ vs) = cc in
    let parts = same_halves xs ys us vs (and_parts (is_word_byte x) (list_all is_word_byte xs) h).1 (and_parts (is_word_byte y) (list_all is_word_byte ys) k).1 rest in
    let tail : xs ≡ ys = parts.0 in
    (cc, parts.1)

pub word_bytes-name : (f : Function) → list_all is_word_byte (name_of f) ≡ true
word_bytes-name Sqrt = refl
word_bytes-name SinCos = refl
word_bytes-name Tan = refl
word_bytes-name Atan2 = refl
word_bytes-name SixthRoot = refl
word_bytes-name Powi2 = refl
word_bytes-name Powi7 = refl

-- where the text of numbers is split at its first blank
abbrev pub SplitsInto : Numbers → Option (Bor (List ℕ) × Bor (List ℕ)) → Type 0
SplitsInto (One x) r = MatchOption r (Unit {0}) (λ p. ⊥)
SplitsInto (Two x y) r = MatchOption r ⊥ (λ p. Writes p.0.now x × Writes p.1.now y)

pub splits_into : (text : List ℕ) (n : Numbers) (r : Option (Bor (List ℕ) × Bor (List ℕ))) → IsSplitOnceResult 32 text r → WritesAll text n → SplitsInto n r
splits_into text (One x) None s h = tt
splits_into text (One x) (Some p) s h =
    let parts = split_parts 32 text (Some p) s (omega arith) in
    no_blank (written x) p.0.now p.1.now (word_bytes-written x) (sym h.1 ∙ parts.0)
splits_into text (Two x y) None s h = split_after 32 text (written x) (written y) None s (omega arith) h.1 (words_lack 32 (written x) (omega arith) (word_bytes-written x))
splits_into text (Two x y) (Some p) s h =
    let parts = split_after 32 text (written x) (written y) (Some p) s (omega arith) h.1 (words_lack 32 (written x) (omega arith) (word_bytes-written x)) in
    ((h.0.0, parts.0), (h.0.1, parts.1))

-- the text of the arguments is theirs alone
pub text_of-injective : (m n : Numbers) → AllFit m → AllFit n → text_of m ≡ text_of n → m ≡ n
text_of-injective (One x) (One y) f g e = ap One (written-injective x y f g e)
text_of-injective (One x) (Two y z) f g e = absurd (no_blank (written x) (written y) (written z) (word_bytes-written x) e)
text_of-injective (Two y z) (One x) f g e = absurd (no_blank (written x) (written y) (written z) (word_bytes-written x) (sym e))
text_of-injective (Two x y) (Two z w) f g e =
    let parts = same_halves (written x) (written z) (written y) (written w) (word_bytes-written x) (word_bytes-written z) e in
    let first = written-injective x z f.0 g.0 parts.0 in
    let second = written-injective y w f.1 g.1 parts.1 in
    rw (first, second)

-- an answer, and none, cannot both be right
pub one_answer : (f : Function) (a got : Numbers) → Answers f a (Some got) → Answers f a None → ⊥
one_answer Sqrt (One x) got s n = cc
one_answer SinCos (One x) got s n = cc
one_answer Tan (One x) got s n = cc
one_answer Atan2 (One x) got s n = cc
one_answer SixthRoot (One x) got s n = let none = n.1 in cc
one_answer Powi2 (One x) got s n = cc
one_answer Powi7 (One x) got s n = cc
one_answer Sqrt (Two x y) got s n = cc
one_answer SinCos (Two x y) got s n = cc
one_answer Tan (Two x y) got s n = cc
one_answer Atan2 (Two x y) got s n = cc
one_answer SixthRoot (Two x y) got s n = cc
one_answer Powi2 (Two x y) got s n = cc
one_answer Powi7 (Two x y) got s n = cc

-- where a half, or the whole, is that of no number, the text is that of none
pub no_first : (text : List ℕ) (p : Bor (List ℕ) × Bor (List ℕ)) → IsSplitOnceResult 32 text (Some p) → ((a : Number) → ¬ (Writes p.0.now a.0)) → (n : Numbers) → ¬ (WritesAll text n)
no_first text p s none (One x) h = splits_into text (One x) (Some p) s h
no_first text p s none (Two x y) h = none (record { 0 = x }) (splits_into text (Two x y) (Some p) s h).0

pub no_second : (text : List ℕ) (p : Bor (List ℕ) × Bor (List ℕ)) → IsSplitOnceResult 32 text (Some p) → ((a : Number) → ¬ (Writes p.1.now a.0)) → (n : Numbers) → ¬ (WritesAll text n)
no_second text p s none (One x) h = splits_into text (One x) (Some p) s h
no_second text p s none (Two x y) h = none (record { 0 = y }) (splits_into text (Two x y) (Some p) s h).1

pub no_number : (text : List ℕ) → IsSplitOnceResult 32 text None → ((a : Number) → ¬ (Writes text a.0)) → (n : Numbers) → ¬ (WritesAll text n)
no_number text s none (One x) h = none (record { 0 = x }) h
no_number text s none (Two x y) h = splits_into text (Two x y) None s h
