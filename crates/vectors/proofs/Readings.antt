-- A text that is no case, by where the reading of it stops. Assumes nothing.
use Rattle.std.proofs.Common.{◌≡◌, ℕ, ◌<◌, Bool, true, Result, Ok, Err, List, [], ◌∷◌, ◌++◌, length, get_or, Option, Some, None, Bor, codes, refl, sym, ◌∙◌, append_assoc, arith}
use Rattle.std.specs.Prelude.{◌||◌, nat_lt}
use Rattle.std.specs.Option.{MatchOption}
use Rattle.std.specs.Result.{IsErr}
use Rattle.std.specs.List.{list_all}
use Rattle.std.specs.Str.{IsUtf8}
use Rattle.std.proofs.lemmas.Bool.{and_from, and_parts}
use Rattle.std.proofs.lemmas.Bool.Decides.{nat_tests}
use Rattle.std.proofs.lemmas.List.Folds.{list_all-append}
use Rattle.std.proofs.lemmas.List.Sums.{AllPass-from_list_all}
use Rattle.std.proofs.lemmas.Str.{IsUtf8-append, IsUtf8-from_ascii}
use Rattle.std.proofs.lemmas.Str.Ascii.{IsAscii-from_all}
use Rattle.std.proofs.lemmas.Str.Pattern.{IsSplitOnceResult, split_after}
use Rattle.cases.specs.Texts.{written}
use Rattle.cases.proofs.Numerals.{is_word_byte, word_bytes-written}
use Rattle.vectors.specs.declared.case.Case.{Case}
use Rattle.vectors.specs.declared.case.Function.{Function}
use Rattle.vectors.specs.declared.case.Numbers.{Numbers}
use Rattle.vectors.specs.declared.case.Numbers.TheVariants.{One, Two}
use Rattle.vectors.specs.Answers.{Answers}
use Rattle.vectors.specs.Functions.{name_of, function_names}
use Rattle.cases.specs.Lines.{IsSkipped}
use Rattle.vectors.specs.declared.case.NoCase.{NoCase}
use Rattle.vectors.specs.Lists.{CaseOf, LineOf}
use Rattle.vectors.specs.Texts.{WritesAll, text_of}
use Rattle.vectors.proofs.Arrows.{IsSplitAtArrow, split_at_arrow}
use Rattle.vectors.proofs.Splits.{words_lack, word_bytes-name, text_of-injective, one_answer}

-- what stands before the arrow holds no '-'
abbrev is_plain : ℕ → Bool
is_plain b = nat_lt b 45 || nat_lt 45 b

plain_words : (bs : List ℕ) → list_all is_word_byte bs ≡ true → list_all is_plain bs ≡ true
plain_words [] h = refl
plain_words (b ∷ bs) h =
    let both = and_parts (is_word_byte b) (list_all is_word_byte bs) h in
    let word = both.0 in
    let plain : is_plain b ≡ true = grind (arith, nat_tests) in
    and_from _ _ plain (plain_words bs both.1)

plain_halves : (xs ys : List ℕ) → list_all is_plain xs ≡ true → list_all is_plain ys ≡ true → list_all is_plain (xs ++ (32 ∷ ys)) ≡ true
plain_halves xs ys h k = list_all-append is_plain xs (32 ∷ ys) ∙ and_from _ _ h k

plain_text : (n : Numbers) → list_all is_plain (text_of n) ≡ true
plain_text (One x) = plain_words (written x) (word_bytes-written x)
plain_text (Two x y) = plain_halves (written x) (written y) (plain_words (written x) (word_bytes-written x)) (plain_words (written y) (word_bytes-written y))

no_dash : (f : Function) (a : Numbers) (k : ℕ) → k < length (name_of f ++ (32 ∷ text_of a)) → get_or (name_of f ++ (32 ∷ text_of a)) k 0 ≡ 45 → ⊥
no_dash f a k l e =
    let all : list_all is_plain (name_of f ++ (32 ∷ text_of a)) ≡ true = plain_halves (name_of f) (text_of a) (plain_words (name_of f) (word_bytes-name f)) (plain_text a) in
    let plain : is_plain (get_or (name_of f ++ (32 ∷ text_of a)) k 0) ≡ true = AllPass-from_list_all is_plain (name_of f ++ (32 ∷ text_of a)) all k 0 l in
    let dash : is_plain 45 ≡ true = rw e at plain in
    cc

module _ (text : List ℕ) (c : Case) where
  halves : (r : Option (Bor (List ℕ) × Bor (List ℕ))) (h : CaseOf text c) → IsSplitAtArrow text r → MatchOption r ⊥ (λ p. (p.0.now ≡ name_of c.function ++ (32 ∷ text_of h.0)) × (p.1.now ≡ text_of c.expected))
  halves r h s = split_at_arrow text (name_of c.function ++ (32 ∷ text_of h.0)) (text_of c.expected) r (h.1 ∙ sym (append_assoc (name_of c.function) (32 ∷ text_of h.0) (codes " -> " ++ text_of c.expected))) (no_dash c.function h.0) s

  words : (bs : List ℕ) (a : Numbers) (r : Option (Bor (List ℕ) × Bor (List ℕ))) → bs ≡ name_of c.function ++ (32 ∷ text_of a) → IsSplitOnceResult 32 bs r → MatchOption r ⊥ (λ p. (p.0.now ≡ name_of c.function) × (p.1.now ≡ text_of a))
  words bs a r e s = split_after 32 bs (name_of c.function) (text_of a) r s (omega arith) e (words_lack 32 (name_of c.function) (omega arith) (word_bytes-name c.function))

  pub no_arrow : IsSplitAtArrow text None → ¬ (CaseOf text c)
  no_arrow s h = halves None h s

  module _ (question answer : Bor (List ℕ)) (at_arrow : IsSplitAtArrow text (Some (question, answer))) where
    pub no_name : IsSplitOnceResult 32 question.now None → ¬ (CaseOf text c)
    no_name s h = words question.now h.0 None (halves (Some (question, answer)) h at_arrow).0 s

    module _ (name arguments : Bor (List ℕ)) (at_blank : IsSplitOnceResult 32 question.now (Some (name, arguments))) where
      parts : (h : CaseOf text c) → (name.now ≡ name_of c.function) × (arguments.now ≡ text_of h.0)
      parts h = words question.now h.0 (Some (name, arguments)) (halves (Some (question, answer)) h at_arrow).0 at_blank

      pub no_function : ((f : Function) → ¬ (name.now ≡ name_of f)) → ¬ (CaseOf text c)
      no_function none h = none c.function (parts h).0

      pub no_arguments : ((a : Numbers) → ¬ (WritesAll arguments.now a)) → ¬ (CaseOf text c)
      no_arguments none h = none h.0 (h.3, (parts h).1)

      pub no_answer : (f : Function) (a : Numbers) → name.now ≡ name_of f → WritesAll arguments.now a → Answers f a None → ¬ (CaseOf text c)
      no_answer f a e w none h =
          let same : f ≡ c.function = function_names.distinct f c.function (sym e ∙ (parts h).0) in
          let given : a ≡ h.0 = text_of-injective a h.0 w.0 h.3 (sym w.1 ∙ (parts h).1) in
          one_answer c.function h.0 c.got h.2 (rw (same, given) at none)

    pub no_expected : ((e : Numbers) → ¬ (WritesAll answer.now e)) → ¬ (CaseOf text c)
    no_expected none h = none c.expected (h.4, (halves (Some (question, answer)) h at_arrow).1)

-- NAME ARGUMENT.. -> ANSWER.., put together again
pub two_sides : (t q r n a f x y : List ℕ) → t ≡ q ++ (codes " -> " ++ r) → q ≡ n ++ (32 ∷ a) → n ≡ f → a ≡ x → r ≡ y → t ≡ f ++ (codes " " ++ (x ++ (codes " -> " ++ y)))
two_sides t q r n a f x y e p h k l = rw (e, p, h, k, l) (append_assoc f (32 ∷ x) (codes " -> " ++ y))

-- a case is text
ascii_text : (bs : List ℕ) → list_all (λ b. nat_lt b 128) bs ≡ true → IsUtf8 bs
ascii_text bs h = IsUtf8-from_ascii bs (IsAscii-from_all bs (λ i d l. let low : nat_lt (get_or bs i d) 128 ≡ true = AllPass-from_list_all (λ b. nat_lt b 128) bs h i d l in grind (arith, nat_tests)))

word_text : (bs : List ℕ) → list_all is_word_byte bs ≡ true → IsUtf8 bs
word_text bs h = IsUtf8-from_ascii bs (IsAscii-from_all bs (λ i d l. let word : is_word_byte (get_or bs i d) ≡ true = AllPass-from_list_all is_word_byte bs h i d l in grind (arith, nat_tests)))

blank_text : (bs : List ℕ) → list_all is_word_byte bs ≡ true → IsUtf8 (codes " " ++ bs)
blank_text bs h = IsUtf8-append (codes " ") bs (ascii_text (codes " ") refl) (word_text bs h)

numbers_text : (n : Numbers) → IsUtf8 (text_of n)
numbers_text (One x) = word_text (written x) (word_bytes-written x)
numbers_text (Two x y) = IsUtf8-append (written x) (codes " " ++ written y) (word_text (written x) (word_bytes-written x)) (blank_text (written y) (word_bytes-written y))

case_is_text : (bs : List ℕ) (c : Case) → CaseOf bs c → IsUtf8 bs
case_is_text bs c h =
    let answer = IsUtf8-append (codes " -> ") (text_of c.expected) (ascii_text (codes " -> ") refl) (numbers_text c.expected) in
    let arguments = IsUtf8-append (text_of h.0) (codes " -> " ++ text_of c.expected) (numbers_text h.0) answer in
    let blank = IsUtf8-append (codes " ") (text_of h.0 ++ (codes " -> " ++ text_of c.expected)) (ascii_text (codes " ") refl) arguments in
    rw h.1 (IsUtf8-append (name_of c.function) (codes " " ++ (text_of h.0 ++ (codes " -> " ++ text_of c.expected))) (word_text (name_of c.function) (word_bytes-name c.function)) blank)

-- a line that is no text is no case
pub no_text : (line : List ℕ) (r : Result (Option Case) NoCase) → IsErr r → ¬ (IsUtf8 line) → LineOf line r
no_text line (Ok x) e h = cc
no_text line (Err x) e h = (λ u. absurd (h u), λ c k. h (case_is_text line c k))

-- nor is one whose text is none
pub no_case : (line text : List ℕ) (r : Result (Option Case) NoCase) → IsErr r → text ≡ line → ¬ (IsSkipped line) → ((c : Case) → ¬ (CaseOf text c)) → LineOf line r
no_case line text (Ok x) e same h none = cc
no_case line text (Err x) e same h none = (λ u. h, λ c k. none c (rw same k))
