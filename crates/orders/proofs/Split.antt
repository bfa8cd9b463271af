-- The words of a text are those that it is split into, one after the other, and no word is ''.
use Rattle.std.proofs.Common.{◌≡◌, ℕ, ◌+◌, ◌<◌, min, Bool, true, false, not, cond, List, [], ◌∷◌, ◌++◌, length, Option, Some, None, refl, sym, ap, subst, ◌∙◌, append_assoc, arith, Bor}
use Rattle.std.specs.Prelude.{chars, encode_utf8, encode_utf8_all, IsUtf8, unwrap_or}
use Rattle.std.specs.Char.{is_whitespace, is_not_whitespace, IsScalar}
use Rattle.std.specs.Str.{NonePass, NoCharPasses, EmptyOrStartsWithPassing}
use Rattle.std.specs.Str.Iter.{split_whitespace_rest, split_whitespace_steps}
use Rattle.std.specs.declared.str.SplitWhitespace.{SplitWhitespace}
use Rattle.std.proofs.lemmas.Bool.Decides.{nat_tests}
use Rattle.std.proofs.lemmas.List.{append-nil}
use Rattle.std.proofs.lemmas.Str.{chars-append, chars-nil, chars_from_encodes, IsUtf8-append, IsUtf8-encode, IsUtf8-nil}
use Rattle.orders.specs.Words.{Text, ended, words_after, words_of}
use Rattle.orders.specs.Runs.{left, first_of, others_of}

-- ---- characters, one after the other
-- white space before a word
is_true : (b : Bool) → not b ≡ false → b ≡ true
is_true true e = refl
is_true false e = absurd cc

white : (cs ds : List ℕ) → NonePass is_not_whitespace cs → words_after [] (cs ++ ds) ≡ words_after [] ds
white [] ds h = refl
white (c ∷ cs) ds h = rw (is_true (is_whitespace c) h.0) (white cs ds h.1)

-- a word
dark : (w cs ds : List ℕ) → NonePass is_whitespace cs → words_after w (cs ++ ds) ≡ words_after (w ++ encode_utf8_all cs) ds
dark w [] ds h = ap (λ v. words_after v ds) (sym (append-nil w))
dark w (c ∷ cs) ds h = rw h.0 (dark (w ++ encode_utf8 c) cs ds h.1 ∙ ap (λ v. words_after v ds) (append_assoc w (encode_utf8 c) (encode_utf8_all cs)))

-- white space after it
past : (w : Text) (c : ℕ) (ds : List ℕ) → is_whitespace c ≡ true → words_after w (c ∷ ds) ≡ ended w (words_after [] (c ∷ ds))
past w c ds e = rw e refl

-- ---- the same of bytes
white_scalar : (c : ℕ) → is_not_whitespace c ≡ false → IsScalar c
white_scalar c e = grind (arith, nat_tests)

white_utf8 : (cs : List ℕ) → NonePass is_not_whitespace cs → IsUtf8 (encode_utf8_all cs)
white_utf8 [] h = IsUtf8-nil
white_utf8 (c ∷ cs) h = IsUtf8-append (encode_utf8 c) (encode_utf8_all cs) (IsUtf8-encode c (white_scalar c h.0)) (white_utf8 cs h.1)

one_char : (c : ℕ) → IsScalar c → chars (encode_utf8 c) ≡ c ∷ []
one_char c s = sym (chars_from_encodes (c ∷ []) (encode_utf8 c) (IsUtf8-encode c s) (append-nil (encode_utf8 c)))

gap_utf8 : (gap : Text) (h : NoCharPasses is_not_whitespace gap) → IsUtf8 gap
gap_utf8 gap h = subst IsUtf8 h.1 (white_utf8 h.0 h.2)

gap_chars : (gap : Text) (h : NoCharPasses is_not_whitespace gap) → chars gap ≡ h.0
gap_chars gap h = sym (chars_from_encodes h.0 gap (gap_utf8 gap h) h.1)

-- what begins with white space, or is nothing, ends a word
stops : (w rest more : Text) → EmptyOrStartsWithPassing is_whitespace rest more → words_after w (chars rest) ≡ ended w (words_after [] (chars rest))
stops w [] more h = rw chars-nil refl
stops w (b ∷ bs) more h =
    let k = h (omega arith) in
    let e : chars (b ∷ bs) ≡ k.0 ∷ chars more = ap chars k.2 ∙ chars-append (encode_utf8 k.0) more (IsUtf8-encode k.0 k.3) ∙ ap (λ l. l ++ chars more) (one_char k.0 k.3) in
    rw e (past w k.0 (chars more) k.1)

some : (w : Text) (ws : List Text) → 0 < length w → ended w ws ≡ w ∷ ws
some [] ws l = absurd (omega arith)
some (b ∷ bs) ws l = refl

-- a word comes off the front
pub words_on : (text gap word rest more : Text) → text ≡ gap ++ (word ++ rest) → NoCharPasses is_not_whitespace gap → NoCharPasses is_whitespace word → IsUtf8 word → EmptyOrStartsWithPassing is_whitespace rest more → 0 < length word
    → words_of text ≡ word ∷ words_of rest
unfolding words_of
words_on text gap word rest more e g h u m l =
    let parts : chars text ≡ g.0 ++ (h.0 ++ chars rest) = ap chars e ∙ chars-append gap (word ++ rest) (gap_utf8 gap g) ∙ ap (λ v. v ++ chars (word ++ rest)) (gap_chars gap g)
    ∙ ap (λ v. g.0 ++ v) (chars-append word rest u ∙ ap (λ v. v ++ chars rest) (sym (chars_from_encodes h.0 word u h.1))) in
    ap (words_after []) parts ∙ white g.0 (h.0 ++ chars rest) g.2 ∙ dark [] h.0 (chars rest) h.2 ∙ ap (λ v. words_after v (chars rest)) h.1 ∙ stops word rest more m ∙ some word (words_after [] (chars rest)) l

pub no_words : (text : Text) → NoCharPasses is_not_whitespace text → words_of text ≡ []
unfolding words_of
no_words text g = ap (words_after []) (gap_chars text g ∙ sym (append-nil g.0)) ∙ white g.0 [] g.2

-- no word is ''
ended_none : (w : Text) (ws : List Text) → (first_of ws ≡ [] → ws ≡ []) → first_of (ended w ws) ≡ [] → ended w ws ≡ []
ended_none [] ws h e = h e
ended_none (b ∷ bs) ws h e = absurd cc

none_cond : (b : Bool) (xs ys : List Text) → (first_of xs ≡ [] → xs ≡ []) → (first_of ys ≡ [] → ys ≡ []) → first_of (cond b xs ys) ≡ [] → cond b xs ys ≡ []
none_cond true xs ys h k = h
none_cond false xs ys h k = k

none_after : (w : Text) (cs : List ℕ) → first_of (words_after w cs) ≡ [] → words_after w cs ≡ []
none_after w [] = ended_none w [] (λ _. refl)
none_after w (c ∷ cs) = none_cond (is_whitespace c) _ _ (ended_none w (words_after [] cs) (none_after [] cs)) (none_after (w ++ encode_utf8 c) cs)

pub none_left : (text : Text) → first_of (words_of text) ≡ [] → words_of text ≡ []
unfolding words_of
none_left text = none_after [] (chars text)

-- ---- a call of `next`
pub record Turn (ws : List Text) (w : Text) (rest : List Text) : Type 0 where
  pub word : w ≡ first_of ws
  pub left : rest ≡ others_of ws

pub turn : (s t : SplitWhitespace) (r : Option (Bor Text)) (e : Bor Text) → e.now ≡ [] → split_whitespace_steps s r t → IsUtf8 (unwrap_or r e).now
    → Turn (words_of (split_whitespace_rest s)) (unwrap_or r e).now (words_of (split_whitespace_rest t))
turn s t None e z h u =
    let n = no_words (split_whitespace_rest s) h.1 in
    record { word = z ∙ ap first_of (sym n); left = ap (λ v. words_of (split_whitespace_rest v)) h.0 ∙ n ∙ ap others_of (sym n) }
turn s t (Some x) e z h u =
    let n = words_on (split_whitespace_rest s) h.0 x.now (split_whitespace_rest t) h.5.0 h.1 h.3 h.4 u h.5.1 h.2 in
    record { word = ap first_of (sym n); left = ap others_of (sym n) }

-- ---- counts
-- a word more was read, and one fewer is left
pub counted_on : (ws : List Text) (n : ℕ) → (first_of ws ≡ [] → ws ≡ []) → 0 < length (first_of ws)
    → min (min (n + 1) 18446744073709551615 + length (others_of ws)) 18446744073709551615 ≡ min (n + length ws) 18446744073709551615
counted_on [] n h l = absurd (omega arith)
counted_on (w ∷ ws) n h l = omega arith

pub turned : (s t : SplitWhitespace) (r : Option (Bor Text)) (e w : Bor Text) → e.now ≡ [] → split_whitespace_steps s r t → w ≡ unwrap_or r e → IsUtf8 w.now
    → Turn (words_of (split_whitespace_rest s)) w.now (words_of (split_whitespace_rest t))
turned s t r e w z h is u =
    let now : w.now ≡ (unwrap_or r e).now = ap (λ b. b.now) is in
    let k = turn s t r e z h (subst IsUtf8 now u) in
    record { word = now ∙ k.word; left = k.left }

pub same_left : (ws vs : List Text) (m n : Text) → ws ≡ vs → m ≡ n → left ws m ≡ left vs n
same_left ws vs m n p q = λ i. left (p i) (q i)

-- after the last word none is left
pub past_last : (ws : List Text) → (first_of ws ≡ [] → ws ≡ []) → first_of ws ≡ [] → others_of ws ≡ ws
past_last ws h e = ap others_of (h e) ∙ sym (h e)
