-- Where a line ends. Assumes nothing.
use Rattle.std.proofs.Common.{◌≡◌, ℕ, ◌+◌, ◌<◌, Bool, true, false, cond, eqb, ltb, ◌||◌, List, [], ◌∷◌, ◌++◌, length, get_or, take, drop, None, Some, Option, refl, sym, ap, add-one, subst, ◌∙◌, arith, append_assoc, append-nil, eqb-true, length-append, length-take, get_or-take, drop-cons, take-append-drop}
use Rattle.std.specs.Prelude.{IfSome, position, if◌then◌else◌}
use Rattle.std.specs.Option.{option_map}
use Rattle.std.specs.List.{position_or_len}
use Rattle.std.proofs.Math.Seq.{drop-append_seam}
use borrow.Author.Tests.{ltb-false}
use Rattle.std.proofs.lemmas.List.{get_or_default, drop-append-le}
use Rattle.std.proofs.lemmas.List.Sums.{fails_before_first}
use Rattle.std.proofs.lemmas.List.Elements.{All-head, All-tail, All-append}
use Rattle.std.proofs.lemmas.List.Quantifiers.{position-Some}
use Rattle.std.proofs.KnownBytes.{Consumes-trans, Consumes-kept}
use Rattle.std.specs.Io.KnownBytes.{Keeps, Consumes, IsAtEnd, prepend_known}
use Rattle.std.specs.Io.BufRead.{DropsConsumable}
use Rattle.lines.specs.Lines.{is_line_end, HasNoEnd, first_line, without_line_feed, behind_first_line, GivesLine}
use Rattle.lines.specs.Readers.{left_behind}

-- a front without an end belongs to the first line
pub first_line-append : (front rest : List ℕ) → HasNoEnd front → first_line (front ++ rest) ≡ front ++ first_line rest
first_line-append [] rest h = refl
first_line-append (b ∷ bs) rest h =
    let none = All-head (λ x. is_line_end x ≡ false) b bs h in
    rw none (ap (λ l. b ∷ l) (first_line-append bs rest (All-tail (λ x. is_line_end x ≡ false) b bs h)))

no_cr_or_lf : (b : ℕ) → is_line_end b ≡ false → (eqb b 10 ≡ false) × (eqb b 13 ≡ false)
no_cr_or_lf b = at (eqb b 10) (eqb b 13)
  where
    at : (x y : Bool) → (x || y) ≡ false → (x ≡ false) × (y ≡ false)
    at true y h = cc
    at false true h = cc
    at false false h = (refl, refl)

-- and what stands behind that line is the same without it
pub behind_first_line-append : (front rest : List ℕ) → HasNoEnd front → behind_first_line (front ++ rest) ≡ behind_first_line rest
behind_first_line-append [] rest h = refl
behind_first_line-append (b ∷ bs) rest h =
    let none = no_cr_or_lf b (All-head (λ x. is_line_end x ≡ false) b bs h) in
    rw (none.0, none.1) (behind_first_line-append bs rest (All-tail (λ x. is_line_end x ≡ false) b bs h))

-- at an end there is nothing of the line, and the rest stands behind it
pub line_at_end : (e : ℕ) (rest : List ℕ) → is_line_end e ≡ true → (first_line (e ∷ rest) ≡ []) × (behind_first_line (e ∷ rest) ≡ left_behind (eqb e 13) rest)
line_at_end e rest h = (rw h refl, at (eqb e 10) (eqb e 13) refl refl h)
  where
    at : (x y : Bool) → eqb e 10 ≡ x → eqb e 13 ≡ y → (x || y) ≡ true → cond x rest (cond y (without_line_feed rest) (behind_first_line rest)) ≡ left_behind y rest
    at false false p q h = cc
    at false true p q h = refl
    at true false p q h = refl
    at true true p q h =
        let lf = eqb-true e 10 p in
        let cr = eqb-true e 13 q in
        absurd (omega arith)

-- what a reader with a buffer has left begins with what is buffered
abbrev pub Begins : Option (List ℕ) → List ℕ → Type 0
Begins known front = IfSome known (λ bs. (rest : List ℕ) × (bs ≡ front ++ rest))

pub buffer_begins : (empty : Bool) (buffer : List ℕ) (inner : Option (List ℕ)) → Begins (if empty then None else prepend_known buffer inner) buffer
buffer_begins true buffer inner = tt
buffer_begins false buffer None = tt
buffer_begins false buffer (Some rest) = (rest, refl)

-- where the first end stands
record SplitsAt (bs : List ℕ) (end : ℕ) : Type 0 where
  within : end < length bs
  front : HasNoEnd (take end bs)
  ends : is_line_end (get_or bs end 0) ≡ true
  parts : bs ≡ take end bs ++ get_or bs end 0 ∷ drop (end + 1) bs

position_splits : (bs : List ℕ) (end : ℕ) → position is_line_end bs ≡ Some end → SplitsAt bs end
position_splits bs end h =
    let found = position-Some is_line_end bs end 0 h in
    let within : end < length bs = found.0 in
    record {
      within = within;
      front = λ k d lt.
          let below : k < end = omega (arith, length-take {A = ℕ}) in
          let within_all : k < length bs = omega (arith, length-take {A = ℕ}, within) in
          let same : get_or (take end bs) k d ≡ get_or bs k 0 = get_or-take end bs k d below ∙ get_or_default bs k d 0 within_all in
          rw same (found.2 k below);
      ends = found.1;
      parts = sym (take-append-drop end bs) ∙ ap (λ l. take end bs ++ l) (rw (add-one) (drop-cons bs end 0 within));
    }

-- the end of the line is buffered
pub ends_line : (known later : Option (List ℕ)) (buffer shown line now : List ℕ) (end : ℕ) (after_cr : Bool) → Begins known buffer → (after_cr ≡ true → buffer ≡ []) → shown ≡ buffer
    → position is_line_end shown ≡ Some end → now ≡ line ++ take end shown → DropsConsumable known later (Some (length buffer)) (end + 1)
    → IfSome (option_map (left_behind after_cr) known) (λ bs. (0 < length bs) × (now ≡ line ++ first_line bs) × (option_map (left_behind (eqb (get_or shown end 0) 13)) later ≡ Some (behind_first_line bs)))
ends_line None later buffer shown line now end after_cr begins passed same found taken drops = tt
ends_line (Some bs) later buffer shown line now end true begins passed same found taken drops =
    let none = passed refl in
    let splits = position_splits shown end found in
    absurd (omega (arith, splits.within, ap length same, ap length none))
ends_line (Some bs) later buffer shown line now end false begins passed same found taken drops =
    let splits = position_splits shown end found in
    let front = take end shown in
    let e = get_or shown end 0 in
    let rest = drop (end + 1) shown ++ begins.0 in
    let shown_first : bs ≡ shown ++ begins.0 = begins.1 ∙ ap (λ l. l ++ begins.0) (sym same) in
    let all : bs ≡ front ++ e ∷ rest = shown_first ∙ ap (λ l. l ++ begins.0) splits.parts ∙ append_assoc front (e ∷ drop (end + 1) shown) begins.0 in
    let ends = line_at_end e rest splits.ends in
    let first : first_line bs ≡ front = ap first_line all ∙ first_line-append front (e ∷ rest) splits.front ∙ ap (λ l. front ++ l) ends.0 ∙ append-nil front in
    let behind : behind_first_line bs ≡ left_behind (eqb e 13) rest = ap behind_first_line all ∙ behind_first_line-append front (e ∷ rest) splits.front ∙ ends.1 in
    let behind_end : drop (end + 1) bs ≡ rest = ap (drop (end + 1)) shown_first ∙ drop-append-le (end + 1) shown begins.0 (omega (arith, splits.within)) in
    let later_is : later ≡ Some rest = drops (omega (arith, splits.within, ap length same)) ∙ ap Some behind_end in
    (omega (arith, ap length all, length-append {A = ℕ}), taken ∙ ap (λ l. line ++ l) (sym first), rw later_is (ap Some (sym behind)))

pub position-none : (bs : List ℕ) → position is_line_end bs ≡ None → HasNoEnd bs
position-none bs h k d lt = at (ltb (position_or_len is_line_end bs) (length bs)) refl h
  where
    at : (b : Bool) → ltb (position_or_len is_line_end bs) (length bs) ≡ b → cond b (Some (position_or_len is_line_end bs)) None ≡ None → is_line_end (get_or bs k d) ≡ false
    at true e q = cc
    at false e q = fails_before_first is_line_end bs k d (omega (arith, ltb-false _ _ e))

-- the line goes on behind the buffer
pub line_goes_on : (known later : Option (List ℕ)) (buffer shown line now : List ℕ) (amount : ℕ) (after_cr : Bool) → Begins known buffer → (after_cr ≡ true → buffer ≡ []) → shown ≡ buffer
    → position is_line_end shown ≡ None → now ≡ line ++ shown → amount ≡ length shown → DropsConsumable known later (Some (length buffer)) amount
    → (part : List ℕ) × (now ≡ line ++ part) × HasNoEnd part × Consumes (option_map (left_behind after_cr) known) (option_map (left_behind after_cr) later) part
line_goes_on None later buffer shown line now amount after_cr begins passed same found taken whole drops = (shown, taken, position-none shown found, tt)
line_goes_on (Some bs) later buffer shown line now amount after_cr begins passed same found taken whole drops =
    let rest = begins.0 in
    let shown_first : bs ≡ shown ++ rest = begins.1 ∙ ap (λ l. l ++ rest) (sym same) in
    let behind : drop amount bs ≡ rest = rw whole (ap (drop (length shown)) shown_first ∙ drop-append_seam shown rest) in
    let later_is : later ≡ Some rest = drops (omega (arith, whole, ap length same)) ∙ ap Some behind in
    (shown, taken, position-none shown found, rw later_is (at after_cr passed shown_first))
  where
    at : (cr : Bool) → (cr ≡ true → buffer ≡ []) → bs ≡ shown ++ begins.0 → left_behind cr bs ≡ shown ++ left_behind cr begins.0
    at false h first = first
    at true h first = let none = same ∙ h refl in rw (first, none) refl

pub position_front : (bs : List ℕ) (end : ℕ) → position is_line_end bs ≡ Some end → HasNoEnd (take end bs)
position_front bs end h = let splits = position_splits bs end h in splits.front

pub no_end_more : (line part now : List ℕ) → now ≡ line ++ part → HasNoEnd part → HasNoEnd line → HasNoEnd now
no_end_more line part now e more h = subst HasNoEnd (sym e) (All-append (λ b. is_line_end b ≡ false) line part h more)

-- more is taken of the line
pub taken_more : (known left now later : Option (List ℕ)) (line part new : List ℕ) → Consumes known left line → Keeps left now → Consumes now later part → new ≡ line ++ part → Consumes known later new
taken_more known left now later line part new taken kept more e =
    subst (Consumes known later) (sym e) (Consumes-trans known now later line part (Consumes-kept known left now line taken kept) more)

-- what was taken of the line, and then its end
pub line_given : (known left now later : Option (List ℕ)) (line new : List ℕ) → Consumes known left line → HasNoEnd line → Keeps left now
    → IfSome now (λ bs. (0 < length bs) × (new ≡ line ++ first_line bs) × (later ≡ Some (behind_first_line bs))) → GivesLine known new later
line_given None left now later line new taken whole kept done = tt
line_given (Some bs) None now later line new taken whole kept done = absurd taken
line_given (Some bs) (Some xs) None later line new taken whole kept done = absurd kept
line_given (Some bs) (Some xs) (Some ys) later line new taken whole kept done =
    let all : bs ≡ line ++ ys = taken ∙ ap (λ l. line ++ l) (sym kept) in
    let first : first_line bs ≡ line ++ first_line ys = ap first_line all ∙ first_line-append line ys whole in
    let behind : behind_first_line bs ≡ behind_first_line ys = ap behind_first_line all ∙ behind_first_line-append line ys whole in
    (omega (arith, ap length all, length-append {A = ℕ}, done.0), done.1 ∙ sym first, done.2 ∙ ap Some (sym behind))

-- the line ends where the input ends
pub last_line : (known left later : Option (List ℕ)) (line : List ℕ) → Consumes known left line → HasNoEnd line → IsAtEnd left → Keeps left later → 0 < length line → GivesLine known line later
last_line None left later line taken whole end kept some = tt
last_line (Some bs) None later line taken whole end kept some = absurd taken
last_line (Some bs) (Some xs) None line taken whole end kept some = absurd kept
last_line (Some bs) (Some xs) (Some ys) line taken whole end kept some =
    let all : bs ≡ line ++ [] = taken ∙ ap (λ l. line ++ l) end in
    let first : first_line bs ≡ line ++ [] = ap first_line all ∙ first_line-append line [] whole in
    let behind : behind_first_line bs ≡ [] = ap behind_first_line all ∙ behind_first_line-append line [] whole in
    (omega (arith, ap length all, length-append {A = ℕ}, some), sym (append-nil line) ∙ sym first, ap Some (kept ∙ end ∙ sym behind))

-- nothing was taken where the input ends
pub nothing_left : (known left later : Option (List ℕ)) (line : List ℕ) → Consumes known left line → IsAtEnd left → Keeps left later → line ≡ [] → IsAtEnd known × Keeps known later × (line ≡ [])
nothing_left None left later line taken end kept none = (tt, tt, none)
nothing_left (Some bs) None later line taken end kept none = absurd taken
nothing_left (Some bs) (Some xs) None line taken end kept none = absurd kept
nothing_left (Some bs) (Some xs) (Some ys) line taken end kept none =
    let same : bs ≡ xs = taken ∙ ap (λ l. l ++ xs) none in
    (same ∙ end, kept ∙ sym same, none)
