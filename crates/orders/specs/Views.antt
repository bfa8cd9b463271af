-- What functions return, in the terms of what is read. Assumes nothing.
use Rattle.std.specs.Prelude.{◌≡◌, ◌+◌, ◌-◌, ◌^◌, min, length, Result, Ok, Err}
use Rattle.std.specs.Str.Iter.{split_whitespace_rest}
use Rattle.orders.specs.declared.unreadable.Unreadable.{Unreadable}
use Rattle.orders.specs.declared.words.Words.{Words}
use Rattle.orders.specs.declared.sheet.Placed.{Placed}
use Rattle.orders.specs.Words.{Text, words_of}
use Rattle.orders.specs.Reasons.{reason_of, miscounted}
use Rattle.orders.specs.Runs.{Left, left}
use Rattle.orders.specs.Sheets.{Placement, placement}

-- what is left: all words of a run count, those that were read and those that were not
abbrev pub left_of : Words → Left
left_of w = left (words_of (split_whitespace_rest w.left)) (miscounted w.wanted (min (w.given + length (words_of (split_whitespace_rest w.left))) (2 ^ 64 - 1)))

-- without where the word lies in memory
abbrev pub placement_of : {M : Type 0} → Placed M → Placement M
placement_of p = placement p.mark p.by p.next.now

-- What was returned, seen by view, is what reading gives, with s left after it; or else it is refused with that text.
abbrev pub Reads : {A B : Type 0} → (A → B) → Result A Unreadable → Result (B × Left) Text → Left → Type 0
Reads view (Ok x) read s = read ≡ Ok (view x, s)
Reads view (Err u) read s = read ≡ Err (reason_of u)

-- the same, where nothing is left
abbrev pub Answers : {A B : Type 0} → (A → B) → Result A Unreadable → Result B Text → Type 0
Answers view (Ok x) read = read ≡ Ok (view x)
Answers view (Err u) read = read ≡ Err (reason_of u)
