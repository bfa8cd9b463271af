-- What is written piece by piece. Assumes nothing.
use Rattle.std.proofs.Common.{[], ◌++◌, Option, Ok, Err, Result, OnOk, sym, subst}
use Rattle.std.proofs.KnownBytes.{Appends-trans}
use Rattle.std.proofs.lemmas.List.{append_assoc, append-nil}
use Rattle.std.specs.Io.KnownBytes.{Appends}
use Rattle.numerals.specs.Numerals.{Text}

-- what went well wrote this text
pub wrote : {X E : Type 0} (r : Result X E) (P Q : Text → Type 0) (text : Text) → P text → OnOk r (Q text) → OnOk r ((t : Text) × P t × Q t)
wrote (Ok x) P Q text p q = (text, p, q)
wrote (Err e) P Q text p q = tt

-- behind what was written, what went well wrote this text
pub wrote_after : {X E : Type 0} (r : Result X E) (P : Text → Type 0) (old mid new : Option Text) (front text : Text) → Appends old mid front → P (front ++ text)
    → OnOk r (Appends mid new text) → OnOk r ((t : Text) × P t × Appends old new t)
wrote_after (Ok x) P old mid new front text p said q = (front ++ text, said, Appends-trans old mid new front text p q)
wrote_after (Err e) P old mid new front text p said q = tt

-- So much is written, and whatever Left says of the rest, the whole is what Whole says.
abbrev pub SoFar : (Text → Type 0) → (Text → Type 0) → Option Text → Option Text → Type 0
SoFar Left Whole old new = (front : Text) × Appends old new front × ((rest : Text) → Left rest → Whole (front ++ rest))

module _ (Left Whole : Text → Type 0) (old new : Option Text) where
  pub one_more : (Left' : Text → Type 0) (newer : Option Text) (piece : Text) → SoFar Left Whole old new → Appends new newer piece
      → ((rest : Text) → Left' rest → Left (piece ++ rest)) → SoFar Left' Whole old newer
  one_more Left' newer piece w more step =
      (w.0 ++ piece, Appends-trans old new newer w.0 piece w.1 more, λ rest l. subst Whole (sym (append_assoc w.0 piece rest)) (w.2 (piece ++ rest) (step rest l)))

  pub all_written : SoFar Left Whole old new → Left [] → (text : Text) × Whole text × Appends old new text
  all_written w l = (w.0, subst Whole (append-nil w.0) (w.2 [] l), w.1)
