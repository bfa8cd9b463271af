-- Runs of numbers in a line: how they are read from left to right, and what is said of them where they are not. Assumes nothing.
use Rattle.std.specs.Prelude.{ℕ, zero, suc, ◌-◌, ◌^◌, min, List, [], ◌∷◌, length, Result, Ok, Err, ok_or, ⊤, Float}
use Rattle.std.specs.Float.{binary64}
use Rattle.std.specs.Float.Parse.{parse_float}
use Rattle.plane.specs.declared.affine.Affine.{Affine}
use Rattle.plane.specs.declared.point.Point.{Point}
use Rattle.orders.specs.Words.{Text}
use Rattle.orders.specs.Values.{whole, up_to, map_of, point_of}
use Rattle.orders.specs.Reasons.{miscounted, no_number, no_position, no_allowance, no_size}

-- one step after the other, up to the first that is refused
infixl 10 ◌>>=◌
abbrev pub ◌>>=◌ : {A B : Type 0} → Result A Text → (A → Result B Text) → Result B Text
(Ok x) >>= f = f x
(Err e) >>= f = Err e

-- The words of a line that are left, and what is said of the run of numbers that stands there, where its words are too few or too many.
pub record Left : Type 0 where
  pub words : List Text
  pub miscount : Text

abbrev pub left : List Text → Text → Left
left ws m = record { words = ws; miscount = m }

-- a run of n numbers begins at these words, and they are all counted as its words; the count stops at 2 ^ 64 - 1
abbrev pub run : ℕ → List Text → Left
run n ws = left ws (miscounted n (min (length ws) (2 ^ 64 - 1)))

-- ---- a word
-- the first of these words, or '' where there is none: no word is ''
abbrev pub first_of : List Text → Text
first_of [] = []
first_of (w ∷ ws) = w

abbrev pub others_of : List Text → List Text
others_of [] = []
others_of (w ∷ ws) = ws

abbrev pub second_of : List Text → Text
second_of ws = first_of (others_of ws)

-- the next word, and what is left after it
abbrev pub word : Left → Text
word s = first_of s.words

abbrev pub after : Left → Left
after s = left (others_of s.words) s.miscount

-- a word, and not ''
abbrev pub some_word : Text → Text → Result Text Text
some_word [] m = Err m
some_word (b ∷ bs) m = Ok (b ∷ bs)

-- the next word of a run
unfoldable pub next : Left → Result (Text × Left) Text
next s = some_word (word s) s.miscount >>= λ w. Ok (w, after s)

-- '', and not a word
abbrev pub no_word : Text → Text → Result ⊤ Text
no_word [] m = Ok tt
no_word (b ∷ bs) m = Err m

-- nothing is left after a run
unfoldable pub end : Left → Result ⊤ Text
end s = no_word (word s) s.miscount

-- ---- what a word is
unfoldable pub number_of : Text → Result Float Text
number_of w = ok_or (parse_float binary64 w) (no_number w)

unfoldable pub position_of : Text → Result ℕ Text
position_of w = ok_or (whole 64 w) (no_position w)

unfoldable pub allowance_of : Text → Result ℕ Text
allowance_of w = ok_or (whole 32 w) (no_allowance w)

unfoldable pub size_of : ℕ → Text → Result ℕ Text
size_of most w = ok_or (up_to most (whole 64 w)) (no_size w most)

-- ---- the words of a run
unfoldable pub number : Left → Result (Float × Left) Text
number s = do
  w ← next s
  x ← number_of w.0
  Ok (x, w.1)

unfoldable pub position : Left → Result (ℕ × Left) Text
position s = do
  w ← next s
  n ← position_of w.0
  Ok (n, w.1)

unfoldable pub allowance : Left → Result (ℕ × Left) Text
allowance s = do
  w ← next s
  n ← allowance_of w.0
  Ok (n, w.1)

-- the next n numbers
unfoldable pub numbers : ℕ → Left → Result (List Float × Left) Text
numbers zero s = Ok ([], s)
numbers (suc n) s = do
  x ← number s
  xs ← numbers n x.1
  Ok (x.0 ∷ xs.0, xs.1)

-- what the next n numbers make
abbrev pub made_of : {A : Type 0} → ℕ → (List Float → A) → Left → Result (A × Left) Text
made_of n f s = do
  xs ← numbers n s
  Ok (f xs.0, xs.1)

-- the six of a move
unfoldable pub six : Left → Result (Affine × Left) Text
six s = made_of 6 map_of s

-- the two of a point, which are a run of their own
unfoldable pub two : Left → Result (Point × Left) Text
two s = made_of 2 point_of (run 2 s.words)
