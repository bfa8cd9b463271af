-- The words of a text, and the numbers among them. Assumes nothing.
use Rattle.std.specs.Prelude.{◌≡◌, ℕ, List, [], ◌∷◌, ◌++◌, Some, None, map, Float}
use Rattle.std.specs.Str.Iter.{split_whitespace_steps, split_whitespace_rest}
use Rattle.std.specs.declared.str.SplitWhitespace.{SplitWhitespace}
use Rattle.cases.specs.Texts.{written}
use Rattle.comparison.specs.declared.read.Words.{Words}

-- the words ws are still to come, and no others
unfoldable pub Left : SplitWhitespace → List (List ℕ) → Type 0
Left s [] = split_whitespace_steps s None s
Left s (w ∷ ws) = (r : _) × (t : SplitWhitespace) × split_whitespace_steps s (Some r) t × (r.now ≡ w) × Left t ws

-- these are the words of the text, whose blanks split it
abbrev pub HasWords : List ℕ → List (List ℕ) → Type 0
HasWords bs ws = (s : SplitWhitespace) × (split_whitespace_rest s ≡ bs) × Left s ws

-- the words vs were taken, and what is left comes behind them
abbrev pub Takes : Words → List (List ℕ) → Words → Type 0
Takes old vs new = (ws : List (List ℕ)) → Left new.0 ws → Left old.0 (vs ++ ws)

-- each number is a word
abbrev pub TakesNumbers : Words → List Float → Words → Type 0
TakesNumbers old xs new = Takes old (map written xs) new

-- numbers of which P holds were taken
abbrev pub TakesSome : (List Float → Type 0) → Words → Words → Type 0
TakesSome P old new = (xs : List Float) × P xs × TakesNumbers old xs new
