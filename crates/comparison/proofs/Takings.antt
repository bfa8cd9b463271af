-- Words that are taken one after another. Assumes nothing.
use Rattle.std.proofs.Common.{◌≡◌, ℕ, List, [], ◌∷◌, ◌++◌, map, Float, append_assoc}
use Rattle.std.proofs.lemmas.List.{map-append, append-nil}
use Rattle.std.specs.declared.str.SplitWhitespace.{SplitWhitespace}
use Rattle.cases.specs.Texts.{written}
use Rattle.comparison.specs.declared.read.Words.{Words}
use Rattle.comparison.specs.Words.{Left, TakesNumbers}

-- first these numbers, and then those
pub takes_both : (old mid new : Words) (xs ys : List Float) → TakesNumbers old xs mid → TakesNumbers mid ys new → TakesNumbers old (xs ++ ys) new
takes_both old mid new xs ys first then ws left =
    rw (map-append written xs ys, append_assoc (map written xs) (map written ys) ws) (first (map written ys ++ ws) (then ws left))

-- two words, and those behind them up to the last
pub two_and_more : (s : SplitWhitespace) (v w a b : List ℕ) (ws : List (List ℕ)) → v ≡ a → w ≡ b → Left s (v ∷ w ∷ (ws ++ [])) → Left s (a ∷ b ∷ ws)
two_and_more s v w a b ws p q left = rw (p, q, append-nil ws) at left
