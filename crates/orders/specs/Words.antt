-- The words of a text: what stands between white space. Assumes nothing.
use Rattle.std.specs.Prelude.{ℕ, cond, List, [], ◌∷◌, ◌++◌, chars, encode_utf8}
use Rattle.std.specs.Char.{is_whitespace}

-- a text, by its bytes
abbrev pub Text : Type 0
Text = List ℕ

-- the word before the others, if anything stands there
abbrev pub ended : Text → List Text → List Text
ended [] ws = ws
ended (b ∷ bs) ws = (b ∷ bs) ∷ ws

-- the words of characters, where w was read of a word before them
abbrev pub words_after : Text → List ℕ → List Text
words_after w [] = ended w []
words_after w (c ∷ cs) = cond (is_whitespace c) (ended w (words_after [] cs)) (words_after (w ++ encode_utf8 c) cs)

unfoldable pub words_of : Text → List Text
words_of t = words_after [] (chars t)
