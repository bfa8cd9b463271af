-- When two answers agree. Assumes nothing.
use Rattle.std.specs.Prelude.{◌≡◌, ℕ, Bool, ◌⊎◌, List, Float}
use Rattle.std.specs.List.{AllZip}
use Rattle.cases.specs.Equal.{same_bits, same_value}
use Rattle.cases.specs.Texts.{Writes}
use Rattle.questions.specs.declared.question.Kind.{Kind}
use Rattle.questions.specs.declared.question.Kind.TheVariants.{Rect, Circle, Triangle, Rounded, Ellipse, Affine}
use Rattle.comparison.specs.Words.{HasWords}

-- in an ellipse, where the sign of a zero counts, by their bits, and else by their values
abbrev pub equal : Kind → Float → Float → Bool
equal Rect x y = same_value x y
equal Circle x y = same_value x y
equal Triangle x y = same_value x y
equal Rounded x y = same_value x y
equal Ellipse x y = same_bits x y
equal Affine x y = same_value x y

-- two words are numbers that R holds of, or one text
abbrev pub SameWord : (Float → Float → Type 0) → List ℕ → List ℕ → Type 0
SameWord R w v = ((x : Float) × (y : Float) × Writes w x × Writes v y × R x y) ⊎ (w ≡ v)

-- two texts have as many words, each like the other's
abbrev pub AgreeBy : (Float → Float → Type 0) → List ℕ → List ℕ → Type 0
AgreeBy R a b = (ws : List (List ℕ)) × (vs : List (List ℕ)) × HasWords a ws × HasWords b vs × AllZip (SameWord R) ws vs
