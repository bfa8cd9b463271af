-- What cases are about, and the names of what they ask. Assumes nothing.
use Rattle.std.specs.Prelude.{ℕ, List, [], ◌∷◌, codes}
use Rattle.questions.specs.declared.question.Kind.{Kind}
use Rattle.questions.specs.declared.question.Kind.TheVariants as Kinds
use Rattle.questions.specs.declared.question.Question.{Question}
use Rattle.questions.specs.declared.question.Question.TheVariants as Questions
use Rattle.questions.specs.declared.question.What.{What}
use Rattle.questions.specs.declared.question.What.TheVariants as Whats

-- each, in the order of the report
abbrev pub all_kinds : List Kind
all_kinds = Kinds.Rect ∷ Kinds.Circle ∷ Kinds.Triangle ∷ Kinds.Rounded ∷ Kinds.Ellipse ∷ Kinds.Affine ∷ []

-- the place in the report
abbrev pub place_of : Kind → ℕ
place_of Kinds.Rect = 0
place_of Kinds.Circle = 1
place_of Kinds.Triangle = 2
place_of Kinds.Rounded = 3
place_of Kinds.Ellipse = 4
place_of Kinds.Affine = 5

abbrev pub name_of : Kind → List ℕ
name_of Kinds.Rect = codes "rect"
name_of Kinds.Circle = codes "circle"
name_of Kinds.Triangle = codes "triangle"
name_of Kinds.Rounded = codes "rounded"
name_of Kinds.Ellipse = codes "ellipse"
name_of Kinds.Affine = codes "affine"

abbrev pub all_whats : List What
all_whats =
    Whats.Area ∷ Whats.Perimeter ∷ Whats.Box ∷ Whats.Winding ∷ Whats.Contains ∷ Whats.Path ∷ Whats.Radii ∷ Whats.New
    ∷ Whats.Point ∷ Whats.Mul ∷ Whats.Inverse ∷ Whats.Determinant ∷ Whats.Bbox ∷ []

abbrev pub word_of : What → List ℕ
word_of Whats.Area = codes "area"
word_of Whats.Perimeter = codes "perimeter"
word_of Whats.Box = codes "box"
word_of Whats.Winding = codes "winding"
word_of Whats.Contains = codes "contains"
word_of Whats.Path = codes "path"
word_of Whats.Radii = codes "radii"
word_of Whats.New = codes "new"
word_of Whats.Point = codes "point"
word_of Whats.Mul = codes "mul"
word_of Whats.Inverse = codes "inverse"
word_of Whats.Determinant = codes "determinant"
word_of Whats.Bbox = codes "bbox"

abbrev pub kind_of : Question → Kind
kind_of (Questions.Rect r a) = Kinds.Rect
kind_of (Questions.Circle c a) = Kinds.Circle
kind_of (Questions.Triangle t a) = Kinds.Triangle
kind_of (Questions.Rounded s a) = Kinds.Rounded
kind_of (Questions.Corners s) = Kinds.Rounded
kind_of (Questions.Ellipse l a) = Kinds.Ellipse
kind_of (Questions.Affine m a) = Kinds.Affine
