-- What each function answers, and when two answers agree. Assumes nothing.
use Rattle.std.specs.Prelude.{◌≡◌, Bool, false, ◌&&◌, Some, None, Option, Float}
use Rattle.std.specs.Float.{sqrt, binary64}
use Rattle.cases.specs.Equal.{same_bits}
use Rattle.elementary.specs.Angles.{sin_cos, tangent, angle}
use Rattle.elementary.specs.Powers.{square, seventh}
use Rattle.elementary.specs.SixthRoots as roots
use Rattle.vectors.specs.declared.case.Function.{Function}
use Rattle.vectors.specs.declared.case.Function.TheVariants.{Sqrt, SinCos, Tan, Atan2, SixthRoot, Powi2, Powi7}
use Rattle.vectors.specs.declared.case.Numbers.{Numbers}
use Rattle.vectors.specs.declared.case.Numbers.TheVariants.{One, Two}

-- the answer to one argument
abbrev pub AnswersOne : Function → Float → Option Numbers → Type 0
AnswersOne Sqrt x r = r ≡ Some (One (sqrt binary64 x))
AnswersOne SinCos x r = r ≡ Some (Two (sin_cos x).0 (sin_cos x).1)
AnswersOne Tan x r = r ≡ Some (One (tangent x))
AnswersOne Atan2 x r = r ≡ None
AnswersOne SixthRoot x r = (y : Float) × (r ≡ Some (One y)) × roots.SixthRoot x y
AnswersOne Powi2 x r = r ≡ Some (One (square x))
AnswersOne Powi7 x r = r ≡ Some (One (seventh x))

-- the answer to two
abbrev pub AnswersTwo : Function → Float → Float → Option Numbers → Type 0
AnswersTwo Sqrt x y r = r ≡ None
AnswersTwo SinCos x y r = r ≡ None
AnswersTwo Tan x y r = r ≡ None
AnswersTwo Atan2 x y r = r ≡ Some (One (angle x y))
AnswersTwo SixthRoot x y r = r ≡ None
AnswersTwo Powi2 x y r = r ≡ None
AnswersTwo Powi7 x y r = r ≡ None

-- none if the arguments are too few or too many
abbrev pub Answers : Function → Numbers → Option Numbers → Type 0
Answers f (One x) r = AnswersOne f x r
Answers f (Two x y) r = AnswersTwo f x y r

-- two numbers agree if their bits do
abbrev pub alike : Numbers → Numbers → Bool
alike (One x) (One y) = same_bits x y
alike (One x) (Two y z) = false
alike (Two x y) (One z) = false
alike (Two x y) (Two z w) = same_bits x z && same_bits y w
