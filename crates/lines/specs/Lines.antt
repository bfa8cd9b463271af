-- The lines of a list of bytes. Assumes nothing.
use Rattle.std.specs.Prelude.{◌≡◌, ℕ, ◌<◌, ◌==◌, ◌||◌, Bool, false, if◌then◌else◌, List, [], ◌∷◌, All, length, Option, Some, IfSome}

-- the byte ends a line: it is LF or CR
abbrev pub is_line_end : ℕ → Bool
is_line_end b = (b == 10) || (b == 13)

-- the bytes hold no end of a line
abbrev pub HasNoEnd : List ℕ → Type 0
HasNoEnd bs = All (λ b. is_line_end b ≡ false) bs

-- the first line, without its end: what stands before the first LF or CR, or all
abbrev pub first_line : List ℕ → List ℕ
first_line [] = []
first_line (b ∷ bs) = if is_line_end b then [] else b ∷ first_line bs

-- the bytes without the LF that may stand first
abbrev pub without_line_feed : List ℕ → List ℕ
without_line_feed [] = []
without_line_feed (b ∷ bs) = if b == 10 then bs else b ∷ bs

-- what stands behind the first line and its end, which is LF, CR LF or CR
abbrev pub behind_first_line : List ℕ → List ℕ
behind_first_line [] = []
behind_first_line (b ∷ bs) = if b == 10 then bs else (if b == 13 then without_line_feed bs else behind_first_line bs)

-- the first lines of the bytes, and what is left behind them. No line begins where no byte is left.
abbrev pub LinesUpTo : List ℕ → List (List ℕ) → List ℕ → Type 0
LinesUpTo bs [] left = bs ≡ left
LinesUpTo bs (line ∷ lines) left = (0 < length bs) × (line ≡ first_line bs) × LinesUpTo (behind_first_line bs) lines left

-- the first lines of the bytes
abbrev pub FirstLinesOf : List ℕ → List (List ℕ) → Type 0
FirstLinesOf bs lines = (left : List ℕ) × LinesUpTo bs lines left

-- the lines of the bytes, all of them
abbrev pub LinesOf : List ℕ → List (List ℕ) → Type 0
LinesOf bs lines = LinesUpTo bs lines []

-- where the bytes are known: some were there, `line` is their first line, and what stands behind it is left
abbrev pub GivesLine : Option (List ℕ) → List ℕ → Option (List ℕ) → Type 0
GivesLine known line left = IfSome known (λ bs. (0 < length bs) × (line ≡ first_line bs) × (left ≡ Some (behind_first_line bs)))
