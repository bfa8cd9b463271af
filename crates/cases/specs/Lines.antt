-- What stands on a line. Assumes nothing.
use Rattle.std.specs.Prelude.{◌≡◌, ℕ, ◌<◌, ◌⊎◌, Bool, true, false, List, [], ◌∷◌, ◌++◌, length, slice_index, Option, Some, None, Result, Ok, Err}
use Rattle.std.specs.List.{FoldsTo}
use Rattle.std.specs.Io.BufRead.{first_piece, drop_through}
use Rattle.std.specs.Borrow.{Bor}
use Rattle.std.specs.Str.{IsUtf8}

-- it is empty, or begins with '#'
abbrev pub IsSkipped : List ℕ → Type 0
IsSkipped line = (length line ≡ 0) ⊎ (slice_index line 0 ≡ 35)

-- the line as text, none where it is skipped, and an error where it is no text
abbrev pub TextOf : {E : Type 0} → List ℕ → Result (Option (Bor (List ℕ))) E → Type 0
TextOf line (Ok (Some text)) = (text.now ≡ line) × ¬ (IsSkipped line)
TextOf line (Ok None) = IsSkipped line
TextOf line (Err e) = ¬ (IsUtf8 line)

-- the first lines of a list, without their ends, and what is left of it behind them
abbrev pub LinesUpTo : List ℕ → List (List ℕ) → List ℕ → Type 0
LinesUpTo bs [] left = bs ≡ left
LinesUpTo bs (line ∷ lines) left = (0 < length bs) × (line ≡ first_piece 10 bs) × LinesUpTo (drop_through 10 bs) lines left

-- the first lines of a list
abbrev pub FirstLinesOf : List ℕ → List (List ℕ) → Type 0
FirstLinesOf bs lines = (left : List ℕ) × LinesUpTo bs lines left

-- the lines of a list, all of them
abbrev pub LinesOf : List ℕ → List (List ℕ) → Type 0
LinesOf bs lines = LinesUpTo bs lines []

module _ {T : Type 0} (takes : T → List ℕ → Bool → T → Type 0) where
  -- the lines were taken one after the other, each well
  abbrev pub AllTaken : T → List (List ℕ) → T → Type 0
  AllTaken first lines last = FoldsTo (λ before line after. takes before line true after) first lines last

  -- all but the last were taken well, and the last was not
  abbrev pub LastFailed : T → List (List ℕ) → T → Type 0
  LastFailed first lines last =
      (well : List (List ℕ)) × (line : List ℕ) × (now : T)
      × (lines ≡ well ++ (line ∷ [])) × AllTaken first well now × takes now line false last

  -- Where all goes well, all were taken well; else all were, or all but the last.
  abbrev pub TakenInTurn : T → List (List ℕ) → Bool → T → Type 0
  TakenInTurn first lines true last = AllTaken first lines last
  TakenInTurn first lines false last = AllTaken first lines last ⊎ LastFailed first lines last
