-- The lines of a file, taken in turn, and files in turn. Assumes nothing.
use Rattle.std.specs.Prelude.{◌≡◌, ℕ, ◌≤◌, length, ◌⊎◌, Bool, true, false, ◌&&◌, List, [], ◌∷◌, ◌++◌, map, Option, None, Some, IfSome, Result, Ok, Err, ⊤}
use Rattle.std.specs.List.{flat_map}
use Rattle.std.specs.Option.{is_none}
use Rattle.lines.specs.declared.failure.Failure.{Failure}
use Rattle.lines.specs.declared.failure.Failure.TheVariants.{Input as FromInput, Output as FromOutput}
use Rattle.lines.specs.Lines.{FirstLinesOf, LinesOf, GivesLine}
use Rattle.orders.specs.Words.{Text}
use Rattle.sittings.specs.declared.files.Taken.{Taken}
use Rattle.sittings.specs.declared.sitting.Sitting.{Sitting}
use Rattle.sittings.specs.Moments.{SittingAfter}
use Rattle.sittings.specs.Courses.{Course, Input, next_line, file_end, fresh, course, course_from, with_line, at_file_end}
use Rattle.sittings.specs.Transcripts.{Written, LineSays, end_text, finish_text, fault_in}

-- each of these lines can be read
abbrev pub all_read : Course → List Text → Bool
all_read s [] = true
all_read s (l ∷ ls) = is_none (fault_in l s) && all_read (with_line l s) ls

-- these lines without the last
abbrev pub but_last : List Text → List Text
but_last [] = []
but_last (l ∷ []) = []
but_last (l ∷ (k ∷ ls)) = l ∷ but_last (k ∷ ls)

-- what is written of lines and ends of files, one after the other
abbrev pub InputsSay : Course → List Input → Text → Type 0
InputsSay s [] text = text ≡ []
InputsSay s (next_line l ∷ is) text = (said rest : Text) × LineSays l s said × InputsSay (with_line l s) is rest × (text ≡ said ++ rest)
InputsSay s (file_end ∷ is) text = (rest : Text) × InputsSay (at_file_end s) is rest × (text ≡ end_text s ++ rest)

-- ---- files: the lines of each, and its end
abbrev pub of_file : List Text → List Input
of_file lines = map next_line lines ++ (file_end ∷ [])

abbrev pub of_files : List (List Text) → List Input
of_files files = flat_map of_file files

-- what is written of them, and of a whole sitting
abbrev pub SittingSays : List (List Text) → Text → Type 0
SittingSays files text = (front : Text) × InputsSay fresh (of_files files) front × (text ≡ front ++ finish_text (course (of_files files)))

-- ---- the next line
-- there is none, or none was given
abbrev pub IsNoLine : Result (Option Bool) Failure → Type 0
IsNoLine (Ok None) = ⊤
IsNoLine (Ok (Some read)) = ⊥
IsNoLine (Err (FromInput e)) = ⊤
IsNoLine (Err (FromOutput e)) = ⊥

-- one line more was taken, of an input whose bytes may be known
pub record TakesLine (past : List Input) (left later : Option Text) (read : Bool) (it : Sitting) (old new : Option Text) : Type 0 where
  pub line : Text
  pub given : GivesLine left line later
  pub stands : SittingAfter (past ++ (next_line line ∷ [])) it
  pub written : Written (LineSays line (course past)) old new
  pub is_read : read ≡ is_none (fault_in line (course past))

-- ---- lines and files in turn
-- these came too, and what is written and counted is theirs
pub record GoesOn (past more : List Input) (it : Sitting) (old new : Option Text) : Type 0 where
  pub stands : SittingAfter (past ++ more) it
  pub written : Written (InputsSay (course past) more) old new

-- These lines were taken. They are the first ones of the input; all of them, unless it broke off, or a strict sitting ended at one that cannot be read, since that is its last.
pub record TakesLines (past : List Input) (taken : List Text) (known : Option Text) (strict : Bool) (t : Taken) (it : Sitting) (old new : Option Text) : Type 0 where
  pub lines : GoesOn past (map next_line taken) it old new
  pub is_read : t.all_read ≡ all_read (course past) taken
  pub last : strict ≡ true → all_read (course past) (but_last taken) ≡ true
  pub first : IfSome known (λ bs. FirstLinesOf bs taken)
  pub all : is_none t.broken ≡ true → (strict ≡ false) ⊎ (t.all_read ≡ true) → IfSome known (λ bs. LinesOf bs taken)

-- each line of these files can be read
abbrev pub files_read : Course → List (List Text) → Bool
files_read s [] = true
files_read s (f ∷ fs) = all_read s f && files_read (course_from s (of_file f)) fs

-- Of so many files these were taken, each with its end. It is told that all was read only if all of them were taken, and each line can be read.
pub record TakesFiles (past : List Input) (count : ℕ) (read : Bool) (files : List (List Text)) (it : Sitting) (old new : Option Text) : Type 0 where
  pub lines : GoesOn past (of_files files) it old new
  pub few : length files ≤ count
  pub all : read ≡ true → length files ≡ count
  pub is_read : read ≡ true → files_read (course past) files ≡ true
