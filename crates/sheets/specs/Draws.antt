-- The steps of a draw: a mark's path with its position, and the places that paths leave. Assumes nothing.
use Rattle.std.specs.Prelude.{◌≡◌, ℕ, ◌-◌, ◌≤◌, cond, List, [], map, length, Some, None, Ok, Err, Option, Result, nat_le, Float}
use Rattle.plane.specs.declared.bezpath.PathEl.{PathEl}
use Rattle.plane.specs.Paths.{Drawn}
use Rattle.sheets.specs.declared.fault.MarkFault.{MarkFault}
use Rattle.sheets.specs.declared.fault.SheetFault.{SheetFault}
use Rattle.sheets.specs.declared.sheet.Entry.{Entry}
use Rattle.sheets.specs.Book.{Marks, Inked, drawn_from}
use Rattle.sheets.specs.Tables.{row_of}

-- what entries draw, lowest first, or the lowest refusal
abbrev pub entries_drawn : {M : Type 0} → Marks M → Float → List (Entry M) → Inked
entries_drawn k t es = drawn_from k t 0 (Ok []) (map row_of es)

-- a cursor on the path, or the shape's refusal beside the position
abbrev pub DrawsAt : {C : Type 0} → (C → List PathEl) → Drawn → ℕ → Result C MarkFault → Type 0
DrawsAt {C} rest d i (Ok c) = d ≡ Ok (rest c)
DrawsAt {C} rest d i (Err f) = (d ≡ Err f.fault) × (f.position ≡ i)

-- what n elements leave of so many places, if they fit
abbrev pub left_of : ℕ → ℕ → Option ℕ
left_of places n = cond (nat_le n places) (Some (places - n)) None

abbrev pub spent : Option ℕ → ℕ → Option ℕ
spent None n = None
spent (Some places) n = left_of places n

abbrev pub measured : ℕ → Inked → Result (Option ℕ) SheetFault
measured places (Ok els) = Ok (left_of places (length els))
measured places (Err f) = Err f

-- what is drawn fits so many places
abbrev pub Fitting : ℕ → Inked → Type 0
Fitting places (Ok els) = length els ≤ places
Fitting places (Err f) = ⊥
