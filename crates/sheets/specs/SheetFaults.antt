-- The refusals of a sheet: for every case its number, its name, what it names, and its text. Assumes nothing.
use Rattle.std.specs.Prelude.{ℕ, List, [], ◌++◌, Some, None, codes, decimal}
use Rattle.plane.specs.declared.fault.PageFault.{PageFault}
use Rattle.plane.specs.declared.fault.PageFault.TheVariants as Points
use Rattle.plane.specs.Faults as shapes
use Rattle.sheets.specs.declared.fault.MarkFault.{MarkFault}
use Rattle.sheets.specs.declared.fault.SheetFault.{SheetFault}
use Rattle.sheets.specs.declared.fault.SheetFault.TheVariants.{Tolerance, NotFinite, Full, NoMark, OffGrid, OffPage, TooSmall, Path}

abbrev pub number_of : SheetFault → ℕ
number_of Tolerance = 1
number_of NotFinite = 2
number_of Full = 4
number_of NoMark = 5
number_of OffGrid = 6
number_of (OffPage mark) = 7
number_of TooSmall = 8
number_of (Path f) = shapes.number_of f.fault

abbrev pub name_of : SheetFault → List ℕ
name_of Tolerance = codes "TOLERANCE"
name_of NotFinite = codes "NOT FINITE"
name_of Full = codes "FULL"
name_of NoMark = codes "NO MARK"
name_of OffGrid = codes "OFF GRID"
name_of (OffPage mark) = codes "OFF PAGE"
name_of TooSmall = codes "TOO SMALL"
name_of (Path f) = shapes.name_of f.fault

-- the mark that is named, after a blank
abbrev pub mark_text : SheetFault → List ℕ
mark_text Tolerance = []
mark_text NotFinite = []
mark_text Full = []
mark_text NoMark = []
mark_text OffGrid = []
mark_text (OffPage None) = []
mark_text (OffPage (Some i)) = codes " at mark " ++ decimal i
mark_text TooSmall = []
mark_text (Path f) = codes " at mark " ++ decimal f.position

-- the corner that a refused path names, after a blank
abbrev pub corner_text : SheetFault → List ℕ
corner_text Tolerance = []
corner_text NotFinite = []
corner_text Full = []
corner_text NoMark = []
corner_text OffGrid = []
corner_text (OffPage mark) = []
corner_text TooSmall = []
corner_text (Path f) = shapes.corner_text f.fault

-- the number and the name, and then the mark and the corner that are named
abbrev pub text_of : SheetFault → List ℕ
text_of f = decimal (number_of f) ++ (codes " " ++ (name_of f ++ (mark_text f ++ corner_text f)))

-- a mark's fault as the sheet's: whole, beside its position
abbrev pub of_mark : MarkFault → SheetFault
of_mark f = Path f

-- a point's fault as the sheet's
abbrev pub of_point : PageFault → SheetFault
of_point Points.OffGrid = OffGrid
of_point Points.OffPage = OffPage None
