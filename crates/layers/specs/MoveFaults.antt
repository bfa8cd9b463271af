-- The refusals of a move: for every case its number, its name and its text. Assumes nothing.
use Rattle.std.specs.Prelude.{ℕ, List, ◌++◌, codes, decimal}
use Rattle.plane.specs.declared.fault.PageFault.{PageFault}
use Rattle.plane.specs.declared.fault.PageFault.TheVariants as Offsets
use Rattle.layers.specs.declared.fault.MoveFault.{MoveFault}
use Rattle.layers.specs.declared.fault.MoveFault.TheVariants.{NotATurn, OffGrid, OffPage}

abbrev pub number_of : MoveFault → ℕ
number_of NotATurn = 10
number_of OffGrid = 6
number_of OffPage = 7

abbrev pub name_of : MoveFault → List ℕ
name_of NotATurn = codes "NOT A TURN"
name_of OffGrid = codes "OFF GRID"
name_of OffPage = codes "OFF PAGE"

-- the number and the name
abbrev pub text_of : MoveFault → List ℕ
text_of f = decimal (number_of f) ++ (codes " " ++ name_of f)

-- an offset's fault, as a point's
abbrev pub of_offset : PageFault → MoveFault
of_offset Offsets.OffGrid = OffGrid
of_offset Offsets.OffPage = OffPage
