-- The refusals of the shapes and of points: for every case its number, its name, its text and its values. Assumes nothing.
use Rattle.std.specs.Prelude.{ℕ, List, [], ◌++◌, Some, None, codes, decimal}
use Rattle.plane.specs.declared.fault.ArcFault.{ArcFault}
use Rattle.plane.specs.declared.fault.ArcFault.TheVariants as Arcs
use Rattle.plane.specs.declared.fault.Corner.{Corner}
use Rattle.plane.specs.declared.fault.Corner.TheVariants.{TopLeft, TopRight, BottomRight, BottomLeft}
use Rattle.plane.specs.declared.fault.CornerFault.{CornerFault}
use Rattle.plane.specs.declared.fault.PageFault.{PageFault}
use Rattle.plane.specs.declared.fault.PageFault.TheVariants.{OffGrid, OffPage}
use Rattle.plane.specs.declared.fault.ShapeFault.{ShapeFault}
use Rattle.plane.specs.declared.fault.ShapeFault.TheVariants.{Tolerance, NotFinite, TooFine, Steps}

-- a corner's place in drawing order
abbrev pub place_of : Corner → ℕ
place_of TopLeft = 0
place_of TopRight = 1
place_of BottomRight = 2
place_of BottomLeft = 3

abbrev pub number_of : ShapeFault → ℕ
number_of Tolerance = 1
number_of NotFinite = 2
number_of (TooFine corner) = 3
number_of Steps = 9

abbrev pub name_of : ShapeFault → List ℕ
name_of Tolerance = codes "TOLERANCE"
name_of NotFinite = codes "NOT FINITE"
name_of (TooFine corner) = codes "TOO FINE"
name_of Steps = codes "STEPS"

-- the corner that is named, after a blank
abbrev pub corner_text : ShapeFault → List ℕ
corner_text (TooFine (Some corner)) = codes " corner " ++ decimal corner
corner_text (TooFine None) = []
corner_text Tolerance = []
corner_text NotFinite = []
corner_text Steps = []

-- the number and the name, and the corner that is named
abbrev pub text_of : ShapeFault → List ℕ
text_of f = decimal (number_of f) ++ (codes " " ++ (name_of f ++ corner_text f))

-- an arc's fault as a shape's, without a corner and with one
abbrev pub as_shape_fault : ArcFault → ShapeFault
as_shape_fault Arcs.TooFine = TooFine None

abbrev pub at_corner : CornerFault → ShapeFault
at_corner f = TooFine (Some f.corner)

-- ---- a point that is none of the page
abbrev pub page_number_of : PageFault → ℕ
page_number_of OffGrid = 6
page_number_of OffPage = 7

abbrev pub page_name_of : PageFault → List ℕ
page_name_of OffGrid = codes "OFF GRID"
page_name_of OffPage = codes "OFF PAGE"

abbrev pub page_text_of : PageFault → List ℕ
page_text_of f = decimal (page_number_of f) ++ (codes " " ++ page_name_of f)
