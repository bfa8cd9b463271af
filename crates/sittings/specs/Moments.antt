-- A sitting at any moment: after every list of lines, what it stands for. Assumes nothing.
use Rattle.std.specs.Prelude.{◌≡◌, List, string_bytes}
use Rattle.sheets.specs.Sound.{Sound}
use Rattle.exam.specs.Moments.{PageAfter}
use Rattle.exam.specs.Pages.{shapes, frames, marks_rows, frames_rows}
use Rattle.sittings.specs.declared.sitting.Sitting.{Sitting}
use Rattle.sittings.specs.Courses.{Course, Input, course}

-- A sitting stands for what is known of it: its page stands after the orders of that page.
pub record StandsFor (s : Course) (it : Sitting) : Type 0 where
  pub progress : it.progress ≡ s.progress
  pub name : string_bytes it.name ≡ s.name
  pub page : PageAfter s.sizes s.orders it.page

-- It stands as these lines and ends of files leave it, where it was new and nothing else came since: for what is known after them.
abbrev pub SittingAfter : List Input → Sitting → Type 0
SittingAfter past it = StandsFor (course past) it

-- The rows of both books are sound: where a mark gives anything but 0, the page point lies in its sheet's box, `top` names the uppermost such mark, and drawings are the marks' own paths, moved, and well formed.
abbrev pub IsSound : Course → Type 0
IsSound s = Sound shapes (marks_rows s.sizes.entries s.orders) × Sound frames (frames_rows s.sizes.entries s.orders)
