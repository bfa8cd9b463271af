-- A page at any moment: after every list of orders, what the next one is told. Assumes nothing.
use Rattle.std.specs.Prelude.{◌≡◌, List, [], ◌∷◌, ◌++◌, length, take, vec_items}
use Rattle.sheets.specs.Runs.{After}
use Rattle.sheets.specs.Sound.{Sound}
use Rattle.orders.specs.declared.order.PageOrder.{PageOrder}
use Rattle.orders.specs.declared.order.Sizes.{Sizes}
use Rattle.exam.specs.declared.page.Page.{Page}
use Rattle.exam.specs.declared.reply.Reply.{Reply}
use Rattle.exam.specs.Replies.{elements_in}
use Rattle.exam.specs.Pages.{shapes, frames, to_marks, to_frames, marks_rows, frames_rows, reply_to, buffer_after, drawn_by}

abbrev pub no_sizes : Sizes
no_sizes = record { entries = 0; places = 0 }

-- The page stands as these orders leave it, where it was opened with these sizes and nothing but these orders came since: its sheets and tables stand for the rows of both books after them.
pub record PageAfter (z : Sizes) (os : List PageOrder) (p : Page) : Type 0 where
  pub marks : After shapes (to_marks os) p.marks (vec_items p.marks_table)
  pub frames : After frames (to_frames os) p.frames (vec_items p.frames_table)
  pub marks_entries : length (vec_items p.marks_table) ≡ z.entries
  pub frames_entries : length (vec_items p.frames_table) ≡ z.entries
  pub places : length (vec_items p.buffer) ≡ z.places

-- one order after these
pub record MomentOf (z : Sizes) (os : List PageOrder) (o : PageOrder) (p : Page) (r : Reply) (p' : Page) : Type 0 where
  -- it is told what the two books tell
  pub told : r ≡ reply_to z.entries z.places os o
  -- the buffer is theirs, whole; and at its start stands what is drawn
  pub buffer : vec_items p'.buffer ≡ buffer_after z.entries os o (vec_items p.buffer)
  pub drawn : take (elements_in r) (vec_items p'.buffer) ≡ drawn_by z.entries z.places os o
  -- the page stands after these orders with this one at their end
  pub stands : PageAfter z (os ++ (o ∷ [])) p'
  -- Where a mark gives anything but 0, the page point lies in its sheet's box, `top` names the uppermost such mark, and drawings are the marks' own paths, moved, and well formed.
  pub marks : Sound shapes (marks_rows z.entries os)
  pub frames : Sound frames (frames_rows z.entries os)

abbrev pub AtEachMoment : Page → PageOrder → Reply → Page → Type 0
AtEachMoment p o r p' = (z : Sizes) (os : List PageOrder) → PageAfter z os p → MomentOf z os o p r p'
