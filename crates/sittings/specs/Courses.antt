-- A sitting as it goes on, by the grammar and two books: what each line makes of it. Assumes nothing.
use Rattle.std.specs.Prelude.{ℕ, ◌++◌, true, cond, nat_eq, List, [], ◌∷◌, Result, Ok, Err, take, drop, codes, decimal}
use Rattle.std.specs.Str.{bytes_eq}
use Rattle.exam.specs.Moments.{no_sizes}
use Rattle.exam.specs.Pages.{reply_to}
use Rattle.exam.specs.Replies.{is_refused, is_right}
use Rattle.exam.specs.declared.reply.Reply.{Reply}
use Rattle.orders.specs.declared.line.Line.{Line}
use Rattle.orders.specs.declared.line.Line.TheVariants as lines
use Rattle.orders.specs.declared.unreadable.Intent.{Intent}
use Rattle.orders.specs.declared.unreadable.Intent.TheVariants as intents
use Rattle.orders.specs.declared.order.PageOrder.{PageOrder}
use Rattle.orders.specs.declared.order.Sizes.{Sizes}
use Rattle.orders.specs.Words.{Text, words_of}
use Rattle.orders.specs.Lines.{order_of, line_of}
use Rattle.orders.specs.Runs.{second_of}
use Rattle.orders.specs.Intents.{intent_of}
use Rattle.orders.specs.Escapes.{escaped}
use Rattle.sittings.specs.declared.progress.Progress.{Progress}
use Rattle.sittings.specs.declared.progress.Standing.{Standing}
use Rattle.sittings.specs.declared.progress.Standing.TheVariants.{NoPage, Marked, Unmarked}
use Rattle.sittings.specs.Progresses.{start, over}
use Rattle.sittings.specs.Tallies.{none_yet, one_more, is_point, with_page, with_page_line, with_order, with_unreadable, with_not_marked}

-- The course of a sitting: what is known of it. The sizes and the orders are those of the page that was opened last.
pub record Course : Type 0 where
  pub progress : Progress
  pub name : Text
  pub sizes : Sizes
  pub orders : List PageOrder

-- before the first line
abbrev pub fresh : Course
fresh = record { progress = start; name = []; sizes = no_sizes; orders = [] }

abbrev pub usual : Sizes
usual = record { entries = 65536; places = 262144 }

-- what a page without a name of its own is called
abbrev pub line_name : ℕ → Text
line_name n = codes "line " ++ decimal n

-- ---- pages
-- a page that ends is counted
abbrev pub ended : Course → Course
ended s = record s { progress = over s.progress }

-- a page begins, with both sheets empty
abbrev pub turned : Sizes → Text → Course → Course
turned z name s = record {
  progress = record (over s.progress) { standing = Marked; page = with_page_line none_yet };
  name = name;
  sizes = z;
  orders = [];
}

-- orders before the first page have one of the usual sizes, which has counted what came before them
abbrev pub begun : Course → Course
begun s = record {
  progress = record s.progress { standing = Marked; page = with_page s.progress.page };
  name = line_name s.progress.lines;
  sizes = usual;
  orders = [];
}

-- ---- an order
abbrev pub reply_in : Course → PageOrder → Reply
reply_in s o = reply_to s.sizes.entries s.sizes.places s.orders o

-- it is carried out, and counted with its answer
abbrev pub counted : PageOrder → Reply → Progress → Progress
counted o r p = record p { page = with_order (is_point o) p.in_doubt (is_refused r) (is_right r) p.page }

abbrev pub carried : PageOrder → Course → Course
carried o s = record s { progress = counted o (reply_in s o) s.progress; orders = s.orders ++ (o ∷ []) }

abbrev pub not_marked : Course → Course
not_marked s = record s { progress = record s.progress { page = with_not_marked s.progress.page } }

abbrev pub obeyed_on : Standing → PageOrder → Course → Course
obeyed_on Marked o s = carried o s
obeyed_on NoPage o s = carried o (begun s)
obeyed_on Unmarked o s = not_marked s

abbrev pub obeyed : PageOrder → Course → Course
obeyed o s = obeyed_on s.progress.standing o s

-- ---- a line that cannot be read
-- a page line begins a page on which nothing is marked
abbrev pub unmarked : Course → Course
unmarked s = record s {
  progress = record (over s.progress) { standing = Unmarked; page = with_page none_yet };
  name = line_name s.progress.lines;
}

-- an order that may have been meant to alter a sheet leaves doubt
abbrev pub meant : Intent → Course → Course
meant intents.Page s = unmarked s
meant intents.Change s = record s { progress = record s.progress { in_doubt = true } }
meant intents.Question s = s

abbrev pub passed_over : Intent → Course → Course
passed_over i s = let m = meant i s in record m { progress = record m.progress { page = with_unreadable m.progress.page } }

-- ---- a line
abbrev pub followed : Text → Line → Course → Course
followed text (lines.Page z) s = turned z (escaped (second_of (words_of text))) s
followed text (lines.Order o) s = obeyed o s

abbrev pub read_as : Text → Text → Result Line Text → Course → Course
read_as bytes text (Ok l) s = followed text l s
read_as bytes text (Err why) s = passed_over (intent_of bytes) s

-- a line without an order leaves everything as it is
abbrev pub taken_as : Text → Result Text Text → Course → Course
taken_as bytes (Ok []) s = s
taken_as bytes (Ok (b ∷ bs)) s = read_as bytes (b ∷ bs) (line_of (b ∷ bs)) s
taken_as bytes (Err why) s = passed_over (intent_of bytes) s

-- a byte order mark at the start of a file is skipped
abbrev pub byte_order_mark : Text
byte_order_mark = 239 ∷ 187 ∷ 191 ∷ []

abbrev pub without_byte_order_mark : ℕ → Text → Text
without_byte_order_mark n line = cond (nat_eq n 0) (cond (bytes_eq (take 3 line) byte_order_mark) (drop 3 line) line) line

-- one line more is counted
abbrev pub with_line_counted : Progress → Progress
with_line_counted p = record p { lines = one_more p.lines }

abbrev pub come : Course → Course
come s = record s { progress = with_line_counted s.progress }

abbrev pub with_line : Text → Course → Course
with_line line s = taken_as (without_byte_order_mark s.progress.lines line) (order_of (without_byte_order_mark s.progress.lines line)) (come s)

-- ---- a sitting
-- a line, or the end of a file
pub data Input : Type 0 where
  next_line : Text → Input
  file_end : Input

-- the lines of the next file count from 1 again
abbrev pub at_file_end : Course → Course
at_file_end s = record (ended s) { progress = record (over s.progress) { lines = 0 } }

abbrev pub after_input : Input → Course → Course
after_input (next_line line) s = with_line line s
after_input file_end s = at_file_end s

abbrev pub course_from : Course → List Input → Course
course_from s [] = s
course_from s (i ∷ is) = course_from (after_input i s) is

-- what is known after these lines
abbrev pub course : List Input → Course
course is = course_from fresh is
