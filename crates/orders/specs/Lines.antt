-- How a line is read from left to right, up to the first fault, of which it is said what is wrong; and what a line has before its comment. Assumes nothing.
use Rattle.std.specs.Prelude.{ℕ, if◌then◌else◌, Result, Ok, Err, ◌==◌}
use Rattle.std.specs.List.{before_first}
use Rattle.std.specs.Str.{trim, is_utf8}
use Rattle.orders.specs.declared.line.Line.{Line}
use Rattle.orders.specs.declared.line.Line.TheVariants as lines
use Rattle.orders.specs.declared.order.PageOrder.TheVariants as orders
use Rattle.orders.specs.declared.order.SheetOrder.TheVariants.{Set}
use Rattle.orders.specs.declared.order.Sizes.{Sizes}
use Rattle.orders.specs.Words.{Text, words_of}
use Rattle.orders.specs.Values.{or_no_move}
use Rattle.orders.specs.Reasons.{no_text, no_order, no_page}
use Rattle.orders.specs.Covers.{cover}
use Rattle.orders.specs.Kinds.{is, mark, frame, measured}
use Rattle.orders.specs.Runs.{◌>>=◌, Left, run, word, after, no_word, size_of}
use Rattle.orders.specs.SetPoints.{set_point}
use Rattle.orders.specs.Sheets.{order}

-- ---- pages
-- a size of `most` at most, or the usual one where none is said
unfoldable pub size_or : ℕ → ℕ → Left → Result (ℕ × Left) Text
size_or usual most s = if is (word s) "" then Ok (usual, after s) else (size_of most (word s) >>= λ n. Ok (n, after s))

-- entries, and places
unfoldable pub sizes : Left → Result Sizes Text
sizes s = do
  e ← size_or 65536 131072 s
  p ← size_or 262144 1048576 e.1
  _ ← no_word (word p.1) no_page
  Ok (record { entries = e.0; places = p.0 })

-- a name, and then the sizes
unfoldable pub page : Left → Result Sizes Text
page s = if is (word s) "" then Err no_page else sizes (after s)

-- ---- lines
-- the first word says what the others are
unfoldable pub line : Left → Result Line Text
line s =
    if is (word s) "page" then (page (after s) >>= λ z. Ok (lines.Page z))
    else (if is (word s) "marks" then (order mark (after s) >>= λ o. Ok (or_no_move orders.Marks o))
    else (if is (word s) "frames" then (order frame (after s) >>= λ o. Ok (or_no_move orders.Frames o))
    else (if is (word s) "set" then (set_point (after s) >>= λ p. Ok (lines.Order (orders.Marks (Set p))))
    else (if is (word s) "measure" then (measured (after s) >>= λ m. Ok (lines.Order (orders.Measure m)))
    else (if is (word s) "cover" then (cover (after s) >>= λ a. Ok (or_no_move orders.Cover a))
    else Err (no_order (word s)))))))

-- what a text says
unfoldable pub line_of : Text → Result Line Text
line_of t = line (run 0 (words_of t))

-- ---- comments
unfoldable pub text_of : Text → Result Text Text
text_of bytes = if is_utf8 bytes then Ok bytes else Err no_text

-- what stands before the first '#'
abbrev pub before_comment : Text → Text
before_comment bytes = before_first (λ b. b == 35) bytes

-- the same as a text, without outer white space: the comment may be no text
unfoldable pub order_of : Text → Result Text Text
order_of bytes = do
  t ← text_of (before_comment bytes)
  Ok (trim t)
