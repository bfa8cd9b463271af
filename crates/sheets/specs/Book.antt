-- The book: a plain list of rows, each a mark and all its moves, and what every call answers over it and makes of it. Assumes nothing.
use Rattle.std.specs.Prelude.{ℕ, zero, suc, ◌+◌, ◌-◌, min, Bool, cond, ◌&&◌, List, [], ◌∷◌, ◌++◌, map, length, drop, ℤ, pos, ◌+ℤ◌, ◌*ℤ◌, Some, None, Ok, Err, Option, Result, nat_le, nat_lt, Float}
use Rattle.floats.specs.Page.{on_grid, on_page}
use Rattle.plane.specs.declared.affine.Affine.{Affine}
use Rattle.plane.specs.declared.bezpath.PathEl.{PathEl}
use Rattle.plane.specs.declared.point.Point.{Point}
use Rattle.plane.specs.declared.rect.Rect.{Rect}
use Rattle.plane.specs.declared.shape.Shape.{Ghosts}
use Rattle.plane.specs.Affines.{product, image_box}
use Rattle.plane.specs.Paths.{Drawn, tolerable}
use Rattle.plane.specs.Rects.{joined, finite_sides}
use Rattle.plane.specs.Winding.{nonzero}
use Rattle.layers.specs.Moves.{unmoved, page_offset, sign, taken_back}
use Rattle.layers.specs.Placings.{placed_drawn}
use Rattle.sheets.specs.declared.fault.SheetFault.{SheetFault}
use Rattle.sheets.specs.declared.fault.SheetFault.TheVariants.{Tolerance, NotFinite, Full, NoMark, OffGrid, OffPage, TooSmall, Path}

-- what a kind of mark means: its windings, its box and its paths
pub record Marks (M : Type 0) : Type 0 where
  pub wind : M → Point → ℤ
  pub frame : M → Rect
  pub drawn : M → Float → Drawn

-- what it means by its answers as a shape
abbrev pub marks : {M P : Type 0} → Ghosts M P → Marks M
marks s = record { wind = s.wind; frame = s.frame; drawn = s.drawn }

-- a mark, and its moves, the oldest first
pub record Row (M : Type 0) : Type 0 where
  pub mark : M
  pub moves : List Affine

abbrev pub row : {M : Type 0} → M → List Affine → Row M
row m ms = record { mark = m; moves = ms }

-- ---- the moves of a row
-- p, and then the moves after it, each later one on the left
abbrev pub joined_after : Affine → List Affine → Affine
joined_after p [] = p
joined_after p (m ∷ ms) = joined_after (product m p) ms

abbrev pub product_of : List Affine → Affine
product_of [] = unmoved
product_of (m ∷ ms) = joined_after m ms

-- p taken back through the moves, the newest first
abbrev pub through : List Affine → Point → Point
through [] p = p
through (m ∷ ms) p = taken_back m (through ms p)

-- the signs of all moves, multiplied
abbrev pub signs : List Affine → ℤ
signs [] = pos 1
signs (m ∷ ms) = sign m *ℤ signs ms

-- one move more
abbrev pub moved_on : {M : Type 0} → Affine → Row M → Row M
moved_on m r = row r.mark (r.moves ++ (m ∷ []))

-- the offset of a row's product with one move more is on the page
abbrev pub stays : {M : Type 0} → Affine → Row M → Bool
stays m r = page_offset (product m (product_of r.moves))

-- ---- put
-- how many entries of a table with n entries are used at most
abbrev pub usable : ℕ → ℕ
usable n = min n 65536

abbrev pub put_answer : {M : Type 0} → Marks M → ℕ → List (Row M) → M → Result ℕ SheetFault
put_answer k n bs mark = cond (nat_lt (length bs) (usable n)) (cond (finite_sides (k.frame mark)) (Ok (length bs)) (Err NotFinite)) (Err Full)

abbrev pub put_rows : {M : Type 0} → Marks M → ℕ → List (Row M) → M → Affine → List (Row M)
put_rows k n bs mark m = cond (nat_lt (length bs) (usable n)) (cond (finite_sides (k.frame mark)) (bs ++ (row mark (m ∷ []) ∷ [])) bs) bs

-- ---- shift
abbrev pub shift_answer : {M : Type 0} → List (Row M) → ℕ → ℕ → Affine → Result ℕ SheetFault
shift_answer [] i j m = Err NoMark
shift_answer (r ∷ bs) zero j m = cond (stays m r) (Ok j) (Err (OffPage None))
shift_answer (r ∷ bs) (suc i) j m = shift_answer bs i j m

abbrev pub shift_rows : {M : Type 0} → List (Row M) → ℕ → Affine → List (Row M)
shift_rows [] i m = []
shift_rows (r ∷ bs) zero m = cond (stays m r) (moved_on m r) r ∷ bs
shift_rows (r ∷ bs) (suc i) m = r ∷ shift_rows bs i m

-- ---- shift_all
-- the lowest row that would leave the page, counted from i
abbrev pub leaving : {M : Type 0} → ℕ → List (Row M) → Affine → Option ℕ
leaving i [] m = None
leaving i (r ∷ bs) m = cond (stays m r) (leaving (i + 1) bs m) (Some i)

-- it is named, and then none is moved
abbrev pub by_lowest : ℕ → Option ℕ → Result ℕ SheetFault
by_lowest n None = Ok n
by_lowest n (Some i) = Err (OffPage (Some i))

abbrev pub by_lowest_rows : {M : Type 0} → List (Row M) → Affine → Option ℕ → List (Row M)
by_lowest_rows bs m None = map (moved_on m) bs
by_lowest_rows bs m (Some i) = bs

abbrev pub shift_all_answer : {M : Type 0} → List (Row M) → Affine → Result ℕ SheetFault
shift_all_answer bs m = by_lowest (length bs) (leaving 0 bs m)

abbrev pub shift_all_rows : {M : Type 0} → List (Row M) → Affine → List (Row M)
shift_all_rows bs m = by_lowest_rows bs m (leaving 0 bs m)

-- ---- lift
-- a list without one of its elements
abbrev pub without : {X : Type 0} → ℕ → List X → List X
without i [] = []
without zero (x ∷ xs) = xs
without (suc i) (x ∷ xs) = x ∷ without i xs

abbrev pub lift_answer : {M : Type 0} → List (Row M) → ℕ → Result ℕ SheetFault
lift_answer bs i = cond (nat_lt i (length bs)) (Ok (length bs - 1)) (Err NoMark)

abbrev pub lift_rows : {M : Type 0} → List (Row M) → ℕ → List (Row M)
lift_rows bs i = without i bs

-- ---- questions at a point
-- what is answered at a page point, and what elsewhere is refused
abbrev pub at_page_point : {X : Type 0} → Point → X → Result X SheetFault
at_page_point p x = cond (on_grid p.x && on_grid p.y) (cond (on_page p.x && on_page p.y) (Ok x) (Err (OffPage None))) (Err OffGrid)

-- what a row gives at a page point
abbrev pub gives : {M : Type 0} → Marks M → Point → Row M → ℤ
gives k p r = signs r.moves *ℤ k.wind r.mark (through r.moves p)

abbrev pub total : {M : Type 0} → Marks M → Point → List (Row M) → ℤ
total k p [] = pos 0
total k p (r ∷ bs) = gives k p r +ℤ total k p bs

-- the position of the highest row that gives anything but 0, or nothing
abbrev pub above : Option ℕ → Bool → Option ℕ
above None held = cond held (Some 0) None
above (Some i) held = Some (i + 1)

abbrev pub highest : {M : Type 0} → Marks M → Point → List (Row M) → Option ℕ
highest k p [] = None
highest k p (r ∷ bs) = above (highest k p bs) (nonzero (gives k p r))

-- ---- bounding_box
abbrev pub moved_box : {M : Type 0} → Marks M → Row M → Rect
moved_box k r = image_box (product_of r.moves) (k.frame r.mark)

abbrev pub union_from : {M : Type 0} → Marks M → Rect → List (Row M) → Rect
union_from k b [] = b
union_from k b (r ∷ bs) = union_from k (joined b (moved_box k r)) bs

abbrev pub union_of : {M : Type 0} → Marks M → List (Row M) → Option Rect
union_of k [] = None
union_of k (r ∷ bs) = Some (union_from k (moved_box k r) bs)

-- ---- draw
-- a row's path, its points moved by the product; or its refusal
abbrev pub row_drawn : {M : Type 0} → Marks M → Float → Row M → Drawn
row_drawn k t r = placed_drawn (product_of r.moves) (k.drawn r.mark t)

abbrev pub Inked : Type 0
Inked = Result (List PathEl) SheetFault

-- what is drawn so far, and one row more, at the position i
abbrev pub then_drawn : ℕ → Inked → Drawn → Inked
then_drawn i (Err f) d = Err f
then_drawn i (Ok els) (Ok more) = Ok (els ++ more)
then_drawn i (Ok els) (Err f) = Err (Path (record { position = i; fault = f }))

abbrev pub drawn_from : {M : Type 0} → Marks M → Float → ℕ → Inked → List (Row M) → Inked
drawn_from k t i so [] = so
drawn_from k t i so (r ∷ bs) = drawn_from k t (i + 1) (then_drawn i so (row_drawn k t r)) bs

-- the paths of all rows, lowest first, or the lowest refusal
abbrev pub all_drawn : {M : Type 0} → Marks M → Float → List (Row M) → Inked
all_drawn k t bs = cond (tolerable t) (drawn_from k t 0 (Ok []) bs) (Err Tolerance)

-- the answer where there are so many places, and the buffer afterwards
abbrev pub draw_answer : ℕ → Inked → Result ℕ SheetFault
draw_answer places (Ok els) = cond (nat_le (length els) places) (Ok (length els)) (Err TooSmall)
draw_answer places (Err f) = Err f

abbrev pub draw_buffer : List PathEl → Inked → List PathEl
draw_buffer buffer (Ok els) = cond (nat_le (length els) (length buffer)) (els ++ drop (length els) buffer) buffer
draw_buffer buffer (Err f) = buffer
