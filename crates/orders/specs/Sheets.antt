-- How the orders to a sheet are read from left to right, for any kind of mark, up to the first fault, of which it is said what is wrong. Assumes nothing.
use Rattle.std.specs.Prelude.{ℕ, if◌then◌else◌, Result, Ok, Err, Float}
use Rattle.plane.specs.declared.affine.Affine.{Affine}
use Rattle.plane.specs.declared.point.Point.{Point}
use Rattle.layers.specs.declared.fault.MoveFault.{MoveFault}
use Rattle.layers.specs.Moves.{unmoved}
use Rattle.sheets.specs.declared.order.Order.{Order}
use Rattle.sheets.specs.declared.order.Order.TheVariants.{Put, Shift, ShiftAll, Lift, Winding, Top, BoundingBox, Draw}
use Rattle.orders.specs.declared.order.SheetOrder.{SheetOrder}
use Rattle.orders.specs.declared.order.SheetOrder.TheVariants.{Call, Set}
use Rattle.orders.specs.Words.{Text}
use Rattle.orders.specs.Reasons.{no_order}
use Rattle.orders.specs.Kinds.{is}
use Rattle.orders.specs.Runs.{◌>>=◌, Left, run, word, after, no_word, end, number, position, six, two}
use Rattle.orders.specs.Moved.{move_of}
use Rattle.orders.specs.SetPoints.{set_point}
use Rattle.orders.specs.Values.{on_ok}

-- ---- a mark and its move
-- a mark, the numbers of its move, and the word after them, or ''
pub record Placement (M : Type 0) : Type 0 where
  pub mark : M
  pub by : Affine
  pub next : Text

abbrev pub placement : {M : Type 0} → M → Affine → Text → Placement M
placement m b w = record { mark = m; by = b; next = w }

-- after a mark: `by` and the six numbers of a move, or else the mark lies as it is
unfoldable pub moved : {M : Type 0} → M → Left → Result (Placement M × Left) Text
moved m s =
    if is (word s) "by" then (six (run 6 (after s).words) >>= λ b. Ok (placement m b.0 (word b.1), after b.1))
    else Ok (placement m unmoved (word s), after s)

unfoldable pub placed : {M : Type 0} → (Left → Result (M × Left) Text) → Left → Result (Placement M × Left) Text
placed reads s = do
  m ← reads s
  moved m.0 m.1

-- ---- what ends a line
-- a position
unfoldable pub last_position : Left → Result ℕ Text
last_position s = do
  n ← position (run 1 s.words)
  _ ← end n.1
  Ok n.0

-- a point
unfoldable pub last_point : Left → Result Point Text
last_point s = do
  p ← two s
  _ ← end p.1
  Ok p.0

-- a tolerance
unfoldable pub last_tolerance : Left → Result Float Text
last_tolerance s = do
  t ← number (run 1 s.words)
  _ ← end t.1
  Ok t.0

-- ---- the calls: each is made, or its numbers make no move
abbrev pub Called : Type 0 → Type 0
Called M = Result (Result (Order M) MoveFault) Text

unfoldable pub put : {M : Type 0} → (Left → Result (M × Left) Text) → Left → Called M
put reads s = do
  p ← placed reads s
  _ ← no_word p.0.next p.1.miscount
  Ok (on_ok (λ b. Put p.0.mark b) (move_of p.0.by))

unfoldable pub shift : {M : Type 0} → Left → Called M
shift s = do
  n ← position (run 7 s.words)
  b ← six n.1
  _ ← end b.1
  Ok (on_ok (λ m. Shift n.0 m) (move_of b.0))

unfoldable pub shift_all : {M : Type 0} → Left → Called M
shift_all s = do
  b ← six (run 6 s.words)
  _ ← end b.1
  Ok (on_ok (λ m. ShiftAll m) (move_of b.0))

-- by the word that names it
unfoldable pub call : {M : Type 0} → (Left → Result (M × Left) Text) → Text → Left → Called M
call reads w s =
    if is w "put" then put reads s
    else (if is w "shift" then shift s
    else (if is w "shift_all" then shift_all s
    else (if is w "lift" then (last_position s >>= λ n. Ok (Ok (Lift n)))
    else (if is w "winding" then (last_point s >>= λ p. Ok (Ok (Winding p)))
    else (if is w "top" then (last_point s >>= λ p. Ok (Ok (Top p)))
    else (if is w "bounding_box" then (end (run 0 s.words) >>= λ _. Ok (Ok BoundingBox))
    else (if is w "draw" then (last_tolerance s >>= λ t. Ok (Ok (Draw t)))
    else Err (no_order w))))))))

-- ---- the orders: a set point, or a call
unfoldable pub order : {M : Type 0} → (Left → Result (M × Left) Text) → Left → Result (Result (SheetOrder M) MoveFault) Text
order reads s =
    if is (word s) "set" then (set_point (after s) >>= λ p. Ok (Ok (Set p)))
    else (call reads (word s) (after s) >>= λ c. Ok (on_ok Call c))
