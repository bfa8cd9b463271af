-- The grammar of the orders: which words say what. Assumes nothing.
use Rattle.std.specs.Prelude.{◌≡◌, ◌≢◌, ℕ, List, [], ◌∷◌, ◌++◌, length, Option, Some, None, Result, Ok, codes, Float, ⊤}
use Rattle.std.specs.Float.{binary64}
use Rattle.std.specs.Float.Parse.{parse_float}
use Rattle.plane.specs.declared.affine.Affine.{Affine}
use Rattle.plane.specs.declared.rect.Rect.{Rect}
use Rattle.plane.specs.Affines.{nought}
use Rattle.layers.specs.declared.fault.MoveFault.{MoveFault}
use Rattle.layers.specs.Moves.{unmoved}
use Rattle.marks.specs.declared.mark.Mark.{Mark}
use Rattle.sheets.specs.declared.order.Order.{Order}
use Rattle.sheets.specs.declared.order.Order.TheVariants as calls
use Rattle.orders.specs.declared.kinds.Kind.{Kind}
use Rattle.orders.specs.declared.kinds.Kind.TheVariants as kinds
use Rattle.orders.specs.declared.line.Line.{Line}
use Rattle.orders.specs.declared.line.Line.TheVariants as lines
use Rattle.orders.specs.declared.order.PageOrder.TheVariants as orders
use Rattle.orders.specs.declared.order.Question.{Question}
use Rattle.orders.specs.declared.order.Question.TheVariants as questions
use Rattle.orders.specs.declared.order.SetPoint.{SetPoint}
use Rattle.orders.specs.declared.order.SheetOrder.{SheetOrder}
use Rattle.orders.specs.declared.order.SheetOrder.TheVariants.{Call, Set}
use Rattle.orders.specs.Words.{Text}
use Rattle.orders.specs.Values.{whole, up_to, map_of, point_of, count, rect_of, on_ok, covering, query, or_no_move, name, shape_of}
use Rattle.orders.specs.Moved.{move_of}

-- ---- numbers
abbrev pub IsNumber : Text → Float → Type 0
IsNumber w x = parse_float binary64 w ≡ Some x

abbrev pub IsPosition : Text → ℕ → Type 0
IsPosition w n = whole 64 w ≡ Some n

abbrev pub IsAllowance : Text → ℕ → Type 0
IsAllowance w n = whole 32 w ≡ Some n

abbrev pub IsSize : ℕ → Text → ℕ → Type 0
IsSize most w n = up_to most (whole 64 w) ≡ Some n

-- each word is the number in its place
abbrev pub EachNumber : List Text → List Float → Type 0
EachNumber [] [] = ⊤
EachNumber [] (x ∷ xs) = ⊥
EachNumber (w ∷ ws) [] = ⊥
EachNumber (w ∷ ws) (x ∷ xs) = IsNumber w x × EachNumber ws xs

-- n words that are these numbers
pub record Numbers (n : ℕ) (ws : List Text) (xs : List Float) : Type 0 where
  pub long : length xs ≡ n
  pub each : EachNumber ws xs

-- ---- SHAPE NUMBERS
-- a shape of any kind
pub record IsShape (ws : List Text) (m : Mark) : Type 0 where
  pub kind : Kind
  pub places : List Text
  pub values : List Float
  pub words : ws ≡ name kind ∷ places
  pub numbers : Numbers (count kind) places values
  pub shape : m ≡ shape_of kind values

-- a rectangle alone
pub record IsFrame (ws : List Text) (r : Rect) : Type 0 where
  pub places : List Text
  pub values : List Float
  pub words : ws ≡ codes "rect" ∷ places
  pub numbers : Numbers 4 places values
  pub shape : r ≡ rect_of values

-- ---- [by A B C D E F]
pub data IsBy (ws : List Text) (b : Affine) : Type 0 where
  -- nothing
  as_it_is : ws ≡ [] → b ≡ unmoved → IsBy ws b
  -- by A B C D E F
  moved_by : (ns : List Text) (xs : List Float) → ws ≡ codes "by" ∷ ns → Numbers 6 ns xs → b ≡ map_of xs → IsBy ws b

-- ---- a call to a sheet, with marks as they are spelled there; or its numbers make no move
pub data IsCall {M : Type 0} (IsMark : List Text → M → Type 0) (ws : List Text) (c : Result (Order M) MoveFault) : Type 0 where
  -- put MARK [by A B C D E F]
  put_call : (ss bs : List Text) (m : M) (b : Affine) → ws ≡ codes "put" ∷ (ss ++ bs) → IsMark ss m → IsBy bs b → c ≡ on_ok (λ v. calls.Put m v) (move_of b) → IsCall IsMark ws c
  -- shift POSITION A B C D E F
  shift_call : (w : Text) (ns : List Text) (n : ℕ) (xs : List Float) → ws ≡ codes "shift" ∷ w ∷ ns → IsPosition w n → Numbers 6 ns xs → c ≡ on_ok (λ v. calls.Shift n v) (move_of (map_of xs)) → IsCall IsMark ws c
  -- shift_all A B C D E F
  shift_all_call : (ns : List Text) (xs : List Float) → ws ≡ codes "shift_all" ∷ ns → Numbers 6 ns xs → c ≡ on_ok (λ v. calls.ShiftAll v) (move_of (map_of xs)) → IsCall IsMark ws c
  -- lift POSITION
  lift_call : (w : Text) (n : ℕ) → ws ≡ codes "lift" ∷ w ∷ [] → IsPosition w n → c ≡ Ok (calls.Lift n) → IsCall IsMark ws c
  -- winding X Y
  winding_call : (ns : List Text) (xs : List Float) → ws ≡ codes "winding" ∷ ns → Numbers 2 ns xs → c ≡ Ok (calls.Winding (point_of xs)) → IsCall IsMark ws c
  -- top X Y
  top_call : (ns : List Text) (xs : List Float) → ws ≡ codes "top" ∷ ns → Numbers 2 ns xs → c ≡ Ok (calls.Top (point_of xs)) → IsCall IsMark ws c
  -- bounding_box
  box_call : ws ≡ codes "bounding_box" ∷ [] → c ≡ Ok calls.BoundingBox → IsCall IsMark ws c
  -- draw TOLERANCE
  draw_call : (w : Text) (t : Float) → ws ≡ codes "draw" ∷ w ∷ [] → IsNumber w t → c ≡ Ok (calls.Draw t) → IsCall IsMark ws c

-- ---- the key of a set point
pub data IsKey (ws : List Text) (k : Option ℕ) : Type 0 where
  -- within POSITION
  key_within : (w : Text) (n : ℕ) → ws ≡ codes "within" ∷ w ∷ [] → IsPosition w n → k ≡ Some n → IsKey ws k
  -- outside
  key_outside : ws ≡ codes "outside" ∷ [] → k ≡ None → IsKey ws k

-- X Y KEY
pub record IsSetPoint (ws : List Text) (s : SetPoint) : Type 0 where
  pub places : List Text
  pub values : List Float
  pub after : List Text
  pub words : ws ≡ places ++ after
  pub numbers : Numbers 2 places values
  pub at : s.at ≡ point_of values
  pub key : IsKey after s.key

-- ---- an order to a sheet
pub data IsOrder {M : Type 0} (IsMark : List Text → M → Type 0) (ws : List Text) (o : Result (SheetOrder M) MoveFault) : Type 0 where
  -- a call
  call_order : (c : Result (Order M) MoveFault) → IsCall IsMark ws c → o ≡ on_ok Call c → IsOrder IsMark ws o
  -- set X Y KEY
  set_order : (ps : List Text) (s : SetPoint) → ws ≡ codes "set" ∷ ps → IsSetPoint ps s → o ≡ Ok (Set s) → IsOrder IsMark ws o

-- ---- what is asked of a covering
pub data IsQuestion (ws : List Text) (q : Question) : Type 0 where
  -- winding X Y
  ask_winding : (ns : List Text) (xs : List Float) → ws ≡ codes "winding" ∷ ns → Numbers 2 ns xs → q ≡ questions.Winding (point_of xs) → IsQuestion ws q
  -- bounding_box
  ask_box : ws ≡ codes "bounding_box" ∷ [] → q ≡ questions.BoundingBox → IsQuestion ws q
  -- draw TOLERANCE
  ask_draw : (w : Text) (t : Float) → ws ≡ codes "draw" ∷ w ∷ [] → IsNumber w t → q ≡ questions.Draw t → IsQuestion ws q

-- ---- ACCURACY and ALLOWANCE, of an ellipse alone
pub data IsEffort (ws : List Text) (k : Kind) (a : Float) (n : ℕ) : Type 0 where
  -- ACCURACY ALLOWANCE
  of_ellipse : (v w : Text) → k ≡ kinds.Ellipse → ws ≡ v ∷ w ∷ [] → IsNumber v a → IsAllowance w n → IsEffort ws k a n
  -- nothing
  of_others : k ≢ kinds.Ellipse → ws ≡ [] → a ≡ nought → n ≡ 0 → IsEffort ws k a n

-- ---- lines
pub data Says (ws : List Text) (l : Line) : Type 0 where
  -- page NAME
  page_line : (v : Text) → v ≢ [] → ws ≡ codes "page" ∷ v ∷ [] → l ≡ lines.Page (record { entries = 65536; places = 262144 }) → Says ws l
  -- page NAME ENTRIES
  entries_line : (v e : Text) (n : ℕ) → v ≢ [] → ws ≡ codes "page" ∷ v ∷ e ∷ [] → IsSize 131072 e n → l ≡ lines.Page (record { entries = n; places = 262144 }) → Says ws l
  -- page NAME ENTRIES PLACES
  places_line : (v e p : Text) (n k : ℕ) → v ≢ [] → ws ≡ codes "page" ∷ v ∷ e ∷ p ∷ [] → IsSize 131072 e n → IsSize 1048576 p k → l ≡ lines.Page (record { entries = n; places = k }) → Says ws l
  -- marks ORDER
  marks_line : (os : List Text) (o : Result (SheetOrder Mark) MoveFault) → ws ≡ codes "marks" ∷ os → IsOrder IsShape os o → l ≡ or_no_move orders.Marks o → Says ws l
  -- frames ORDER
  frames_line : (os : List Text) (o : Result (SheetOrder Rect) MoveFault) → ws ≡ codes "frames" ∷ os → IsOrder IsFrame os o → l ≡ or_no_move orders.Frames o → Says ws l
  -- set X Y KEY, which says the same as marks set X Y KEY
  set_line : (ps : List Text) (s : SetPoint) → ws ≡ codes "set" ∷ ps → IsSetPoint ps s → l ≡ lines.Order (orders.Marks (Set s)) → Says ws l
  -- measure SHAPE NUMBERS [ACCURACY ALLOWANCE]
  measure_line : (ns es : List Text) (k : Kind) (xs : List Float) (a : Float) (n : ℕ) → ws ≡ codes "measure" ∷ name k ∷ (ns ++ es) → Numbers (count k) ns xs → IsEffort es k a n
      → l ≡ lines.Order (orders.Measure (record { mark = shape_of k xs; accuracy = a; allowance = n })) → Says ws l
  -- cover SHAPE NUMBERS [by A B C D E F] over SHAPE NUMBERS [by A B C D E F] QUESTION
  cover_line : (us bs ls cs qs : List Text) (u v : Mark) (b c : Affine) (q : Question) → ws ≡ codes "cover" ∷ (us ++ (bs ++ (codes "over" ∷ (ls ++ (cs ++ qs))))) → IsShape us u → IsBy bs b → IsShape ls v → IsBy cs c → IsQuestion qs q
      → l ≡ or_no_move orders.Cover (query q (covering u b v c)) → Says ws l
