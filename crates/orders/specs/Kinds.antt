-- How shapes are read from left to right, up to the first fault, of which it is said what is wrong. Assumes nothing.
use Rattle.std.specs.Prelude.{ℕ, Bool, if◌then◌else◌, Result, Ok, Err, bytes_eq, codes, Float}
use Prim.Native.String.{String}
use Rattle.plane.specs.declared.rect.Rect.{Rect}
use Rattle.plane.specs.Affines.{nought}
use Rattle.marks.specs.declared.mark.Mark.{Mark}
use Rattle.marks.specs.declared.mark.Mark.TheVariants as marks
use Rattle.orders.specs.declared.kinds.Kind.{Kind}
use Rattle.orders.specs.declared.kinds.Kind.TheVariants as kinds
use Rattle.orders.specs.declared.order.Measured.{Measured}
use Rattle.orders.specs.Words.{Text}
use Rattle.orders.specs.Reasons.{no_shape}
use Rattle.orders.specs.Runs.{◌>>=◌, Left, run, word, after, end, number, allowance, made_of}
use Rattle.orders.specs.Values.{count, rect_of, circle_of, triangle_of, rounded_of, ellipse_of}

-- w is this word
abbrev pub is : Text → String → Bool
is w k = bytes_eq w (codes k)

-- ---- shapes
unfoldable pub kind_of : Text → Result Kind Text
kind_of w =
    if is w "rect" then Ok kinds.Rect
    else (if is w "circle" then Ok kinds.Circle
    else (if is w "triangle" then Ok kinds.Triangle
    else (if is w "rounded" then Ok kinds.RoundedRect
    else (if is w "ellipse" then Ok kinds.Ellipse else Err (no_shape w)))))

-- two opposite corners
unfoldable pub rectangle : Left → Result (Rect × Left) Text
rectangle s = made_of 4 rect_of s

-- the shape with the next numbers of a run
unfoldable pub shape : Kind → Left → Result (Mark × Left) Text
shape kinds.Rect s = do
  m ← rectangle s
  Ok (marks.Rect m.0, m.1)
shape kinds.Circle s = do
  m ← made_of 3 circle_of s
  Ok (marks.Circle m.0, m.1)
shape kinds.Triangle s = do
  m ← made_of 6 triangle_of s
  Ok (marks.Triangle m.0, m.1)
shape kinds.RoundedRect s = do
  m ← made_of 8 rounded_of s
  Ok (marks.RoundedRect m.0, m.1)
shape kinds.Ellipse s = do
  m ← made_of 5 ellipse_of s
  Ok (marks.Ellipse m.0, m.1)

-- a mark of any kind
unfoldable pub mark : Left → Result (Mark × Left) Text
mark s = do
  k ← kind_of (word s)
  shape k (run (count k) (after s).words)

-- a frame, which is a rectangle
unfoldable pub frame : Left → Result (Rect × Left) Text
frame s = if is (word s) "rect" then rectangle (run 4 (after s).words) else Err (no_shape (word s))

-- a shape to be measured: an ellipse has an accuracy and an allowance of steps after its numbers
unfoldable pub measured_count : Kind → ℕ
measured_count kinds.Rect = 4
measured_count kinds.Circle = 3
measured_count kinds.Triangle = 6
measured_count kinds.RoundedRect = 8
measured_count kinds.Ellipse = 7

unfoldable pub effort : Kind → Left → Result ((Float × ℕ) × Left) Text
effort kinds.Rect s = Ok ((nought, 0), s)
effort kinds.Circle s = Ok ((nought, 0), s)
effort kinds.Triangle s = Ok ((nought, 0), s)
effort kinds.RoundedRect s = Ok ((nought, 0), s)
effort kinds.Ellipse s = do
  a ← number s
  n ← allowance a.1
  Ok ((a.0, n.0), n.1)

unfoldable pub measured_as : Kind → Left → Result Measured Text
measured_as k s = do
  m ← shape k s
  e ← effort k m.1
  _ ← end e.1
  Ok (record { mark = m.0; accuracy = e.0.0; allowance = e.0.1 })

unfoldable pub measured : Left → Result Measured Text
measured s = do
  k ← kind_of (word s)
  measured_as k (run (measured_count k) (after s).words)
