-- Paths, the paths that are well formed, and what is refused before one. Assumes nothing.
use Rattle.std.specs.Prelude.{◌≡◌, Bool, true, false, cond, ◌&&◌, T, List, [], ◌∷◌, Ok, Err, Result, from_bits, Float}
use Rattle.std.specs.Float.Ieee.{mul, lt, le}
use Rattle.std.specs.Float.{float_is_finite, binary64}
use Rattle.plane.specs.declared.bezpath.PathEl.{PathEl}
use Rattle.plane.specs.declared.bezpath.PathEl.TheVariants.{MoveTo, LineTo, QuadTo, CurveTo, ClosePath}
use Rattle.plane.specs.declared.fault.ArcFault.{ArcFault}
use Rattle.plane.specs.declared.fault.ArcFault.TheVariants as Arcs
use Rattle.plane.specs.declared.fault.ShapeFault.{ShapeFault}
use Rattle.plane.specs.declared.fault.ShapeFault.TheVariants.{Tolerance, NotFinite}

-- A path is well formed if it is a run of parts: each a `MoveTo`, then any number of `LineTo`, `QuadTo` and `CurveTo`, then at most one `ClosePath`.
-- `begun` says whether a part is begun and not yet closed: then anything may follow; else only a `MoveTo` may.
abbrev pub formed : Bool → List PathEl → Bool
formed begun [] = true
formed begun (MoveTo p ∷ els) = formed true els
formed true (LineTo p ∷ els) = formed true els
formed true (QuadTo p q ∷ els) = formed true els
formed true (CurveTo p q r ∷ els) = formed true els
formed true (ClosePath ∷ els) = formed false els
formed false (LineTo p ∷ els) = false
formed false (QuadTo p q ∷ els) = false
formed false (CurveTo p q r ∷ els) = false
formed false (ClosePath ∷ els) = false

abbrev pub Formed : List PathEl → Type 0
Formed els = T (formed false els)

-- what a shape draws: a path, or a refusal
abbrev pub Drawn : Type 0
Drawn = Result (List PathEl) ShapeFault

abbrev pub WellDrawn : Drawn → Type 0
WellDrawn (Ok els) = Formed els
WellDrawn (Err e) = Unit {0}

-- the answer of a call is what is drawn: a cursor that means the path, or the refusal
abbrev pub Answers : {C : Type 0} → (C → List PathEl) → Drawn → Result C ShapeFault → Type 0
Answers {C} rest d (Ok c) = d ≡ Ok (rest c)
Answers {C} rest d (Err e) = d ≡ Err e

-- ---- refusals that come before any path
-- a tolerance is finite, and above 0
abbrev pub tolerable : Float → Bool
tolerable t = float_is_finite t && lt (from_bits binary64 0) t

-- TOLERANCE first, then NOT FINITE, unless all parameters are finite, and then what is given else
abbrev pub checked : {A : Type 0} → Float → Bool → Result A ShapeFault → Result A ShapeFault
checked t ok d = cond (tolerable t) (cond ok d (Err NotFinite)) (Err Tolerance)

-- ---- the error that a tolerance allows
-- 1.1163 times a radius over a tolerance
abbrev pub stretched : Float → Float
stretched e = mul binary64 (from_bits binary64 0x3ff1_dc5d_6388_6595) e

-- it is at most 2 ^ 36
abbrev pub fine_enough : Float → Bool
fine_enough e = le (stretched e) (from_bits binary64 0x4230_0000_0000_0000)

abbrev pub stretched_or_too_fine : Float → Result Float ArcFault
stretched_or_too_fine e = cond (fine_enough e) (Ok (stretched e)) (Err Arcs.TooFine)
