-- Lines that are taken in turn. Assumes nothing.
use Rattle.std.proofs.Common.{◌≡◌, ℕ, ◌<◌, Bool, true, false, List, [], ◌∷◌, ◌++◌, length, Option, Some, None, Result, Ok, Err, refl, sym, subst, inl, inr}
use Rattle.std.specs.Prelude.{IfSome, OnOk, is_ok}
use Rattle.std.specs.Io.BufRead.{first_piece, drop_through}
use Rattle.std.specs.Io.Iter.{YieldsKnownPiece}
use Rattle.std.specs.Io.KnownBytes.{IsAtEnd}
use Rattle.std.proofs.lemmas.Fn.{FoldsTo-push}
use Rattle.cases.specs.Lines.{LinesUpTo, FirstLinesOf, LinesOf, AllTaken, TakenInTurn}

one_line_more : (bs left : List ℕ) (lines : List (List ℕ)) (line : List ℕ) → LinesUpTo bs lines left → 0 < length left → line ≡ first_piece 10 left → LinesUpTo bs (lines ++ (line ∷ [])) (drop_through 10 left)
one_line_more bs left [] line same some first =
    let P : List ℕ → Type 0 = λ xs. (0 < length xs) × (line ≡ first_piece 10 xs) × (drop_through 10 xs ≡ drop_through 10 left) in
    subst P (sym same) (some, first, refl)
one_line_more bs left (l ∷ lines) line h some first = (h.0, h.1, one_line_more (drop_through 10 bs) left lines line h.2 some first)

-- where the bytes are known: these are their first lines, and what is left stands behind them
abbrev Begins : Option (List ℕ) → Option (List ℕ) → List (List ℕ) → Type 0
Begins known left lines = IfSome known (λ bs. (xs : List ℕ) × (left ≡ Some xs) × LinesUpTo bs lines xs)

-- some lines took the first state to this one
abbrev pub IsUnderWay : {T : Type 0} → (T → List ℕ → Bool → T → Type 0) → Option (List ℕ) → T → Option (List ℕ) → T → Type 0
IsUnderWay takes known first left now = (lines : List (List ℕ)) × AllTaken takes first lines now × Begins known left lines

pub starts : {T : Type 0} (takes : T → List ℕ → Bool → T → Type 0) (known left : Option (List ℕ)) (first : T) → left ≡ known → IsUnderWay takes known first left first
starts takes (Some bs) left first e = ([], refl, (bs, e, refl))
starts takes None left first e = ([], refl, tt)

begins_more : {X : Type 0} (bytes : X → List ℕ) (known left later : Option (List ℕ)) (lines : List (List ℕ)) (x : X) → Begins known left lines → YieldsKnownPiece {E = Unit {0}} bytes (first_piece 10) 10 left (Some (Ok x)) later → Begins known later (lines ++ (bytes x ∷ []))
begins_more bytes None left later lines x h y = tt
begins_more bytes (Some bs) left later lines x h y =
    let e = h.1 in
    let piece = rw e at y in
    (drop_through 10 h.0, piece.1, one_line_more bs h.0 lines (bytes x) h.2 piece.0.0 piece.0.1)

pub goes_on : {T X : Type 0} (takes : T → List ℕ → Bool → T → Type 0) (bytes : X → List ℕ) (known left later : Option (List ℕ)) (first now next : T) (x : X) → IsUnderWay takes known first left now → YieldsKnownPiece {E = Unit {0}} bytes (first_piece 10) 10 left (Some (Ok x)) later → takes now (bytes x) true next → IsUnderWay takes known first later next
goes_on takes bytes known left later first now next x h y t = (h.0 ++ (bytes x ∷ []), FoldsTo-push _ first h.0 now (bytes x) next h.1 t, begins_more bytes known left later h.0 x h.2 y)

first_lines : (known left : Option (List ℕ)) (lines : List (List ℕ)) → Begins known left lines → IfSome known (λ bs. FirstLinesOf bs lines)
first_lines None left lines h = tt
first_lines (Some bs) left lines h = (h.0, h.2)

all_lines : (known left : Option (List ℕ)) (lines : List (List ℕ)) → Begins known left lines → IsAtEnd left → IfSome known (λ bs. LinesOf bs lines)
all_lines None left lines h e = tt
all_lines (Some bs) left lines h e = let q = h.1 in let none = rw q at e in rw none at h.2

-- what is left of it as it ends: it took some of the first lines, and where it ended well all of them
abbrev pub HasTaken : {T E : Type 0} → (T → List ℕ → Bool → T → Type 0) → Option (List ℕ) → T → Result (Unit {0}) E → T → Type 0
HasTaken takes known first r last = (lines : List (List ℕ)) × TakenInTurn takes first lines (is_ok r) last × IfSome known (λ bs. FirstLinesOf bs lines) × OnOk r (IfSome known (λ bs. LinesOf bs lines))

-- no line more came
pub stops_before : {T E : Type 0} (takes : T → List ℕ → Bool → T → Type 0) (known left : Option (List ℕ)) (first now : T) (r : Result (Unit {0}) E) → IsUnderWay takes known first left now → is_ok r ≡ false → HasTaken takes known first r now
stops_before takes known left first now (Ok u) h e = cc
stops_before takes known left first now (Err f) h e = (h.0, inl h.1, first_lines known left h.0 h.2, tt)

-- a line more came, and was not taken well
pub stops_at : {T X E : Type 0} (takes : T → List ℕ → Bool → T → Type 0) (bytes : X → List ℕ) (known left later : Option (List ℕ)) (first now next : T) (x : X) (r : Result (Unit {0}) E) → IsUnderWay takes known first left now → YieldsKnownPiece {E = Unit {0}} bytes (first_piece 10) 10 left (Some (Ok x)) later → takes now (bytes x) false next → is_ok r ≡ false → HasTaken takes known first r next
stops_at takes bytes known left later first now next x (Ok u) h y t e = cc
stops_at takes bytes known left later first now next x (Err f) h y t e =
    let lines = h.0 ++ (bytes x ∷ []) in
    (lines, inr (h.0, bytes x, now, refl, h.1, t), first_lines known later lines (begins_more bytes known left later h.0 x h.2 y), tt)

-- no byte is left
pub takes_all : {T : Type 0} (takes : T → List ℕ → Bool → T → Type 0) (known left : Option (List ℕ)) (first now : T) → IsUnderWay takes known first left now → IsAtEnd left
    → (lines : List (List ℕ)) × AllTaken takes first lines now × IfSome known (λ bs. FirstLinesOf bs lines) × IfSome known (λ bs. LinesOf bs lines)
takes_all takes known left first now h e = (h.0, h.1, first_lines known left h.0 h.2, all_lines known left h.0 h.2 e)
