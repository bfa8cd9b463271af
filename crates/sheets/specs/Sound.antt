-- What the rows of a book that began empty mean: where marks lie, which is uppermost, and what a drawing is. Assumes nothing.
use Rattle.std.specs.Prelude.{◌≡◌, ℕ, zero, suc, ◌&&◌, T, ◌⊎◌, List, [], ◌∷◌, ◌++◌, map, pos, Some, None, Ok, Option, ◌≢◌, Float}
use Rattle.floats.specs.Page.{on_grid, on_page}
use Rattle.plane.specs.declared.bezpath.PathEl.{PathEl}
use Rattle.plane.specs.declared.point.Point.{Point}
use Rattle.plane.specs.declared.rect.Rect.{Rect}
use Rattle.plane.specs.Affines.{image_el}
use Rattle.plane.specs.Paths.{Formed}
use Rattle.plane.specs.Points.{InBox}
use Rattle.sheets.specs.Book.{Marks, Row, product_of, gives, highest, union_of, all_drawn}

-- p has grid numbers on the page
abbrev pub OnThePage : Point → Type 0
OnThePage p = T (on_grid p.x && on_grid p.y) × T (on_page p.x && on_page p.y)

-- ---- where marks lie
-- some row gives anything but 0 at p
abbrev pub Holds : {M : Type 0} → Marks M → Point → List (Row M) → Type 0
Holds k p [] = ⊥
Holds k p (r ∷ bs) = (gives k p r ≢ pos 0) ⊎ Holds k p bs

-- no row does
abbrev pub HoldsNone : {M : Type 0} → Marks M → Point → List (Row M) → Type 0
HoldsNone k p [] = Unit {0}
HoldsNone k p (r ∷ bs) = (gives k p r ≡ pos 0) × HoldsNone k p bs

-- the row at i does, and none above it
abbrev pub HighestAt : {M : Type 0} → Marks M → Point → List (Row M) → ℕ → Type 0
HighestAt k p [] i = ⊥
HighestAt k p (r ∷ bs) zero = (gives k p r ≢ pos 0) × HoldsNone k p bs
HighestAt k p (r ∷ bs) (suc i) = HighestAt k p bs i

abbrev pub Uppermost : {M : Type 0} → Marks M → Point → List (Row M) → Option ℕ → Type 0
Uppermost k p bs None = HoldsNone k p bs
Uppermost k p bs (Some i) = HighestAt k p bs i

-- ---- what a drawing is
-- lowest mark first, each mark's own path with its points carried by the product of its moves
abbrev pub Pieces : {M : Type 0} → Marks M → Float → List (Row M) → List PathEl → Type 0
Pieces k t [] els = els ≡ []
Pieces k t (r ∷ bs) els =
    (own rest : List PathEl) × (k.drawn r.mark t ≡ Ok own) × (els ≡ map (image_el (product_of r.moves)) own ++ rest) × Pieces k t bs rest

-- ---- all of it
pub record Sound {M : Type 0} (k : Marks M) (bs : List (Row M)) : Type 0 where
  pub boxed : (p : Point) → OnThePage p → Holds k p bs → (b : Rect) × (union_of k bs ≡ Some b) × InBox b p
  pub topped : (p : Point) → OnThePage p → Uppermost k p bs (highest k p bs)
  pub drawn : (t : Float) (els : List PathEl) → all_drawn k t bs ≡ Ok els → Pieces k t bs els × Formed els
