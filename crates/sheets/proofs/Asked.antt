-- Questions over the entries: what one entry gives, how each loop goes on, and that the answers are the book's. Assumes nothing.
use Rattle.std.proofs.Common.{◌≡◌, ℕ, zero, suc, ◌+◌, ◌<◌, ◌≤◌, Bool, true, false, cond, ◌&&◌, List, [], ◌∷◌, ◌++◌, map, length, get_or, take, ℤ, pos, negsuc, ◌+ℤ◌, ◌*ℤ◌, neg_ℤ, ◌≤ℤ◌, Some, None, Ok, Err, Option, Result, sym, refl, ap, ◌∙◌, subst, inl, inr, arith, w32, SFits, to_z, of_z}
use lib.IntN.{one, +ℤ_idl, +ℤ_idr, +ℤ_assoc, *ℤ-one}
use lib.Ieee.{lt}
use Rattle.std.proofs.lemmas.List.{take_more, map-append}
use Rattle.std.proofs.lemmas.Int.{ints}
use Rattle.floats.specs.Page.{on_grid, on_page}
use Rattle.plane.specs.declared.affine.Affine.{Affine}
use Rattle.plane.specs.declared.point.Point.{Point}
use Rattle.plane.specs.declared.rect.Rect.{Rect}
use Rattle.plane.specs.Affines.{nought, det}
use Rattle.plane.specs.Rects.{joined}
use Rattle.plane.specs.Winding.{IsWinding, nonzero}
use Rattle.layers.specs.Moves.{read_as, sign, taken_back}
use Rattle.sheets.specs.declared.fault.SheetFault.{SheetFault}
use Rattle.sheets.specs.declared.fault.SheetFault.TheVariants.{OffGrid, OffPage}
use Rattle.sheets.specs.declared.sheet.Entry.{Entry}
use Rattle.sheets.specs.declared.sheet.Sheet.{Sheet}
use Rattle.sheets.specs.Book.{Marks, Row, row, at_page_point, gives, total, highest, moved_box, union_from, union_of}
use Rattle.sheets.specs.Tables.{used, rows, row_of, AnsweredByBook}
use Rattle.sheets.proofs.Agree.{SameWindings, at_page, total_agree, highest_agree, union_agree}

-- ---- the test of a point
-- the answer by two tests
abbrev by_tests : {X : Type 0} → Bool → Bool → X → Result X SheetFault
by_tests a b x = cond a (cond b (Ok x) (Err (OffPage None))) (Err OffGrid)

module _ {X Y : Type 0} (p : Point) (x : X) (y : Y) where
  -- where one answer is granted, so is another
  pub granted_alike : Ok x ≡ at_page_point p x → Ok y ≡ at_page_point p y
  granted_alike = go (on_grid p.x && on_grid p.y) (on_page p.x && on_page p.y)
    where
      go : (a b : Bool) → Ok x ≡ by_tests a b x → Ok y ≡ by_tests a b y
      go true true e = refl
      go true false e = absurd (grind arith)
      go false b e = absurd (grind arith)

  -- and where one is refused, so is another
  pub refused_alike : (f : SheetFault) → Err f ≡ at_page_point p x → Err f ≡ at_page_point p y
  refused_alike f = go (on_grid p.x && on_grid p.y) (on_page p.x && on_page p.y)
    where
      go : (a b : Bool) → Err f ≡ by_tests a b x → Err f ≡ by_tests a b y
      go true true e = absurd (grind arith)
      go true false e = ap Err (let z : f ≡ OffPage None = cc in z)
      go false b e = ap Err (let z : f ≡ OffGrid = cc in z)

-- ---- one more entry
pub rows_more : {M : Type 0} (t : List (Entry M)) (i : ℕ) (e : Entry M) → i < length t → e ≡ get_or t i e → map row_of (take (i + 1) t) ≡ map row_of (take i t) ++ (row_of e ∷ [])
rows_more {M} t i e h r = ap (map row_of) (take_more t i e h ∙ ap (λ (d : Entry M). take i t ++ (d ∷ [])) (sym r)) ∙ map-append row_of (take i t) (e ∷ [])

-- z lies between -n and n
abbrev pub Within : ℕ → ℤ → Type 0
Within n z = (neg_ℤ (pos n) ≤ℤ z) × (z ≤ℤ pos n)

signed_within : (s : Bool) (w : ℤ) → IsWinding w → Within 1 ((cond s (negsuc 0) (pos 1) *ℤ pos 1) *ℤ w)
signed_within true w (inl e) = (omega (arith, ints), omega (arith, ints))
signed_within true w (inr (inl e)) = (omega (arith, ints), omega (arith, ints))
signed_within true w (inr (inr e)) = (omega (arith, ints), omega (arith, ints))
signed_within false w (inl e) = (omega (arith, ints), omega (arith, ints))
signed_within false w (inr (inl e)) = (omega (arith, ints), omega (arith, ints))
signed_within false w (inr (inr e)) = (omega (arith, ints), omega (arith, ints))

-- windings are -1, 0 or 1
abbrev pub SmallWindings : {M : Type 0} → Marks M → Type 0
SmallWindings {M} k = (m : M) (p : Point) → IsWinding (k.wind m p)

sum_within : (n : ℕ) (a b : ℤ) → Within 1 a → Within n b → Within (suc n) (a +ℤ b)
sum_within n a b h k = (omega (arith, ints), omega (arith, ints))

-- the machine's sum of a total and what one more entry gives
pub sum_fits : {a : ℤ} (n : ℕ) (b c d : ℤ) → a ≡ c → b ≡ d → Within n c → Within 1 d → n ≤ 65536 → SFits w32 (a +ℤ to_z w32 (of_z w32 b))
sum_fits n b c d e f C D l = omega (arith, ints)

pub sum_is : {a : ℤ} (n : ℕ) (b c d : ℤ) → a ≡ c → b ≡ d → Within n c → Within 1 d → n ≤ 65536 → to_z w32 (of_z w32 (a +ℤ to_z w32 (of_z w32 b))) ≡ c +ℤ d
sum_is n b c d e f C D l = omega (arith, ints)

-- the machine's test for 0
pub told_zero : (z w : ℤ) → z ≡ w → Within 1 w → of_z w32 z ≡ 0 → false ≡ nonzero w
told_zero z w e h q = go w h (subst (λ (u : ℤ). of_z w32 u ≡ 0) e q)
  where
    go : (u : ℤ) → Within 1 u → of_z w32 u ≡ 0 → false ≡ nonzero u
    go (pos zero) l r = refl
    go (pos (suc n)) l r = absurd (let w : suc n ≡ 0 = r in omega arith)
    go (negsuc n) l r = absurd (omega (arith, ints))

pub told_nonzero : (z w : ℤ) → z ≡ w → (of_z w32 z ≡ 0 → ⊥) → true ≡ nonzero w
told_nonzero z w e h = go w (subst (λ (u : ℤ). of_z w32 u ≡ 0 → ⊥) e h)
  where
    go : (u : ℤ) → (of_z w32 u ≡ 0 → ⊥) → true ≡ nonzero u
    go (pos zero) l = absurd (l refl)
    go (pos (suc n)) l = refl
    go (negsuc n) l = refl

times_one : (z : ℤ) → z ≡ z *ℤ pos 1
unfolding one
times_one z = sym (*ℤ-one z)

module _ {M : Type 0} (k : Marks M) where
  -- ---- what an entry gives
  pub gives_at : (mark : M) (m n : Affine) (p q : Point) (s w : ℤ) → m ≡ n → q ≡ taken_back m p → s ≡ sign m → w ≡ k.wind mark q → s *ℤ w ≡ gives k p (row mark (n ∷ []))
  gives_at mark m n p q s w e d S W =
      (λ i. S i *ℤ W i)
      ∙ (λ i. times_one (sign m) i *ℤ k.wind mark (d i))
      ∙ ap (λ (a : Affine). gives k p (row mark (a ∷ []))) e

  -- ---- the sum
  pub gives_within : (p : Point) (e : Entry M) → SmallWindings k → Within 1 (gives k p (row_of e))
  gives_within p e small = signed_within (lt (det (read_as e.numbers)) nought) _ (small e.mark (taken_back (read_as e.numbers) p))

  pub total_within : (p : Point) (es : List (Entry M)) → SmallWindings k → Within (length es) (total k p (map row_of es))
  total_within p [] small = (omega (arith, ints), omega (arith, ints))
  total_within p (e ∷ es) small = sum_within (length es) (gives k p (row_of e)) (total k p (map row_of es)) (gives_within p e small) (total_within p es small)

  total_append : (p : Point) (bs cs : List (Row M)) → total k p (bs ++ cs) ≡ total k p bs +ℤ total k p cs
  total_append p [] cs = sym (+ℤ_idl (total k p cs))
  total_append p (r ∷ bs) cs = ap (λ (z : ℤ). gives k p r +ℤ z) (total_append p bs cs) ∙ sym (+ℤ_assoc (gives k p r) (total k p bs) (total k p cs))

  pub total_more : (p : Point) (t : List (Entry M)) (i : ℕ) (e : Entry M) → i < length t → e ≡ get_or t i e → total k p (map row_of (take (i + 1) t)) ≡ total k p (map row_of (take i t)) +ℤ gives k p (row_of e)
  total_more p t i e h r =
      ap (total k p) (rows_more t i e h r)
      ∙ total_append p (map row_of (take i t)) (row_of e ∷ [])
      ∙ ap (λ (z : ℤ). total k p (map row_of (take i t)) +ℤ z) (+ℤ_idr (gives k p (row_of e)))

  -- ---- the union
  from_append : (b : Rect) (bs : List (Row M)) (r : Row M) → union_from k b (bs ++ (r ∷ [])) ≡ joined (union_from k b bs) (moved_box k r)
  from_append b [] r = refl
  from_append b (d ∷ bs) r = from_append (joined b (moved_box k d)) bs r

  pub union_more : (b : Rect) (es : List (Entry M)) (e : Entry M) → union_from k b (map row_of (es ++ (e ∷ []))) ≡ joined (union_from k b (map row_of es)) (moved_box k (row_of e))
  union_more b es e = ap (union_from k b) (map-append row_of es (e ∷ [])) ∙ from_append b (map row_of es) (row_of e)

  union_append : (b : Rect) (bs : List (Row M)) (r : Row M) → Some b ≡ union_of k bs → Some (joined b (moved_box k r)) ≡ union_of k (bs ++ (r ∷ []))
  union_append b [] r e = absurd (grind arith)
  union_append b (d ∷ bs) r e =
      let z : b ≡ union_from k (moved_box k d) bs = cc in
      ap Some (ap (λ (c : Rect). joined c (moved_box k r)) z ∙ sym (from_append (moved_box k d) bs r))

  -- and of the union itself, if there is one
  pub union_of_more : (t : List (Entry M)) (i : ℕ) (e : Entry M) (b : Rect) → i < length t → e ≡ get_or t i e → Some b ≡ union_of k (map row_of (take i t))
      → Some (joined b (moved_box k (row_of e))) ≡ union_of k (map row_of (take (i + 1) t))
  union_of_more t i e b h r u = union_append b (map row_of (take i t)) (row_of e) u ∙ ap (union_of k) (sym (rows_more t i e h r))

  -- ---- the book
  module _ (s : Sheet) (t : List (Entry M)) where
    pub total_book : (p : Point) (r : Result ℤ SheetFault) → SameWindings k → r ≡ at_page_point p (total k p (rows s t)) → AnsweredByBook s t (λ bs. at_page_point p (total k p bs)) r
    total_book p r law a bs S = a ∙ sym (at_page p (total k p bs) (total k p (rows s t)) (total_agree k (used s t) bs p law S))

    pub highest_book : (p : Point) (r : Result (Option ℕ) SheetFault) → SameWindings k → r ≡ at_page_point p (highest k p (rows s t)) → AnsweredByBook s t (λ bs. at_page_point p (highest k p bs)) r
    highest_book p r law a bs S = a ∙ sym (at_page p (highest k p bs) (highest k p (rows s t)) (highest_agree k (used s t) bs p law S))

    pub union_book : (r : Option Rect) → r ≡ union_of k (rows s t) → AnsweredByBook s t (union_of k) r
    union_book r a bs S = a ∙ sym (union_agree k (used s t) bs S)
