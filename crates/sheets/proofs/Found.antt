-- What a walk over the entries finds: the highest so far that holds a point. Assumes nothing.
use Rattle.std.proofs.Common.{◌≡◌, ℕ, ◌+◌, ◌-◌, ◌<◌, ◌≤◌, Bool, true, false, cond, List, [], ◌∷◌, ◌++◌, map, length, get_or, take, Some, Option, sym, refl, ap, ◌∙◌, add-one, arith, length-take}
use lib.ListN.{length-map}
use Rattle.plane.specs.declared.point.Point.{Point}
use Rattle.plane.specs.Winding.{nonzero}
use Rattle.sheets.specs.declared.sheet.Entry.{Entry}
use Rattle.sheets.specs.Book.{Marks, Row, gives, above, highest}
use Rattle.sheets.specs.Tables.{row_of}
use Rattle.sheets.proofs.Asked.{rows_more}

module _ {M : Type 0} (k : Marks M) (pt : Point) where
  above_found : (b held : Bool) (i : ℕ) (o : Option ℕ) → above (cond b (Some i) o) held ≡ cond b (Some (i + 1)) (above o held)
  above_found true held i o = refl
  above_found false held i o = refl

  -- one row on top
  highest_push : (bs : List (Row M)) (r : Row M) → highest k pt (bs ++ (r ∷ [])) ≡ cond (nonzero (gives k pt r)) (Some (length bs)) (highest k pt bs)
  highest_push [] r = refl
  highest_push (q ∷ bs) r =
      let held = nonzero (gives k pt r) in
      let below = nonzero (gives k pt q) in
      ap (λ (o : Option ℕ). above o below) (highest_push bs r)
      ∙ above_found held below (length bs) (highest k pt bs)
      ∙ ap (λ (i : ℕ). cond held (Some i) (above (highest k pt bs) below)) (add-one (length bs))

  -- one entry more
  pub highest_more : (es : List (Entry M)) (i : ℕ) (e : Entry M) (b : Bool) → i < length es → e ≡ get_or es i e → b ≡ nonzero (gives k pt (row_of e))
      → highest k pt (map row_of (take (i + 1) es)) ≡ cond b (Some i) (highest k pt (map row_of (take i es)))
  highest_more es i e b h r w =
      let n : length (map row_of (take i es)) ≡ i = simp (length-map, length-take) (omega arith) in
      ap (highest k pt) (rows_more es i e h r)
      ∙ highest_push (map row_of (take i es)) (row_of e)
      ∙ (λ j. cond (sym w j) (Some (n j)) (highest k pt (map row_of (take i es))))

  -- the last of the first i entries decides
  pub highest_below : (t : List (Entry M)) (i : ℕ) (e : Entry M) (b : Bool) → 0 < i → i ≤ length t → e ≡ get_or t (i - 1) e → b ≡ nonzero (gives k pt (row_of e))
      → cond b (Some (i - 1)) (highest k pt (map row_of (take (i - 1) t))) ≡ highest k pt (map row_of (take i t))
  highest_below t i e b o h r n =
      let l : i - 1 < length t = omega arith in
      let j : i - 1 + 1 ≡ i = omega arith in
      sym (highest_more t (i - 1) e b l r n) ∙ ap (λ (m : ℕ). highest k pt (map row_of (take m t))) j
