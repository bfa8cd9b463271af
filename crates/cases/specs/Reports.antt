-- What is counted of a list. Assumes nothing.
use Rattle.std.specs.Prelude.{◌≡◌, ℕ, ◌+◌, ◌&&◌, Bool, false, not, nat_le, if◌then◌else◌, List, [], ◌++◌, Option, Some, codes, flat_map, replicate, slice_index_or, slice_set}
use Rattle.std.specs.Fmt.{decimal}
use Rattle.std.specs.Option.{option_map}
use Rattle.cases.specs.declared.tally.Tally.{Tally}
use Rattle.cases.specs.declared.report.Report.{Report}
use Rattle.cases.specs.Counts.{none_yet, all_agree, at_most, counted}

-- the tallies with one more case at place i
abbrev pub counted_at : List Tally → ℕ → Bool → List Tally
counted_at ts i b = slice_set ts i (counted (slice_index_or ts i none_yet) b)

-- all ALL cases agree
abbrev pub agreed_line : Tally → List ℕ
agreed_line t = codes "all " ++ (decimal (at_most (t.agree + t.differ)) ++ codes " cases agree\n")

-- DIFFER of ALL cases differ
abbrev pub differing_line : Tally → List ℕ
differing_line t = decimal t.differ ++ (codes " of " ++ (decimal (at_most (t.agree + t.differ)) ++ codes " cases differ\n"))

abbrev pub total_line : Tally → List ℕ
total_line t = if all_agree t then agreed_line t else differing_line t

module _ {K : Type 0} {n : ℕ} where
  -- the lines so far, each kind's tally at its place, and that of all cases
  abbrev pub lines_of : Report K n → ℕ
  lines_of r = r.lines

  abbrev pub tallies_of : Report K n → List Tally
  tallies_of r = r.tallies

  abbrev pub total_of : Report K n → Tally
  total_of r = r.total

  -- nothing is counted of the n kinds
  abbrev pub IsEmpty : Report K n → Type 0
  IsEmpty r = (lines_of r ≡ 0) × (tallies_of r ≡ replicate n none_yet) × (total_of r ≡ none_yet)

  -- a case counts for the kind at place i and in all
  abbrev pub Tallied : Report K n → ℕ → Bool → Report K n → Type 0
  Tallied old i b new = (tallies_of new ≡ counted_at (tallies_of old) i b) × (total_of new ≡ counted (total_of old) b)

  -- a line that cannot be read counts in all, as one that differs
  abbrev pub Unread : Report K n → Report K n → Type 0
  Unread old new = (tallies_of new ≡ tallies_of old) × (total_of new ≡ counted (total_of old) false)

  -- no case is counted
  abbrev pub IsUnchanged : Report K n → Report K n → Type 0
  IsUnchanged old new = (tallies_of new ≡ tallies_of old) × (total_of new ≡ total_of old)

  -- whether a line is written of a case, now that it is counted: where it differs, and no more than twenty do
  abbrev pub is_shown : Report K n → Bool → Bool
  is_shown r agrees = not agrees && nat_le (total_of r).differ 20

  -- line LINE: NAME got TEXT
  abbrev pub got_line : Report K n → List ℕ → List ℕ → List ℕ
  got_line r name text = codes "line " ++ (decimal (lines_of r) ++ (codes ": " ++ (name ++ (codes " got " ++ (text ++ codes "\n")))))

  -- that line where it is written, and else nothing
  abbrev pub got_lines : Report K n → Bool → List ℕ → Option (List ℕ) → Option (List ℕ)
  got_lines r agrees name text = if is_shown r agrees then option_map (got_line r name) text else Some []

  -- line LINE: unreadable
  abbrev pub unreadable_line : Report K n → List ℕ
  unreadable_line r = codes "line " ++ (decimal (lines_of r) ++ codes ": unreadable\n")

  -- that line where it is written, and else nothing
  abbrev pub unreadable_lines : Report K n → List ℕ
  unreadable_lines r = if is_shown r false then unreadable_line r else []

  -- NAME: AGREE of ALL agree
  abbrev pub kind_line : (K → List ℕ) → (K → ℕ) → Report K n → K → List ℕ
  kind_line name_of place_of r k = let tally = slice_index_or (tallies_of r) (place_of k) none_yet in
      name_of k ++ (codes ": " ++ (decimal tally.agree ++ (codes " of " ++ (decimal (at_most (tally.agree + tally.differ)) ++ codes " agree\n"))))

  -- a line for each kind, and one for all cases
  abbrev pub summary : (K → List ℕ) → (K → ℕ) → List K → Report K n → List ℕ
  summary name_of place_of ks r = flat_map (kind_line name_of place_of r) ks ++ total_line (total_of r)
