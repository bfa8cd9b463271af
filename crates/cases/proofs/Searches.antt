-- What a search through a list of named values finds. Assumes nothing.
use Rattle.std.proofs.Common.{◌≡◌, ℕ, suc, ◌<◌, Bool, true, false, List, [], ◌∷◌, length, Option, Some, None, refl, sym, ap, ◌∙◌, arith}
use Rattle.std.specs.Option.{MatchOption}
use Rattle.std.specs.List.{AllWithin, HoldsAt, Contains, find}
use Rattle.std.specs.Str.{bytes_eq}
use Rattle.cases.specs.Texts.{Finds}
use Rattle.cases.specs.Names.{NamesEach}

pub finds_first : {K : Type 0} (name_of : K → List ℕ) (all : List K) (text : List ℕ) (r : Option K) → NamesEach name_of all
    → MatchOption r (AllWithin (λ k. text ≡ name_of k → ⊥) all 0 (length all)) (λ x. (text ≡ name_of x) × (i : ℕ) × (i < length all) × HoldsAt (λ y. y ≡ x) all i × AllWithin (λ k. text ≡ name_of k → ⊥) all 0 i)
    → Finds (λ k. text ≡ name_of k) r
finds_first name_of all text (Some x) each found = found.0
finds_first name_of all text None each none = λ k e. let at = each.complete k in none at.0 k (omega arith) at.1 (rw at.2 e)

found_is_there : {K : Type 0} (test : K → Bool) (xs : List K) (x : K) → find test xs ≡ Some x → Contains xs x
found_is_there test [] x e = cc
found_is_there test (y ∷ ys) x e = by (test y) refl (found_is_there test ys x)
  where
    by : (b : Bool) → test y ≡ b → (find test ys ≡ Some x → Contains ys x) → Contains (y ∷ ys) x
    by true k rest = let same : Some y ≡ Some x = rw k at e in (0, omega arith, cc)
    by false k rest = let at = rest (rw k at e) in (suc at.0, omega (arith, at.1), at.2)

-- where the search for each value's name finds the value, the list names each
pub names_each : {K : Type 0} (name_of : K → List ℕ) (all : List K) → ((k : K) → find (λ j. bytes_eq (name_of j) (name_of k)) all ≡ Some k) → NamesEach name_of all
names_each {K} name_of all found = record {
  complete = λ k. found_is_there _ all k (found k);
  distinct = λ j k e.
      let same : find (λ i. bytes_eq (name_of i) (name_of j)) all ≡ find (λ i. bytes_eq (name_of i) (name_of k)) all = ap (λ (name : List ℕ). find (λ i. bytes_eq (name_of i) name) all) e in
      let one : Some j ≡ Some k = sym (found j) ∙ same ∙ found k in
      cc;
}
