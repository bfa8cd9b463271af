-- What a search through a slice tells, place by place, of a closure that tests p: from the front and from the back. Assumes nothing.
use Rattle.std.proofs.Common.{◌≡◌, ℕ, ◌+◌, ◌-◌, ◌<◌, Bool, true, false, List, length, get_or, Option, IsTrue, Bor, rules}
use Rattle.std.proofs.iter.runs.Made.{chains}
use Rattle.std.specs.Iterator.Runs.{Run, ItemsMapTo, ItemsMapToReversed, AllItemsGive, IsFirstToGive}
use denote.Param.Members.{Mut, Called}

module _ {S A F : Type 0} {steps : S → Option (Bor A) → S → Type 0} (g : Mut F (Bor A × Unit {0}) Bool) (f : F) (p : A → Bool)
    (answers : (x : Bor A) (b : Bool) (f' : F) → Called g f (x, tt) b f' → (f' ≡ f) × (b ≡ p x.now))
    (xs : List A) (u : Run steps) where
  -- in a run from the front
  module _ (fore : ItemsMapTo u (λ y. y.now) xs) where
    pub first_at : (i : ℕ) → IsFirstToGive u g f true false i → i < length xs → (d : A) → p (get_or xs i d) ≡ true
    first_at i h l d = search (rules, chains)

    pub before_first : (i j : ℕ) → u.len ≡ i + 1 → IsFirstToGive u g f true false i → j < i → (d : A) → p (get_or xs j d) ≡ false
    before_first i j e h m d = search (rules, chains)

    pub none_from_front : (j : ℕ) → IsTrue u.whole → AllItemsGive u g f false → j < length xs → (d : A) → p (get_or xs j d) ≡ false
    none_from_front j w h l d = search (rules, chains)

  -- in a run from the back
  module _ (back : ItemsMapToReversed u (λ y. y.now) xs) where
    pub last_at : (i : ℕ) → i + u.len ≡ length xs → IsFirstToGive u g f true false (length xs - 1 - i) → i < length xs → (d : A) → p (get_or xs i d) ≡ true
    last_at i e h l d = search (rules, chains)

    pub after_last : (i j : ℕ) → i + u.len ≡ length xs → IsFirstToGive u g f true false (length xs - 1 - i) → i < j → j < length xs → (d : A) → p (get_or xs j d) ≡ false
    after_last i j e h l m d = search (rules, chains)

    pub none_from_back : (j : ℕ) → IsTrue u.whole → AllItemsGive u g f false → j < length xs → (d : A) → p (get_or xs j d) ≡ false
    none_from_back j w h l d = search (rules, chains)
