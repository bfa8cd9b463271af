-- Values that have names. Assumes nothing.
use Rattle.std.specs.Prelude.{◌≡◌, ℕ, List, Contains}

-- the list has each value, and no two have one name
pub record NamesEach {K : Type 0} (name_of : K → List ℕ) (all : List K) : Type 0 where
  pub complete : (k : K) → Contains all k
  pub distinct : (j k : K) → name_of j ≡ name_of k → j ≡ k
