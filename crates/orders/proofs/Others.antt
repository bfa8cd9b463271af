-- A word that is another is not this one.
use Rattle.std.proofs.Common.{◌≡◌, false}
use Rattle.std.specs.Prelude.{bytes_eq}
use Rattle.std.proofs.lemmas.Bool.{false_from_ne_true}
use Rattle.std.proofs.lemmas.Slice.Eq.{bytes_eq-Decides}
use Rattle.orders.specs.Words.{Text}

pub other : (w k : Text) → (w ≡ k → ⊥) → bytes_eq w k ≡ false
other w k h = false_from_ne_true (bytes_eq w k) (λ e. h ((bytes_eq-Decides w k).0 e))
