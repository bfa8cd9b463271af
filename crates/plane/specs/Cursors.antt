-- A cursor that gives the first of what it means: what std's iterators ask of it, and what any chain of them makes of it. Assumes nothing.
use Rattle.std.proofs.Common.{◌≡◌, ◌∷◌, ap, arith}
use Rattle.std.specs.Prelude.{List, length, Some, None, Option}
use Rattle.std.specs.Iterator.{YieldsFirst, MakesProgress, item_count}
use Rattle.std.proofs.lemmas.Iterator.{YieldsList}
use Rattle.std.proofs.lemmas.Iterator.Consumers.{YieldsList-from_shown}
use Rattle.plane.specs.declared.bezpath.PathEl.{PathEl}

-- the element that it gave is one fewer to come
pub one_fewer : {C : Type 0} (can : C → Type 0) (rest : C → List PathEl) (c d : C) (el : PathEl) → can d → rest c ≡ el ∷ rest d → MakesProgress can (item_count rest) c (Some el) d
one_fewer can rest c d el k e = record { on = λ f. (k, tt, omega (arith, ap length e)); keeps = k; rests = λ f. tt }

-- a cursor that keeps the law of its steps gives, in any chain, just the elements that it means
pub whole_path : {C : Type 0} (gives : C → Option PathEl → C → Type 0) (rest : C → List PathEl)
    → ((c d : C) (el : Option PathEl) → gives c el d → YieldsFirst rest c el d)
    → (c : C) → YieldsList gives (λ el. el) c (rest c)
whole_path gives rest law c = YieldsList-from_shown gives (λ el. el) rest (λ s t h. ap length (law s t None h).0) (λ s el t h. law s t (Some el) h) c
