-- What is written piece by piece, and what it says. Assumes nothing.
use Rattle.std.proofs.Common.{◌≡◌, ℕ, ◌+◌, ◌<◌, ◌≤◌, List, [], ◌++◌, length, get_or, drop, Option, Ok, Err, Result, OnOk, codes, sym, refl, subst, append_assoc}
use Rattle.std.proofs.lemmas.List.{drop_more, drop_all}
use Rattle.std.specs.Io.KnownBytes.{Appends}
use Rattle.plane.specs.declared.bezpath.PathEl.{PathEl}
use Rattle.exam.specs.Texts.{SaysElement}
use Rattle.orders.specs.Words.{Text}
use Rattle.sittings.specs.Transcripts.{ElementsSay}

-- ---- the same text
pub appends_same : (a b : Option Text) (s t : Text) → s ≡ t → Appends a b s → Appends a b t
appends_same a b s t e p = subst (Appends a b) e p

pub on_ok_same : {X E : Type 0} (r : Result X E) (a b : Option Text) (s t : Text) → s ≡ t → OnOk r (Appends a b s) → OnOk r (Appends a b t)
on_ok_same (Ok x) a b s t e p = appends_same a b s t e p
on_ok_same (Err x) a b s t e p = tt

-- ---- elements
pub element_more : (es : List PathEl) (i : ℕ) (d : PathEl) (line : Text) → i < length es → SaysElement (get_or es i d) line
    → (rest : Text) → ElementsSay (drop (i + 1) es) rest → ElementsSay (drop i es) ((line ++ codes "\n") ++ rest)
element_more es i d line h known rest said =
    subst (λ (l : List PathEl). ElementsSay l ((line ++ codes "\n") ++ rest)) (sym (drop_more es i d h))
    (line, rest, known, said, append_assoc line (codes "\n") rest)

pub no_elements : (es : List PathEl) (i : ℕ) → length es ≤ i → ElementsSay (drop i es) []
no_elements es i h = subst (λ (l : List PathEl). ElementsSay l []) (sym (drop_all i es h)) refl
