-- The words stand behind a blank, and the case counts as what their comparison says. Assumes nothing.
use Rattle.std.proofs.Common.{◌≡◌, ◌≢◌, ℕ, List, [], ◌∷◌, Some, None, Bor, sym, inr, ◌∙◌, arith, rules}
use Rattle.std.specs.Prelude.{Option, MatchOption, vec_items}
use Rattle.std.specs.Option.{UnwrapsOrElse}
use Rattle.std.proofs.lemmas.Str.Pattern.{strip_prefix_char}
use Rattle.plane.specs.declared.bezpath.PathEl.{PathEl}
use Rattle.questions.specs.declared.answer.Answer.{Answer}
use Rattle.questions.specs.declared.answer.Answer.TheVariants as Given
use Rattle.questions.specs.Texts.{answer_text, elements_text, path_text, text_of}
use Rattle.comparison.proofs.Pairs.{agree_by_map}
use Rattle.comparison.proofs.report.Comparison.put.Goals as goal

-- what stands behind the blank of a text that begins with one
behind : (bs text : List ℕ) (r : Option (Bor (List ℕ))) (P : Bor (List ℕ) → Type 0) (x : Bor (List ℕ)) → bs ≡ 32 ∷ text → MatchOption r ((rest : List ℕ) → bs ≢ 32 ∷ rest) (λ y. bs ≡ 32 ∷ y.now) → UnwrapsOrElse r P x → x.now ≡ text
behind bs text (Some y) P x e h u = let both = sym h ∙ e in cc
behind bs text None P x e h u = absurd (h text e)

-- and of a text of nothing
behind_nothing : (bs : List ℕ) (r : Option (Bor (List ℕ))) (P : Bor (List ℕ) → Type 0) (x : Bor (List ℕ)) → bs ≡ [] → MatchOption r ((rest : List ℕ) → bs ≢ 32 ∷ rest) (λ y. bs ≡ 32 ∷ y.now) → UnwrapsOrElse r P x → (P x → x.now ≡ []) → x.now ≡ []
behind_nothing bs (Some y) P x e h u d = let both = sym e ∙ h in cc
behind_nothing bs None P x e h u d = d u

-- of an answer's text: the words, one blank apart
behind_answer : (a : Answer) (bs : List ℕ) (r : Option (Bor (List ℕ))) (P : Bor (List ℕ) → Type 0) (x : Bor (List ℕ)) → bs ≡ answer_text a → MatchOption r ((rest : List ℕ) → bs ≢ 32 ∷ rest) (λ y. bs ≡ 32 ∷ y.now) → UnwrapsOrElse r P x → (P x → x.now ≡ []) → x.now ≡ text_of a
behind_answer (Given.Path v) bs r P x e h u d = of (vec_items v) e
  where
    of : (els : List PathEl) → bs ≡ elements_text els → x.now ≡ path_text els
    of [] q = behind_nothing bs r P x q h u d
    of (el ∷ els) q = behind bs (path_text (el ∷ els)) r P x q h u
behind_answer (Given.Number y) bs r P x e h u d = behind bs _ r P x e h u
behind_answer (Given.Length y n) bs r P x e h u d = behind bs _ r P x e h u
behind_answer (Given.Frame b) bs r P x e h u d = behind bs _ r P x e h u
behind_answer (Given.Winding w) bs r P x e h u d = behind bs _ r P x e h u
behind_answer (Given.Holds b) bs r P x e h u d = behind bs _ r P x e h u
behind_answer (Given.Point p) bs r P x e h u d = behind bs _ r P x e h u
behind_answer (Given.Map m) bs r P x e h u d = behind bs _ r P x e h u
behind_answer (Given.Radii y th) bs r P x e h u d = behind bs _ r P x e h u
behind_answer (Given.Corners y k) bs r P x e h u d = behind bs _ r P x e h u
behind_answer (Given.Refused f) bs r P x e h u d = behind bs _ r P x e h u

pub returns : goal.returns
returns g c =
    let answered = c.in_ok-got.ensures in
    let stripped = strip_prefix_char 32 c.deref.result.now c.strip_prefix.result c.strip_prefix.ensures.cases (omega arith) in
    let words : c.unwrap_or_default-got.result.now ≡ text_of answered.0 = behind_answer answered.0 _ _ _ _ (c.deref.ensures ∙ answered.2) stripped c.unwrap_or_default-got.ensures (λ q. search rules) in
    record {
      lines = c.count.ensures.lines;
      counts = inr (c.same_words-agrees.result, (λ t. (answered.0, answered.1, agree_by_map _ _ _ _ _ words (λ x y h. search rules) (c.same_words-agrees.ensures t))), search rules, search rules);
    }
