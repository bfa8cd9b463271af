-- Where a case's text is split at its arrow. Assumes nothing.
use Rattle.std.proofs.Common.{◌≡◌, ℕ, ◌+◌, ◌<◌, ◌≤◌, ◌⊎◌, inl, inr, List, ◌∷◌, ◌++◌, length, get_or, take, drop, Option, Some, None, Bor, codes, sym, ap, ◌∙◌, arith}
use Rattle.std.specs.Option.{MatchOption}
use Rattle.std.specs.Str.Pattern.{FindsText}
use Rattle.std.proofs.lemmas.Bool.{cases_order}
use Rattle.std.proofs.lemmas.List.{get_or_append_left, get_or-drop, length-append}
use Rattle.std.proofs.Math.Seq.{drop-append_seam, drop-append-add, take-append_seam, get_or-append_seam}

-- the clause of `split_once` at an arrow
abbrev pub IsSplitAtArrow : List ℕ → Option (Bor (List ℕ) × Bor (List ℕ)) → Type 0
IsSplitAtArrow bs r = MatchOption r (FindsText (codes " -> ") bs None) (λ x. (i : ℕ) × (j : ℕ) × FindsText (codes " -> ") bs (Some (i, j))
    × (x.0.now ≡ take i bs) × (x.1.now ≡ drop j bs) × (i ≤ j) × (length x.0.now ≡ i) × (length x.1.now + j ≡ length bs))

-- no arrow begins in what stands before the first one, where that holds no '-'
dash_there : (whole : List ℕ) (i j : ℕ) → drop i whole ≡ codes " -> " ++ drop j whole → get_or whole (i + 1) 0 ≡ 45
dash_there whole i j split = sym (get_or-drop i whole 1 0) ∙ ap (λ (l : List ℕ). get_or l 1 0) split

blank_there : (front tail : List ℕ) (k : ℕ) → k ≡ length front → get_or (front ++ (32 ∷ tail)) k 0 ≡ 32
blank_there front tail k e = rw e (get_or-append_seam front 32 tail 0)

too_early : (front tail : List ℕ) (i : ℕ) → ((k : ℕ) → k < length front → get_or front k 0 ≡ 45 → ⊥) → get_or (front ++ (32 ∷ tail)) (i + 1) 0 ≡ 45 → i < length front → ⊥
too_early front tail i plain dash early = by (cases_order (i + 1) (length front))
  where
    by : (i + 1 ≡ length front) ⊎ ((i + 1 < length front) ⊎ (length front < i + 1)) → ⊥
    by (inl e) = let blank = blank_there front tail (i + 1) e in omega arith
    by (inr (inl l)) = plain (i + 1) l (sym (get_or_append_left front (32 ∷ tail) 0 (i + 1) l) ∙ dash)
    by (inr (inr l)) = omega arith

cut : (front arrow back xs ys : List ℕ) (i j : ℕ) → i ≡ length front → j ≡ i + length arrow → xs ≡ take i (front ++ (arrow ++ back)) → ys ≡ drop j (front ++ (arrow ++ back)) → (xs ≡ front) × (ys ≡ back)
cut front arrow back xs ys i j e f x y = (
  x ∙ ap (λ (k : ℕ). take k (front ++ (arrow ++ back))) e ∙ take-append_seam front (arrow ++ back),
  y ∙ ap (λ (k : ℕ). drop k (front ++ (arrow ++ back))) (f ∙ ap (λ (k : ℕ). k + length arrow) e) ∙ drop-append-add front (arrow ++ back) (length arrow) ∙ drop-append_seam arrow back,
)

pub split_at_arrow : (bs front back : List ℕ) (r : Option (Bor (List ℕ) × Bor (List ℕ))) → bs ≡ front ++ (codes " -> " ++ back) → ((k : ℕ) → k < length front → get_or front k 0 ≡ 45 → ⊥) → IsSplitAtArrow bs r → MatchOption r ⊥ (λ p. (p.0.now ≡ front) × (p.1.now ≡ back))
split_at_arrow bs front back None is plain s =
    let long : length bs ≡ length front + length (codes " -> " ++ back) = ap length is ∙ length-append front (codes " -> " ++ back) in
    s (length front) (omega arith) back (rw is (drop-append_seam front (codes " -> " ++ back)))
split_at_arrow bs front back (Some p) is plain s = by (cases_order s.0 (length front))
  where
    by : (s.0 ≡ length front) ⊎ ((s.0 < length front) ⊎ (length front < s.0)) → (p.0.now ≡ front) × (p.1.now ≡ back)
    by (inl e) = cut front (codes " -> ") back p.0.now p.1.now s.0 s.1 e s.2.1.ends (rw is at s.3) (rw is at s.4)
    by (inr (inl l)) = absurd (too_early front (45 ∷ 62 ∷ 32 ∷ back) s.0 plain (rw is at (dash_there bs s.0 s.1 s.2.1.split)) l)
    by (inr (inr l)) = absurd (s.2.0 (length front) l back (rw is (drop-append_seam front (codes " -> " ++ back))))
