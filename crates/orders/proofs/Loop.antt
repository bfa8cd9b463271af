-- Numbers that are read one after the other, as a loop does.
use Rattle.std.proofs.Common.{◌≡◌, ℕ, suc, ◌+◌, ◌-◌, ◌<◌, ◌≤◌, List, [], ◌∷◌, ◌++◌, Result, Ok, Err, refl, sym, ap, ◌∙◌, append_assoc, arith}
use Rattle.std.specs.Prelude.{Float}
use Rattle.std.proofs.lemmas.List.{append-nil}
use Rattle.orders.specs.Words.{Text}
use Rattle.orders.specs.Runs.{◌>>=◌, Left, number, numbers}

-- what was read before, and what is still read
abbrev pub with_front : List Float → Result (List Float × Left) Text → Result (List Float × Left) Text
with_front front read = read >>= λ xs. Ok (front ++ xs.0, xs.1)

regroup : (front : List Float) (x : Float) (read : Result (List Float × Left) Text) → with_front front (read >>= λ xs. Ok (x ∷ xs.0, xs.1)) ≡ with_front (front ++ x ∷ []) read
regroup front x (Ok xs) = ap (λ (l : List Float). Ok (l, xs.1)) (simp append_assoc)
regroup front x (Err e) = refl

pub goes_on : (front : List Float) (n i : ℕ) (s t : Left) (x : Float) (all : Result (List Float × Left) Text) → i < n → number s ≡ Ok (x, t)
    → with_front front (numbers (n - i) s) ≡ all → with_front (front ++ x ∷ []) (numbers (n - (i + 1)) t) ≡ all
unfolding numbers
goes_on front n i s t x all lt h so_far =
    let k : n - i ≡ suc (n - (i + 1)) = omega arith in
    let one : with_front front (numbers (n - i) s) ≡ with_front (front ++ x ∷ []) (numbers (n - (i + 1)) t) = rw (k, h) (regroup front x (numbers (n - (i + 1)) t)) in
    sym one ∙ so_far

pub fails : (front : List Float) (n i : ℕ) (s : Left) (e : Text) (all : Result (List Float × Left) Text) → i < n → number s ≡ Err e
    → with_front front (numbers (n - i) s) ≡ all → all ≡ Err e
unfolding numbers
fails front n i s e all lt h so_far =
    let k : n - i ≡ suc (n - (i + 1)) = omega arith in
    let one : with_front front (numbers (n - i) s) ≡ Err e = rw (k, h) refl in
    sym so_far ∙ one

pub is_done : (front : List Float) (n i : ℕ) (s : Left) (all : Result (List Float × Left) Text) → n ≤ i → with_front front (numbers (n - i) s) ≡ all → all ≡ Ok (front, s)
unfolding numbers
is_done front n i s all le so_far =
    let k : n - i ≡ 0 = omega arith in
    let one : with_front front (numbers (n - i) s) ≡ Ok (front, s) = rw k (ap (λ (l : List Float). Ok (l, s)) (append-nil front)) in
    sym so_far ∙ one
