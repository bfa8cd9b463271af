-- The loop of the length, turn by turn: what is left to run gives what the whole gives, and the whole ends at the first turn that is the last. Assumes nothing.
use Rattle.std.proofs.Common.{◌≡◌, ℕ, zero, suc, ◌+◌, ◌-◌, ◌<◌, ◌≤◌, Bool, true, false, cond, Ok, Err, sym, refl, ap, ◌∙◌, arith}
use lib.Ieee.{Float}
use Rattle.plane.specs.declared.fault.ShapeFault.TheVariants.{Steps}
use Rattle.ellipses.specs.declared.length.Means.{Means}
use Rattle.ellipses.specs.Lengths.{Length, last, next, total, runs, after, FirstLast}

-- with n turns allowed and i made
abbrev pub rest : ℕ → ℕ → Float → Float → Means → Length
rest n i x t s = runs (n - i) i x t s

abbrev either : ℕ → ℕ → Float → Float → Means → Bool → Length
either n i x t s b = cond b (Ok (total x s, i + 1)) (rest n (i + 1) x t (next s))

turn : (n i : ℕ) (x t : Float) (s : Means) → i < n → rest n i x t s ≡ either n i x t s (last t s)
unfolding runs
turn n i x t s h = let e : n - i ≡ suc (n - (i + 1)) = omega arith in ap (λ (k : ℕ). runs k i x t s) e

pub last_turn : (n i : ℕ) (x t : Float) (s : Means) (r : Float × ℕ) → i < n → last t s ≡ true → r ≡ (total x s, i + 1) → Ok r ≡ rest n i x t s
last_turn n i x t s r h e q = ap Ok q ∙ sym (turn n i x t s h ∙ ap (either n i x t s) e)

pub one_more : (n i : ℕ) (x t : Float) (s s' : Means) → i < n → last t s ≡ false → s' ≡ next s → rest n (i + 1) x t s' ≡ rest n i x t s
one_more n i x t s s' h e q = ap (rest n (i + 1) x t) q ∙ sym (turn n i x t s h ∙ ap (either n i x t s) e)

pub none_left : (n i : ℕ) (x t : Float) (s : Means) → n ≤ i → Err Steps ≡ rest n i x t s
unfolding runs
none_left n i x t s h = let e : zero ≡ n - i = omega arith in ap (λ (k : ℕ). runs k i x t s) e

-- ---- the first turn that is the last
ended : (n m k : ℕ) (x t : Float) (s : Means) → k < n → last t (after k s) ≡ true → ((j : ℕ) → j < k → last t (after j s) ≡ false) → runs n m x t s ≡ Ok (total x (after k s), m + (k + 1))
unfolding runs
ended zero m k x t s h e f = absurd (omega arith)
ended (suc n) m zero x t s h e f = ap (λ (b : Bool). cond b (Ok (total x s, m + 1)) (runs n (m + 1) x t (next s))) e
ended (suc n) m (suc k) x t s h e f =
    let q : m + 1 + (k + 1) ≡ m + (suc k + 1) = omega arith in
    ap (λ (b : Bool). cond b (Ok (total x s, m + 1)) (runs n (m + 1) x t (next s))) (f 0 (omega arith))
    ∙ ended n (m + 1) k x t (next s) (omega arith) e (λ j l. f (suc j) (omega arith))
    ∙ ap (λ (z : ℕ). Ok (total x (after k (next s)), z)) q

spent : (n m : ℕ) (x t : Float) (s : Means) → ((k : ℕ) → k < n → last t (after k s) ≡ false) → runs n m x t s ≡ Err Steps
unfolding runs
spent zero m x t s f = refl
spent (suc n) m x t s f =
    ap (λ (b : Bool). cond b (Ok (total x s, m + 1)) (runs n (m + 1) x t (next s))) (f 0 (omega arith))
    ∙ spent n (m + 1) x t (next s) (λ k l. f (suc k) (omega arith))

pub first_last : FirstLast
first_last = record {
  ended = λ n k x t s h e f. let q : 0 + (k + 1) ≡ k + 1 = omega arith in ended n 0 k x t s h e f ∙ ap (λ (z : ℕ). Ok (total x (after k s), z)) q;
  spent = λ n x t s f. spent n 0 x t s f;
}
