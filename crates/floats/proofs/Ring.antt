-- Polynomial identities over whole numbers, by computation: an identity holds where the terms of the difference of its two sides all cancel. Assumes nothing.
use Rattle.std.proofs.Common.{◌≡◌, ℕ, suc, ◌+◌, ◌*◌, Bool, true, false, cond, ◌&&◌, T, eqb, leb, List, [], ◌∷◌, get_or, ℤ, pos, negsuc, ◌+ℤ◌, ◌-ℤ◌, ◌*ℤ◌, sym, refl, ap, ◌∙◌, arith, eqb→eq}
use lib.IntN.{*ℤ_comm}
use mir.Facts.{and_yes}
use borrow.Author.Differences.{up, down, same_in, sum_is_lem, product_is}
use Rattle.std.proofs.lemmas.Int.{ints}

-- ---- laws of the product
up_product : (a b : ℤ) → up (a *ℤ b) ≡ up a * up b + down a * down b
up_product a b = (product_is a b).0

down_product : (a b : ℤ) → down (a *ℤ b) ≡ up a * down b + down a * up b
down_product a b = (product_is a b).1

pub times_assoc : (a b c : ℤ) → a *ℤ b *ℤ c ≡ a *ℤ (b *ℤ c)
times_assoc a b c = same_in (a *ℤ b *ℤ c) (a *ℤ (b *ℤ c)) (simp (up_product, down_product) (omega arith))

pub times_sum : (a b c : ℤ) → a *ℤ (b +ℤ c) ≡ a *ℤ b +ℤ a *ℤ c
times_sum a b c = omega (arith, ints, ap (λ (n : ℕ). up a * n) (sum_is_lem b c), ap (λ (n : ℕ). down a * n) (sum_is_lem b c))

pub times_regroup : (a b c d : ℤ) → a *ℤ b *ℤ (c *ℤ d) ≡ a *ℤ c *ℤ (b *ℤ d)
times_regroup a b c d = same_in (a *ℤ b *ℤ (c *ℤ d)) (a *ℤ c *ℤ (b *ℤ d)) (simp (up_product, down_product) (omega arith))

sum_times : (a b c : ℤ) → (a +ℤ b) *ℤ c ≡ a *ℤ c +ℤ b *ℤ c
sum_times a b c = *ℤ_comm (a +ℤ b) c ∙ times_sum c a b ∙ (λ i. *ℤ_comm c a i +ℤ *ℤ_comm c b i)

-- ---- expressions, over numbers that are named by their place in a list
infixl 6 ◌⊕◌
infixl 6 ◌⊖◌
infixl 7 ◌⊗◌
pub data Expr : Type 0 where
  var : ℕ → Expr
  num : ℤ → Expr
  ◌⊕◌ : Expr → Expr → Expr
  ◌⊖◌ : Expr → Expr → Expr
  ◌⊗◌ : Expr → Expr → Expr

abbrev pub at : List ℤ → ℕ → ℤ
at ρ i = get_or ρ i (pos 0)

abbrev pub value : Expr → List ℤ → ℤ
value (var i) ρ = at ρ i
value (num k) ρ = k
value (e ⊕ d) ρ = value e ρ +ℤ value d ρ
value (e ⊖ d) ρ = value e ρ -ℤ value d ρ
value (e ⊗ d) ρ = value e ρ *ℤ value d ρ

-- ---- products of variables, as the places in order
abbrev monomial : List ℕ → List ℤ → ℤ
monomial [] ρ = pos 1
monomial (i ∷ m) ρ = at ρ i *ℤ monomial m ρ

-- one factor more
abbrev insert : ℕ → List ℕ → List ℕ
insert i [] = i ∷ []
insert i (j ∷ m) = cond (leb i j) (i ∷ j ∷ m) (j ∷ insert i m)

abbrev joined : List ℕ → List ℕ → List ℕ
joined [] n = n
joined (i ∷ m) n = insert i (joined m n)

abbrev alike : List ℕ → List ℕ → Bool
alike [] [] = true
alike [] (j ∷ n) = false
alike (i ∷ m) [] = false
alike (i ∷ m) (j ∷ n) = eqb i j && alike m n

-- ---- polynomials: sums of such products, each with its coefficient
pub data Poly : Type 0 where
  none : Poly
  term : ℤ → List ℕ → Poly → Poly

abbrev total : Poly → List ℤ → ℤ
total none ρ = pos 0
total (term k m p) ρ = k *ℤ monomial m ρ +ℤ total p ρ

-- one term more: onto the like term, where there is one
abbrev put : ℤ → List ℕ → Poly → Poly
put k m none = term k m none
put k m (term l n p) = cond (alike m n) (term (k +ℤ l) n p) (term l n (put k m p))

abbrev sum : Poly → Poly → Poly
sum none q = q
sum (term k m p) q = put k m (sum p q)

-- a polynomial times one term
abbrev scaled : ℤ → List ℕ → Poly → Poly
scaled k m none = none
scaled k m (term l n p) = put (k *ℤ l) (joined m n) (scaled k m p)

abbrev product : Poly → Poly → Poly
product none q = none
product (term k m p) q = sum (scaled k m q) (product p q)

-- an expression, multiplied out
abbrev expanded : Expr → Poly
expanded (var i) = term (pos 1) (i ∷ []) none
expanded (num k) = term k [] none
expanded (e ⊕ d) = sum (expanded e) (expanded d)
expanded (e ⊖ d) = sum (expanded e) (scaled (negsuc 0) [] (expanded d))
expanded (e ⊗ d) = product (expanded e) (expanded d)

abbrev is_zero : ℤ → Bool
is_zero (pos n) = eqb n 0
is_zero (negsuc n) = false

-- every coefficient is 0
abbrev cancels : Poly → Bool
cancels none = true
cancels (term k m p) = is_zero k && cancels p

-- ---- these keep the values
alike_same : (m n : List ℕ) → T (alike m n) → m ≡ n
alike_same [] [] h = refl
alike_same [] (j ∷ n) h = absurd h
alike_same (i ∷ m) [] h = absurd h
alike_same (i ∷ m) (j ∷ n) h =
    let both = and_yes (eqb i j) (alike m n) h in
    λ q. eqb→eq i j both.0 q ∷ alike_same m n both.1 q

times_swap : (a b c : ℤ) → a *ℤ (b *ℤ c) ≡ b *ℤ (a *ℤ c)
times_swap a b c = sym (times_assoc a b c) ∙ ap (λ (z : ℤ). z *ℤ c) (*ℤ_comm a b) ∙ times_assoc b a c

insert_monomial : (i : ℕ) (m : List ℕ) (ρ : List ℤ) → monomial (insert i m) ρ ≡ at ρ i *ℤ monomial m ρ
insert_monomial i [] ρ = refl
insert_monomial i (j ∷ m) ρ = at_test (leb i j) (insert_monomial i m ρ)
  where
    at_test : (t : Bool) → monomial (insert i m) ρ ≡ at ρ i *ℤ monomial m ρ → monomial (cond t (i ∷ j ∷ m) (j ∷ insert i m)) ρ ≡ at ρ i *ℤ (at ρ j *ℤ monomial m ρ)
    at_test true h = refl
    at_test false h = ap (λ (z : ℤ). at ρ j *ℤ z) h ∙ times_swap (at ρ j) (at ρ i) (monomial m ρ)

joined_monomial : (m n : List ℕ) (ρ : List ℤ) → monomial (joined m n) ρ ≡ monomial m ρ *ℤ monomial n ρ
joined_monomial [] n ρ = omega (arith, ints)
joined_monomial (i ∷ m) n ρ = insert_monomial i (joined m n) ρ ∙ ap (λ (z : ℤ). at ρ i *ℤ z) (joined_monomial m n ρ) ∙ sym (times_assoc (at ρ i) (monomial m ρ) (monomial n ρ))

put_total : (k : ℤ) (m : List ℕ) (p : Poly) (ρ : List ℤ) → total (put k m p) ρ ≡ k *ℤ monomial m ρ +ℤ total p ρ
put_total k m none ρ = refl
put_total k m (term l n p) ρ = at_test (alike m n) (alike_same m n) (put_total k m p ρ)
  where
    at_test : (t : Bool) → (T t → m ≡ n) → total (put k m p) ρ ≡ k *ℤ monomial m ρ +ℤ total p ρ → total (cond t (term (k +ℤ l) n p) (term l n (put k m p))) ρ ≡ k *ℤ monomial m ρ +ℤ (l *ℤ monomial n ρ +ℤ total p ρ)
    at_test true same h = rw (same tt) (omega (arith, ints, sum_times k l (monomial n ρ)))
    at_test false same h = omega (arith, ints)

sum_total : (p q : Poly) (ρ : List ℤ) → total (sum p q) ρ ≡ total p ρ +ℤ total q ρ
sum_total none q ρ = omega (arith, ints)
sum_total (term k m p) q ρ = omega (arith, ints, put_total k m (sum p q) ρ, sum_total p q ρ)

scaled_total : (k : ℤ) (m : List ℕ) (p : Poly) (ρ : List ℤ) → total (scaled k m p) ρ ≡ k *ℤ monomial m ρ *ℤ total p ρ
scaled_total k m none ρ = omega (arith, ints)
scaled_total k m (term l n p) ρ =
    put_total (k *ℤ l) (joined m n) (scaled k m p) ρ
    ∙ (λ i. k *ℤ l *ℤ joined_monomial m n ρ i +ℤ scaled_total k m p ρ i)
    ∙ ap (λ (z : ℤ). z +ℤ k *ℤ monomial m ρ *ℤ total p ρ) (times_regroup k l (monomial m ρ) (monomial n ρ))
    ∙ sym (times_sum (k *ℤ monomial m ρ) (l *ℤ monomial n ρ) (total p ρ))

product_total : (p q : Poly) (ρ : List ℤ) → total (product p q) ρ ≡ total p ρ *ℤ total q ρ
product_total none q ρ = omega (arith, ints)
product_total (term k m p) q ρ =
    sum_total (scaled k m q) (product p q) ρ
    ∙ (λ i. scaled_total k m q ρ i +ℤ product_total p q ρ i)
    ∙ sym (sum_times (k *ℤ monomial m ρ) (total p ρ) (total q ρ))

expanded_total : (e : Expr) (ρ : List ℤ) → total (expanded e) ρ ≡ value e ρ
expanded_total (var i) ρ = omega (arith, ints)
expanded_total (num k) ρ = omega (arith, ints)
expanded_total (e ⊕ d) ρ = sum_total (expanded e) (expanded d) ρ ∙ (λ i. expanded_total e ρ i +ℤ expanded_total d ρ i)
expanded_total (e ⊖ d) ρ =
    sum_total (expanded e) (scaled (negsuc 0) [] (expanded d)) ρ
    ∙ (λ i. expanded_total e ρ i +ℤ (scaled_total (negsuc 0) [] (expanded d) ρ ∙ ap (λ (z : ℤ). negsuc 0 *ℤ z) (expanded_total d ρ)) i)
    ∙ minus_one (value e ρ) (value d ρ)
  where
    minus_one : (a b : ℤ) → a +ℤ negsuc 0 *ℤ b ≡ a -ℤ b
    minus_one a b = omega (arith, ints)
expanded_total (e ⊗ d) ρ = product_total (expanded e) (expanded d) ρ ∙ (λ i. expanded_total e ρ i *ℤ expanded_total d ρ i)

is_zero_out : (k : ℤ) → T (is_zero k) → k ≡ pos 0
is_zero_out (pos n) h = ap pos (eqb→eq n 0 h)
is_zero_out (negsuc n) h = absurd h

cancels_total : (p : Poly) (ρ : List ℤ) → T (cancels p) → total p ρ ≡ pos 0
cancels_total none ρ h = refl
cancels_total (term k m p) ρ h =
    let both = and_yes (is_zero k) (cancels p) h in
    (λ i. is_zero_out k both.0 i *ℤ monomial m ρ +ℤ cancels_total p ρ both.1 i) ∙ nothing (monomial m ρ)
  where
    nothing : (z : ℤ) → pos 0 *ℤ z +ℤ pos 0 ≡ pos 0
    nothing z = omega (arith, ints)

same_value : (e d : Expr) (ρ : List ℤ) → T (cancels (expanded (e ⊖ d))) → value e ρ ≡ value d ρ
same_value e d ρ h = level (value e ρ) (value d ρ) (sym (expanded_total (e ⊖ d) ρ) ∙ cancels_total (expanded (e ⊖ d)) ρ h)
  where
    level : (a b : ℤ) → a -ℤ b ≡ pos 0 → a ≡ b
    level a b z = omega (arith, ints)

-- ---- identities, with a name for each number
infix 4 ◌⊜◌
pub data Sides : Type 0 where
  ◌⊜◌ : Expr → Expr → Sides

abbrev pub Cancels : Sides → Type 0
Cancels (e ⊜ d) = T (cancels (expanded (e ⊖ d)))

abbrev pub Holds : Sides → List ℤ → Type 0
Holds (e ⊜ d) ρ = value e ρ ≡ value d ρ

abbrev pub Identity : List ℤ → Type 0
Identity [] = Sides
Identity (z ∷ ρ) = Expr → Identity ρ

abbrev pub named : (ρ : List ℤ) → Identity ρ → ℕ → Sides
named [] f i = f
named (z ∷ ρ) f i = named ρ (f (var i)) (suc i)

-- An identity of the numbers in a list, written over names for them, as `ring (a ∷ b ∷ []) (λ A B. A ⊕ B ⊜ B ⊕ A) tt`: the `tt` shows that all terms cancel.
pub ring : (ρ : List ℤ) (f : Identity ρ) → Cancels (named ρ f 0) → Holds (named ρ f 0) ρ
ring ρ f = holds (named ρ f 0)
  where
    holds : (s : Sides) → Cancels s → Holds s ρ
    holds (e ⊜ d) h = same_value e d ρ h
