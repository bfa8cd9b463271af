-- The eight turns in whole numbers: their rows, their products, their signs, and that what they carry forward they take back. Assumes nothing.
use Rattle.std.specs.Prelude.{◌≡◌, ℕ, ◌≤◌, Bool, ◌&&◌, T, [], ◌∷◌, ℤ, pos, negsuc, ◌+ℤ◌, ◌-ℤ◌, ◌*ℤ◌, unsigned_abs}
use Rattle.std.proofs.Common.{sym, ◌∙◌, subst, arith, lit≤}
use Rattle.std.specs.Float.Ieee.Fits.{and_l, and_r}
use Rattle.std.proofs.lemmas.Int.{ints}
use Rattle.floats.proofs.Compared.{eqZ}
use Rattle.floats.proofs.Stated.{one_numerator}
use Rattle.floats.proofs.Ring.{num, ◌⊕◌, ◌⊖◌, ◌⊗◌, ◌⊜◌, ring}

-- ---- a row takes one coordinate, or its negative
pub data Row : Type 0 where
  x⁺ : Row
  x⁻ : Row
  y⁺ : Row
  y⁻ : Row

-- what x adds, and what y adds
abbrev pub of_x : Row → ℤ
of_x x⁺ = pos 1
of_x x⁻ = negsuc 0
of_x y⁺ = pos 0
of_x y⁻ = pos 0

abbrev pub of_y : Row → ℤ
of_y x⁺ = pos 0
of_y x⁻ = pos 0
of_y y⁺ = pos 1
of_y y⁻ = negsuc 0

pub unit_size_x : (r : Row) → unsigned_abs (of_x r) ≤ 1
unit_size_x x⁺ = lit≤ tt
unit_size_x x⁻ = lit≤ tt
unit_size_x y⁺ = lit≤ tt
unit_size_x y⁻ = lit≤ tt

pub unit_size_y : (r : Row) → unsigned_abs (of_y r) ≤ 1
unit_size_y x⁺ = lit≤ tt
unit_size_y x⁻ = lit≤ tt
unit_size_y y⁺ = lit≤ tt
unit_size_y y⁻ = lit≤ tt

abbrev pub along : Row → ℤ → ℤ → ℤ
along r k l = of_x r *ℤ k +ℤ of_y r *ℤ l

pub along_size : (r : Row) (k l : ℤ) (n : ℕ) → unsigned_abs k ≤ n → unsigned_abs l ≤ n → unsigned_abs (along r k l) ≤ n
along_size x⁺ k l n h g = omega (arith, ints)
along_size x⁻ k l n h g = omega (arith, ints)
along_size y⁺ k l n h g = omega (arith, ints)
along_size y⁻ k l n h g = omega (arith, ints)

-- ---- the eight turns, in the order of the rules
pub data Turn : Type 0 where
  t₀ : Turn
  t₁ : Turn
  t₂ : Turn
  t₃ : Turn
  t₄ : Turn
  t₅ : Turn
  t₆ : Turn
  t₇ : Turn

-- the rows (a, c) and (b, d) that carry forward
abbrev pub to_x : Turn → Row
to_x t₀ = x⁺
to_x t₁ = y⁻
to_x t₂ = x⁻
to_x t₃ = y⁺
to_x t₄ = x⁺
to_x t₅ = x⁻
to_x t₆ = y⁺
to_x t₇ = y⁻

abbrev pub to_y : Turn → Row
to_y t₀ = y⁺
to_y t₁ = x⁺
to_y t₂ = y⁻
to_y t₃ = x⁻
to_y t₄ = y⁻
to_y t₅ = y⁺
to_y t₆ = x⁺
to_y t₇ = x⁻

-- the rows (a, b) and (c, d) that take back
abbrev pub from_x : Turn → Row
from_x t₀ = x⁺
from_x t₁ = y⁺
from_x t₂ = x⁻
from_x t₃ = y⁻
from_x t₄ = x⁺
from_x t₅ = x⁻
from_x t₆ = y⁺
from_x t₇ = y⁻

abbrev pub from_y : Turn → Row
from_y t₀ = y⁺
from_y t₁ = x⁻
from_y t₂ = y⁻
from_y t₃ = x⁺
from_y t₄ = y⁻
from_y t₅ = y⁺
from_y t₆ = x⁺
from_y t₇ = x⁻

-- ---- a fact of every turn, by computation
abbrev from₇ : (Turn → Bool) → Bool
from₇ P = P t₇

abbrev from₆ : (Turn → Bool) → Bool
from₆ P = P t₆ && from₇ P

abbrev from₅ : (Turn → Bool) → Bool
from₅ P = P t₅ && from₆ P

abbrev from₄ : (Turn → Bool) → Bool
from₄ P = P t₄ && from₅ P

abbrev from₃ : (Turn → Bool) → Bool
from₃ P = P t₃ && from₄ P

abbrev from₂ : (Turn → Bool) → Bool
from₂ P = P t₂ && from₃ P

abbrev from₁ : (Turn → Bool) → Bool
from₁ P = P t₁ && from₂ P

abbrev every : (Turn → Bool) → Bool
every P = P t₀ && from₁ P

at : (P : Turn → Bool) → T (every P) → (t : Turn) → T (P t)
at P h t₀ = and_l (P t₀) (from₁ P) h
at P h t₁ = and_l (P t₁) (from₂ P) (and_r (P t₀) (from₁ P) h)
at P h t₂ = and_l (P t₂) (from₃ P) (and_r (P t₁) (from₂ P) (and_r (P t₀) (from₁ P) h))
at P h t₃ = and_l (P t₃) (from₄ P) (and_r (P t₂) (from₃ P) (and_r (P t₁) (from₂ P) (and_r (P t₀) (from₁ P) h)))
at P h t₄ = and_l (P t₄) (from₅ P) (and_r (P t₃) (from₄ P) (and_r (P t₂) (from₃ P) (and_r (P t₁) (from₂ P) (and_r (P t₀) (from₁ P) h))))
at P h t₅ = and_l (P t₅) (from₆ P) (and_r (P t₄) (from₅ P) (and_r (P t₃) (from₄ P) (and_r (P t₂) (from₃ P) (and_r (P t₁) (from₂ P) (and_r (P t₀) (from₁ P) h)))))
at P h t₆ = and_l (P t₆) (from₇ P) (and_r (P t₅) (from₆ P) (and_r (P t₄) (from₅ P) (and_r (P t₃) (from₄ P) (and_r (P t₂) (from₃ P) (and_r (P t₁) (from₂ P) (and_r (P t₀) (from₁ P) h))))))
at P h t₇ = and_r (P t₆) (from₇ P) (and_r (P t₅) (from₆ P) (and_r (P t₄) (from₅ P) (and_r (P t₃) (from₄ P) (and_r (P t₂) (from₃ P) (and_r (P t₁) (from₂ P) (and_r (P t₀) (from₁ P) h))))))

-- an equation of one turn, and of two
pub one_equal : (f g : Turn → ℤ) → T (every (λ t. eqZ (f t) (g t))) → (t : Turn) → f t ≡ g t
one_equal f g h t = one_numerator (f t) (g t) (at (λ t. eqZ (f t) (g t)) h t)

two_equal : (f g : Turn → Turn → ℤ) → T (every (λ n. every (λ m. eqZ (f n m) (g n m)))) → (n m : Turn) → f n m ≡ g n m
two_equal f g h n m = one_equal (f n) (g n) (at (λ n. every (λ m. eqZ (f n m) (g n m))) h n) m

three_equal : (f g : Turn → Turn → Turn → ℤ) → T (every (λ l. every (λ n. every (λ m. eqZ (f l n m) (g l n m))))) → (l n m : Turn) → f l n m ≡ g l n m
three_equal f g h l n m = two_equal (f l) (g l) (at (λ l. every (λ n. every (λ m. eqZ (f l n m) (g l n m)))) h l) n m

-- ---- its numbers
abbrev pub ta : Turn → ℤ
ta t = of_x (to_x t)

abbrev pub tb : Turn → ℤ
tb t = of_x (to_y t)

abbrev pub tc : Turn → ℤ
tc t = of_y (to_x t)

abbrev pub td : Turn → ℤ
td t = of_y (to_y t)

-- they are those of the rows that take back
pub back_a : (t : Turn) → ta t ≡ of_x (from_x t)
back_a = one_equal ta (λ t. of_x (from_x t)) tt

pub back_b : (t : Turn) → tb t ≡ of_y (from_x t)
back_b = one_equal tb (λ t. of_y (from_x t)) tt

pub back_c : (t : Turn) → tc t ≡ of_x (from_y t)
back_c = one_equal tc (λ t. of_x (from_y t)) tt

pub back_d : (t : Turn) → td t ≡ of_y (from_y t)
back_d = one_equal td (λ t. of_y (from_y t)) tt

-- ---- the sign
abbrev pub turn_sign : Turn → ℤ
turn_sign t = ta t *ℤ td t -ℤ tb t *ℤ tc t

-- ---- products: first m, then n
-- the turn with these rows
abbrev with_rows : Row → Row → Turn
with_rows x⁺ x⁺ = t₀
with_rows x⁺ x⁻ = t₀
with_rows x⁺ y⁺ = t₀
with_rows x⁺ y⁻ = t₄
with_rows x⁻ x⁺ = t₀
with_rows x⁻ x⁻ = t₀
with_rows x⁻ y⁺ = t₅
with_rows x⁻ y⁻ = t₂
with_rows y⁺ x⁺ = t₆
with_rows y⁺ x⁻ = t₃
with_rows y⁺ y⁺ = t₀
with_rows y⁺ y⁻ = t₀
with_rows y⁻ x⁺ = t₁
with_rows y⁻ x⁻ = t₇
with_rows y⁻ y⁺ = t₀
with_rows y⁻ y⁻ = t₀

-- a row, or the same with the other sign
abbrev turned_round : Row → Row
turned_round x⁺ = x⁻
turned_round x⁻ = x⁺
turned_round y⁺ = y⁻
turned_round y⁻ = y⁺

abbrev through : Row → Turn → Row
through x⁺ m = to_x m
through x⁻ m = turned_round (to_x m)
through y⁺ m = to_y m
through y⁻ m = turned_round (to_y m)

abbrev pub after : Turn → Turn → Turn
after n m = with_rows (through (to_x n) m) (through (to_y n) m)

pub after_a : (n m : Turn) → ta n *ℤ ta m +ℤ tc n *ℤ tb m ≡ ta (after n m)
after_a = two_equal (λ n m. ta n *ℤ ta m +ℤ tc n *ℤ tb m) (λ n m. ta (after n m)) tt

pub after_b : (n m : Turn) → tb n *ℤ ta m +ℤ td n *ℤ tb m ≡ tb (after n m)
after_b = two_equal (λ n m. tb n *ℤ ta m +ℤ td n *ℤ tb m) (λ n m. tb (after n m)) tt

pub after_c : (n m : Turn) → ta n *ℤ tc m +ℤ tc n *ℤ td m ≡ tc (after n m)
after_c = two_equal (λ n m. ta n *ℤ tc m +ℤ tc n *ℤ td m) (λ n m. tc (after n m)) tt

pub after_d : (n m : Turn) → tb n *ℤ tc m +ℤ td n *ℤ td m ≡ td (after n m)
after_d = two_equal (λ n m. tb n *ℤ tc m +ℤ td n *ℤ td m) (λ n m. td (after n m)) tt

pub after_sign : (n m : Turn) → turn_sign (after n m) ≡ turn_sign n *ℤ turn_sign m
after_sign = two_equal (λ n m. turn_sign (after n m)) (λ n m. turn_sign n *ℤ turn_sign m) tt

-- ---- forward and back
-- what is carried to, without the offset
abbrev pub fore_x : Turn → ℤ → ℤ → ℤ
fore_x t u v = ta t *ℤ u +ℤ tc t *ℤ v

abbrev pub fore_y : Turn → ℤ → ℤ → ℤ
fore_y t u v = tb t *ℤ u +ℤ td t *ℤ v

-- what is taken back, once the offset is subtracted
abbrev pub hind_x : Turn → ℤ → ℤ → ℤ
hind_x t u v = ta t *ℤ u +ℤ tb t *ℤ v

abbrev pub hind_y : Turn → ℤ → ℤ → ℤ
hind_y t u v = tc t *ℤ u +ℤ td t *ℤ v

pub fore_x_size : (t : Turn) (u v : ℤ) (n : ℕ) → unsigned_abs u ≤ n → unsigned_abs v ≤ n → unsigned_abs (fore_x t u v) ≤ n
fore_x_size t = along_size (to_x t)

pub fore_y_size : (t : Turn) (u v : ℤ) (n : ℕ) → unsigned_abs u ≤ n → unsigned_abs v ≤ n → unsigned_abs (fore_y t u v) ≤ n
fore_y_size t = along_size (to_y t)

pub hind_x_size : (t : Turn) (u v : ℤ) (n : ℕ) → unsigned_abs u ≤ n → unsigned_abs v ≤ n → unsigned_abs (hind_x t u v) ≤ n
hind_x_size t u v n h g = subst (λ (z : ℤ). unsigned_abs z ≤ n) (λ i. sym (back_a t) i *ℤ u +ℤ sym (back_b t) i *ℤ v) (along_size (from_x t) u v n h g)

pub hind_y_size : (t : Turn) (u v : ℤ) (n : ℕ) → unsigned_abs u ≤ n → unsigned_abs v ≤ n → unsigned_abs (hind_y t u v) ≤ n
hind_y_size t u v n h g = subst (λ (z : ℤ). unsigned_abs z ≤ n) (λ i. sym (back_c t) i *ℤ u +ℤ sym (back_d t) i *ℤ v) (along_size (from_y t) u v n h g)

-- the columns of a turn have length 1 and stand upright on each other, and so do its rows
unit_a : (t : Turn) → ta t *ℤ ta t +ℤ tb t *ℤ tb t ≡ pos 1
unit_a = one_equal (λ t. ta t *ℤ ta t +ℤ tb t *ℤ tb t) (λ t. pos 1) tt

unit_d : (t : Turn) → tc t *ℤ tc t +ℤ td t *ℤ td t ≡ pos 1
unit_d = one_equal (λ t. tc t *ℤ tc t +ℤ td t *ℤ td t) (λ t. pos 1) tt

upright : (t : Turn) → ta t *ℤ tc t +ℤ tb t *ℤ td t ≡ pos 0
upright = one_equal (λ t. ta t *ℤ tc t +ℤ tb t *ℤ td t) (λ t. pos 0) tt

row_a : (t : Turn) → ta t *ℤ ta t +ℤ tc t *ℤ tc t ≡ pos 1
row_a = one_equal (λ t. ta t *ℤ ta t +ℤ tc t *ℤ tc t) (λ t. pos 1) tt

row_d : (t : Turn) → tb t *ℤ tb t +ℤ td t *ℤ td t ≡ pos 1
row_d = one_equal (λ t. tb t *ℤ tb t +ℤ td t *ℤ td t) (λ t. pos 1) tt

row_upright : (t : Turn) → ta t *ℤ tb t +ℤ tc t *ℤ td t ≡ pos 0
row_upright = one_equal (λ t. ta t *ℤ tb t +ℤ tc t *ℤ td t) (λ t. pos 0) tt

-- back, of a point beside one that was carried forward
pub back_x : (t : Turn) (x y u v : ℤ) → hind_x t (x -ℤ fore_x t u v) (y -ℤ fore_y t u v) ≡ hind_x t x y -ℤ u
back_x t x y u v =
    ring (ta t ∷ tb t ∷ tc t ∷ td t ∷ x ∷ y ∷ u ∷ v ∷ [])
    (λ a b c d x y u v. a ⊗ (x ⊖ (a ⊗ u ⊕ c ⊗ v)) ⊕ b ⊗ (y ⊖ (b ⊗ u ⊕ d ⊗ v)) ⊜ (a ⊗ x ⊕ b ⊗ y ⊖ (a ⊗ a ⊕ b ⊗ b) ⊗ u) ⊖ (a ⊗ c ⊕ b ⊗ d) ⊗ v) tt
    ∙ (λ i. (hind_x t x y -ℤ unit_a t i *ℤ u) -ℤ upright t i *ℤ v)
    ∙ ring (hind_x t x y ∷ u ∷ v ∷ []) (λ h u v. (h ⊖ num (pos 1) ⊗ u) ⊖ num (pos 0) ⊗ v ⊜ h ⊖ u) tt

pub back_y : (t : Turn) (x y u v : ℤ) → hind_y t (x -ℤ fore_x t u v) (y -ℤ fore_y t u v) ≡ hind_y t x y -ℤ v
back_y t x y u v =
    ring (ta t ∷ tb t ∷ tc t ∷ td t ∷ x ∷ y ∷ u ∷ v ∷ [])
    (λ a b c d x y u v. c ⊗ (x ⊖ (a ⊗ u ⊕ c ⊗ v)) ⊕ d ⊗ (y ⊖ (b ⊗ u ⊕ d ⊗ v)) ⊜ (c ⊗ x ⊕ d ⊗ y ⊖ (a ⊗ c ⊕ b ⊗ d) ⊗ u) ⊖ (c ⊗ c ⊕ d ⊗ d) ⊗ v) tt
    ∙ (λ i. (hind_y t x y -ℤ upright t i *ℤ u) -ℤ unit_d t i *ℤ v)
    ∙ ring (hind_y t x y ∷ u ∷ v ∷ []) (λ h u v. (h ⊖ num (pos 0) ⊗ u) ⊖ num (pos 1) ⊗ v ⊜ h ⊖ v) tt

-- forward, of a point that was taken back
pub fore_hind_x : (t : Turn) (x y : ℤ) → fore_x t (hind_x t x y) (hind_y t x y) ≡ x
fore_hind_x t x y =
    ring (ta t ∷ tb t ∷ tc t ∷ td t ∷ x ∷ y ∷ [])
    (λ a b c d x y. a ⊗ (a ⊗ x ⊕ b ⊗ y) ⊕ c ⊗ (c ⊗ x ⊕ d ⊗ y) ⊜ (a ⊗ a ⊕ c ⊗ c) ⊗ x ⊕ (a ⊗ b ⊕ c ⊗ d) ⊗ y) tt
    ∙ (λ i. row_a t i *ℤ x +ℤ row_upright t i *ℤ y)
    ∙ ring (x ∷ y ∷ []) (λ x y. num (pos 1) ⊗ x ⊕ num (pos 0) ⊗ y ⊜ x) tt

pub fore_hind_y : (t : Turn) (x y : ℤ) → fore_y t (hind_x t x y) (hind_y t x y) ≡ y
fore_hind_y t x y =
    ring (ta t ∷ tb t ∷ tc t ∷ td t ∷ x ∷ y ∷ [])
    (λ a b c d x y. b ⊗ (a ⊗ x ⊕ b ⊗ y) ⊕ d ⊗ (c ⊗ x ⊕ d ⊗ y) ⊜ (a ⊗ b ⊕ c ⊗ d) ⊗ x ⊕ (b ⊗ b ⊕ d ⊗ d) ⊗ y) tt
    ∙ (λ i. row_upright t i *ℤ x +ℤ row_d t i *ℤ y)
    ∙ ring (x ∷ y ∷ []) (λ x y. num (pos 0) ⊗ x ⊕ num (pos 1) ⊗ y ⊜ y) tt

-- back, of a point that was carried forward
pub hind_fore_x : (t : Turn) (u v : ℤ) → hind_x t (fore_x t u v) (fore_y t u v) ≡ u
hind_fore_x t u v =
    ring (ta t ∷ tb t ∷ tc t ∷ td t ∷ u ∷ v ∷ [])
    (λ a b c d u v. a ⊗ (a ⊗ u ⊕ c ⊗ v) ⊕ b ⊗ (b ⊗ u ⊕ d ⊗ v) ⊜ (a ⊗ a ⊕ b ⊗ b) ⊗ u ⊕ (a ⊗ c ⊕ b ⊗ d) ⊗ v) tt
    ∙ (λ i. unit_a t i *ℤ u +ℤ upright t i *ℤ v)
    ∙ ring (u ∷ v ∷ []) (λ u v. num (pos 1) ⊗ u ⊕ num (pos 0) ⊗ v ⊜ u) tt

pub hind_fore_y : (t : Turn) (u v : ℤ) → hind_y t (fore_x t u v) (fore_y t u v) ≡ v
hind_fore_y t u v =
    ring (ta t ∷ tb t ∷ tc t ∷ td t ∷ u ∷ v ∷ [])
    (λ a b c d u v. c ⊗ (a ⊗ u ⊕ c ⊗ v) ⊕ d ⊗ (b ⊗ u ⊕ d ⊗ v) ⊜ (a ⊗ c ⊕ b ⊗ d) ⊗ u ⊕ (c ⊗ c ⊕ d ⊗ d) ⊗ v) tt
    ∙ (λ i. upright t i *ℤ u +ℤ unit_d t i *ℤ v)
    ∙ ring (u ∷ v ∷ []) (λ u v. num (pos 0) ⊗ u ⊕ num (pos 1) ⊗ v ⊜ v) tt

-- ---- one after the other
pub after_fore_x : (n m : Turn) (u v : ℤ) → fore_x (after n m) u v ≡ fore_x n (fore_x m u v) (fore_y m u v)
after_fore_x n m u v =
    (λ i. sym (after_a n m) i *ℤ u +ℤ sym (after_c n m) i *ℤ v)
    ∙ ring (ta n ∷ tc n ∷ ta m ∷ tb m ∷ tc m ∷ td m ∷ u ∷ v ∷ [])
    (λ a c e f g h u v. (a ⊗ e ⊕ c ⊗ f) ⊗ u ⊕ (a ⊗ g ⊕ c ⊗ h) ⊗ v ⊜ a ⊗ (e ⊗ u ⊕ g ⊗ v) ⊕ c ⊗ (f ⊗ u ⊕ h ⊗ v)) tt

pub after_fore_y : (n m : Turn) (u v : ℤ) → fore_y (after n m) u v ≡ fore_y n (fore_x m u v) (fore_y m u v)
after_fore_y n m u v =
    (λ i. sym (after_b n m) i *ℤ u +ℤ sym (after_d n m) i *ℤ v)
    ∙ ring (tb n ∷ td n ∷ ta m ∷ tb m ∷ tc m ∷ td m ∷ u ∷ v ∷ [])
    (λ b d e f g h u v. (b ⊗ e ⊕ d ⊗ f) ⊗ u ⊕ (b ⊗ g ⊕ d ⊗ h) ⊗ v ⊜ b ⊗ (e ⊗ u ⊕ g ⊗ v) ⊕ d ⊗ (f ⊗ u ⊕ h ⊗ v)) tt

pub after_hind_x : (n m : Turn) (u v : ℤ) → hind_x (after n m) u v ≡ hind_x m (hind_x n u v) (hind_y n u v)
after_hind_x n m u v =
    (λ i. sym (after_a n m) i *ℤ u +ℤ sym (after_b n m) i *ℤ v)
    ∙ ring (ta n ∷ tb n ∷ tc n ∷ td n ∷ ta m ∷ tb m ∷ u ∷ v ∷ [])
    (λ a b c d e f u v. (a ⊗ e ⊕ c ⊗ f) ⊗ u ⊕ (b ⊗ e ⊕ d ⊗ f) ⊗ v ⊜ e ⊗ (a ⊗ u ⊕ b ⊗ v) ⊕ f ⊗ (c ⊗ u ⊕ d ⊗ v)) tt

pub after_hind_y : (n m : Turn) (u v : ℤ) → hind_y (after n m) u v ≡ hind_y m (hind_x n u v) (hind_y n u v)
after_hind_y n m u v =
    (λ i. sym (after_c n m) i *ℤ u +ℤ sym (after_d n m) i *ℤ v)
    ∙ ring (ta n ∷ tb n ∷ tc n ∷ td n ∷ tc m ∷ td m ∷ u ∷ v ∷ [])
    (λ a b c d g h u v. (a ⊗ g ⊕ c ⊗ h) ⊗ u ⊕ (b ⊗ g ⊕ d ⊗ h) ⊗ v ⊜ g ⊗ (a ⊗ u ⊕ b ⊗ v) ⊕ h ⊗ (c ⊗ u ⊕ d ⊗ v)) tt

-- taken back through a product: its offset is that of m, carried by n, and then that of n
parted : (u a e : ℤ) → u -ℤ (a +ℤ e) ≡ (u -ℤ e) -ℤ a
parted u a e = ring (u ∷ a ∷ e ∷ []) (λ u a e. u ⊖ (a ⊕ e) ⊜ (u ⊖ e) ⊖ a) tt

back_part_x : (n : Turn) (e f k l u v : ℤ) → hind_x n (u -ℤ (fore_x n k l +ℤ e)) (v -ℤ (fore_y n k l +ℤ f)) ≡ hind_x n (u -ℤ e) (v -ℤ f) -ℤ k
back_part_x n e f k l u v = (λ i. hind_x n (parted u (fore_x n k l) e i) (parted v (fore_y n k l) f i)) ∙ back_x n (u -ℤ e) (v -ℤ f) k l

back_part_y : (n : Turn) (e f k l u v : ℤ) → hind_y n (u -ℤ (fore_x n k l +ℤ e)) (v -ℤ (fore_y n k l +ℤ f)) ≡ hind_y n (u -ℤ e) (v -ℤ f) -ℤ l
back_part_y n e f k l u v = (λ i. hind_y n (parted u (fore_x n k l) e i) (parted v (fore_y n k l) f i)) ∙ back_y n (u -ℤ e) (v -ℤ f) k l

pub after_back_x : (n m : Turn) (e f k l u v : ℤ)
    → hind_x (after n m) (u -ℤ (fore_x n k l +ℤ e)) (v -ℤ (fore_y n k l +ℤ f)) ≡ hind_x m (hind_x n (u -ℤ e) (v -ℤ f) -ℤ k) (hind_y n (u -ℤ e) (v -ℤ f) -ℤ l)
after_back_x n m e f k l u v =
    after_hind_x n m (u -ℤ (fore_x n k l +ℤ e)) (v -ℤ (fore_y n k l +ℤ f)) ∙ (λ i. hind_x m (back_part_x n e f k l u v i) (back_part_y n e f k l u v i))

pub after_back_y : (n m : Turn) (e f k l u v : ℤ)
    → hind_y (after n m) (u -ℤ (fore_x n k l +ℤ e)) (v -ℤ (fore_y n k l +ℤ f)) ≡ hind_y m (hind_x n (u -ℤ e) (v -ℤ f) -ℤ k) (hind_y n (u -ℤ e) (v -ℤ f) -ℤ l)
after_back_y n m e f k l u v =
    after_hind_y n m (u -ℤ (fore_x n k l +ℤ e)) (v -ℤ (fore_y n k l +ℤ f)) ∙ (λ i. hind_y m (back_part_x n e f k l u v i) (back_part_y n e f k l u v i))

-- a sum of two points
pub fore_sum : (r : Row) (u v k l : ℤ) → along r (u +ℤ k) (v +ℤ l) ≡ along r u v +ℤ along r k l
fore_sum r u v k l = ring (of_x r ∷ of_y r ∷ u ∷ v ∷ k ∷ l ∷ []) (λ a c u v k l. a ⊗ (u ⊕ k) ⊕ c ⊗ (v ⊕ l) ⊜ (a ⊗ u ⊕ c ⊗ v) ⊕ (a ⊗ k ⊕ c ⊗ l)) tt

-- three turns
pub after_assoc_a : (l n m : Turn) → ta (after (after l n) m) ≡ ta (after l (after n m))
after_assoc_a = three_equal (λ l n m. ta (after (after l n) m)) (λ l n m. ta (after l (after n m))) tt

pub after_assoc_b : (l n m : Turn) → tb (after (after l n) m) ≡ tb (after l (after n m))
after_assoc_b = three_equal (λ l n m. tb (after (after l n) m)) (λ l n m. tb (after l (after n m))) tt

pub after_assoc_c : (l n m : Turn) → tc (after (after l n) m) ≡ tc (after l (after n m))
after_assoc_c = three_equal (λ l n m. tc (after (after l n) m)) (λ l n m. tc (after l (after n m))) tt

pub after_assoc_d : (l n m : Turn) → td (after (after l n) m) ≡ td (after l (after n m))
after_assoc_d = three_equal (λ l n m. td (after (after l n) m)) (λ l n m. td (after l (after n m))) tt
