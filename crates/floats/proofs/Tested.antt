-- The tests for grid numbers and for sizes hold of just the numbers that they name. Assumes nothing.
use Rattle.std.proofs.Common.{◌≡◌, ℕ, ◌*◌, ◌/◌, ◌%◌, ◌^◌, ◌<◌, Bool, true, false, T, eqb, leb, ℤ, pos, nat_abs, sym, refl, ap, ◌∙◌, subst, div-add-mod', arith, eqb→eq}
use native.Mathlib.Nat.{mul-mod_left}
use lib.Dec.{eqb_refl}
use lib.Ieee.{Float, nan, inf, fin, binary64, of_int, up, down, eq}
use lib.Ieee.Scale.{finite}
use Rattle.std.specs.Float.{float_with_sign}
use Rattle.floats.specs.Value.{signed, Is, In}
use Rattle.floats.specs.Page.{GridNumber, UpTo, on_grid, up_to}
use Rattle.floats.proofs.Compared.{is_le, is_eq, is_eq_test}
use Rattle.floats.proofs.Sizes.{abs_is, eq_is, whole_is, up_to_only, up_to_every}
use Rattle.floats.proofs.Sums.{common}
use Rattle.floats.proofs.Grids.{whole_float}
use Rattle.floats.proofs.Stated.{one_numerator}

-- ---- a test that agrees with another on what both name
pub one_test : (r t : Bool) → (T r → T t) → (T t → T r) → r ≡ t
one_test true true f g = refl
one_test true false f g = absurd (f tt)
one_test false true f g = absurd (g tt)
one_test false false f g = refl

-- ---- grid numbers
pub on_grid_only : (x : Float) → T (on_grid x) → GridNumber x
on_grid_only nan t = absurd t
on_grid_only (inf s) t = absurd t
on_grid_only (fin s m e) t =
    let v = m * up e * 256 in
    let whole : v ≡ v / down e * down e =
    let z : v % down e ≡ 0 = eqb→eq (v % down e) 0 t in
    omega (arith, div-add-mod' v (down e), z) in
    (signed s (v / down e), (s, v / down e, (refl, whole), refl))

pub on_grid_every : (x : Float) → GridNumber x → T (on_grid x)
on_grid_every nan g = absurd g.1.2
on_grid_every (inf s) g = absurd g.1.2
on_grid_every (fin s m e) g =
    let none : m * up e * 256 % down e ≡ 0 = ap (λ (n : ℕ). n % down e) g.1.2.1 ∙ mul-mod_left g.1.1 (down e) in
    subst (λ (n : ℕ). T (eqb n 0)) (sym none) (eqb_refl 0)

pub grid_test : (x : Float) (r : Bool) → (T r → GridNumber x) → (GridNumber x → T r) → r ≡ on_grid x
grid_test x r f g = one_test r (on_grid x) (λ t. on_grid_every x (f t)) (λ t. g (on_grid_only x t))

-- ---- sizes
pub up_to_named : (n : ℕ) (x : Float) → n < 2 ^ 53 → T (up_to n x) → UpTo n x
up_to_named n x h = up_to_only x (of_int binary64 (pos n)) n (whole_float n h)

pub up_to_tested : (n : ℕ) (x : Float) → n < 2 ^ 53 → UpTo n x → T (up_to n x)
up_to_tested n x h = up_to_every x (of_int binary64 (pos n)) n (whole_float n h)

pub up_to_test : (n : ℕ) (x : Float) (r : Bool) → n < 2 ^ 53 → (T r → UpTo n x) → (UpTo n x → T r) → r ≡ up_to n x
up_to_test n x r h f g = one_test r (up_to n x) (λ t. up_to_tested n x h (f t)) (λ t. g (up_to_named n x h t))

-- the test of a fraction of 256
pub up_to_whole : {x : Float} {k : ℤ} {m : ℕ} (n : ℕ) → n < 2 ^ 53 → In x k 8 m → up_to n x ≡ leb (nat_abs k) (n * 256)
up_to_whole {x} {k} n h v =
    is_le (float_with_sign false x) (of_int binary64 (pos n)) (pos (nat_abs k)) (pos (n * 256)) 256 (omega arith)
    (abs_is x k 256 v.val) (whole_is (of_int binary64 (pos n)) n 256 (whole_float n h))

-- ---- a float that equals another has its value
equal_finite : (x y : Float) → T (eq x y) → T (finite y) → T (finite x)
unfolding eq
equal_finite nan y t f = t
equal_finite (inf s) nan t f = f
equal_finite (inf s) (inf u) t f = f
equal_finite (inf s) (fin u n d) t f = t
equal_finite (fin s m e) y t f = tt

is_fin : (y : Float) (k : ℤ) (c : ℕ) → Is y k c → T (finite y)
is_fin nan k c v = absurd v.2
is_fin (inf s) k c v = absurd v.2
is_fin (fin s m e) k c v = tt

pub equal_is : (x y : Float) (k : ℤ) (c : ℕ) → 0 < c → Is y k c → T (eq x y) → Is x k c
equal_is x y k c C v t =
    let f = is_fin y k c v in
    let m = common x y y (equal_finite x y t f) f f in
    let same : m.k ≡ m.l = one_numerator m.k m.l (subst T (is_eq_test x y m.k m.l m.c m.above m.first m.second) t) in
    let back : T (eq y x) = subst T (sym (is_eq y x m.l m.k m.c m.above m.second m.first (sym same))) tt in
    eq_is y x k c C v back
