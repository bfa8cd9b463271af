-- A point lies within a radius of the shrunk box just where its distances past the circles' centres, counted from the middle, say so. Assumes nothing.
use Rattle.std.specs.Prelude.{◌≡◌, ◌*◌, ◌≤◌, Bool, true, false, cond, ◌&&◌, T, ℤ, pos, negsuc, ◌+ℤ◌, ◌-ℤ◌, ◌*ℤ◌, ◌≤ℤ◌, int_le, unsigned_abs, refl}
use Rattle.std.proofs.Common.{sym, ◌∙◌, mul-le-mul, arith}
use Rattle.std.proofs.Math.IntN.{negsuc-*ℤ-negsuc}
use Rattle.std.specs.Int.Signed.{le_z_yes}
use Rattle.std.proofs.Math.Facts.{and_yes, yes_and}
use Rattle.std.specs.Int.{int_min, int_max}
use Rattle.std.proofs.lemmas.Int.{ints, clamps, by_lt_z}
use Rattle.plane.specs.Winding.{Gives}
use Rattle.rounded.specs.Shrunk.{twice, Inside, NearShrunk}

-- ---- the test, over whole numbers
-- how far t, counted from the middle, lies past the circle's centre: m is half the side and q the radius
abbrev pub pastZ : ℤ → ℤ → ℤ → ℤ
pastZ m q t = int_max (pos (unsigned_abs t) -ℤ int_max (m -ℤ q) (pos 0)) (pos 0)

-- from the middle of a side from a / 256 to c / 256, in units of 1/512
abbrev pub from_middle : ℤ → ℤ → ℤ → ℤ
from_middle a c u = twice u -ℤ (a +ℤ c)

abbrev pub boxedZ : ℤ → ℤ → ℤ → ℤ → ℤ → ℤ → Bool
boxedZ a b c d u v = int_le (int_min a c) u && (int_le u (int_max a c) && (int_le (int_min b d) v && int_le v (int_max b d)))

abbrev pub reachedZ : ℤ → ℤ → ℤ → ℤ → ℤ → ℤ → ℤ → Bool
reachedZ a b c d q u v =
    int_le (pastZ (c -ℤ a) q (from_middle a c u) *ℤ pastZ (c -ℤ a) q (from_middle a c u)
    +ℤ pastZ (d -ℤ b) q (from_middle b d v) *ℤ pastZ (d -ℤ b) q (from_middle b d v)) (q *ℤ q)

abbrev pub windZ : ℤ → ℤ → ℤ → ℤ → ℤ → ℤ → ℤ → ℤ
windZ a b c d q u v = cond (boxedZ a b c d u v) (cond (reachedZ a b c d q u v) (pos 1) (pos 0)) (pos 0)

-- ---- squares keep the order of sizes
square_is : (z : ℤ) → z *ℤ z ≡ pos (unsigned_abs z * unsigned_abs z)
square_is (pos n) = refl
square_is (negsuc n) = negsuc-*ℤ-negsuc n n

squares : (s t : ℤ) → unsigned_abs s ≤ unsigned_abs t → (s *ℤ s) ≤ℤ (t *ℤ t)
squares s t h = omega (arith, ints, square_is s, square_is t, mul-le-mul h h)

sums : {a b c d q : ℤ} → a ≤ℤ c → b ≤ℤ d → (c +ℤ d) ≤ℤ q → (a +ℤ b) ≤ℤ q
sums {a} {b} {c} {d} {q} h k l = omega (arith, ints)

-- ---- on one axis
-- of the shrunk side, the nearest to u
abbrev nearest : ℤ → ℤ → ℤ → ℤ → ℤ
nearest a c q u = int_max (twice a +ℤ q) (int_min (twice u) (twice c -ℤ q))

module _ (a c q u : ℤ) (Q : pos 0 ≤ℤ q) (C : q ≤ℤ (c -ℤ a)) where
  from_shrunk : (twice a +ℤ q) ≤ℤ nearest a c q u
  from_shrunk = omega (arith, ints, clamps)

  to_shrunk : nearest a c q u ≤ℤ (twice c -ℤ q)
  to_shrunk = omega (arith, ints, clamps)

  abbrev distance : ℤ
  distance = pastZ (c -ℤ a) q (from_middle a c u)

  -- no farther than the distance from it, and from no number of the shrunk side nearer
  nearest_square : ((twice u -ℤ nearest a c q u) *ℤ (twice u -ℤ nearest a c q u)) ≤ℤ (distance *ℤ distance)
  nearest_square = squares (twice u -ℤ nearest a c q u) distance (omega (arith, ints, clamps))

  distance_square : (x : ℤ) → (twice a +ℤ q) ≤ℤ x → x ≤ℤ (twice c -ℤ q) → (distance *ℤ distance) ≤ℤ ((twice u -ℤ x) *ℤ (twice u -ℤ x))
  distance_square x h k = squares distance (twice u -ℤ x) (omega (arith, ints, clamps))

  -- the box on this axis
  from_side : twice a ≤ℤ twice u → int_min a c ≤ℤ u
  from_side h = omega (arith, ints, clamps)

  to_side : twice u ≤ℤ twice c → u ≤ℤ int_max a c
  to_side h = omega (arith, ints, clamps)

  side_from : int_min a c ≤ℤ u → twice a ≤ℤ twice u
  side_from h = omega (arith, ints, clamps)

  side_to : u ≤ℤ int_max a c → twice u ≤ℤ twice c
  side_to h = omega (arith, ints, clamps)

-- ---- both
answered : {H : Type 0} (s t : Bool) → (H → T s × T t) → (T s → T t → H) → Gives H (pos 1) (cond s (cond t (pos 1) (pos 0)) (pos 0))
answered true true f g = record { inside = λ h. refl; outside = λ n. absurd (n (g tt tt)) }
answered true false f g = record { inside = λ h. absurd (f h).1; outside = λ n. refl }
answered false t f g = record { inside = λ h. absurd (f h).0; outside = λ n. refl }

module _ (a b c d q u v : ℤ) (Q : pos 0 ≤ℤ q) (C : q ≤ℤ (c -ℤ a)) (D : q ≤ℤ (d -ℤ b)) where
  abbrev Holds : Type 0
  Holds = Inside (twice a) (twice b) (twice c) (twice d) (twice u) (twice v) × NearShrunk (twice a) (twice b) (twice c) (twice d) q (twice u) (twice v)

  tested : Holds → T (boxedZ a b c d u v) × T (reachedZ a b c d q u v)
  tested h =
      let i = h.0 in
      let n = h.1 in
      let w = n.there in (
        yes_and _ _ (from_side a c q u Q C i.left).le (yes_and _ _ (to_side a c q u Q C i.right).le
            (yes_and _ _ (from_side b d q v Q D i.above).le (to_side b d q v Q D i.below).le)),
        (sums (distance_square a c q u Q C n.x w.left w.right) (distance_square b d q v Q D n.y w.above w.below) n.near).le,
      )

  holds : T (boxedZ a b c d u v) → T (reachedZ a b c d q u v) → Holds
  holds s t =
      let e = and_yes _ _ s in
      let f = and_yes _ _ e.1 in
      let g = and_yes _ _ f.1 in (
        record {
          left = side_from a c q u Q C (le_z_yes e.0);
          right = side_to a c q u Q C (le_z_yes f.0);
          above = side_from b d q v Q D (le_z_yes g.0);
          below = side_to b d q v Q D (le_z_yes g.1);
        },
        record {
          x = nearest a c q u;
          y = nearest b d q v;
          there = record { left = from_shrunk a c q u Q C; right = to_shrunk a c q u Q C; above = from_shrunk b d q v Q D; below = to_shrunk b d q v Q D };
          near = sums (nearest_square a c q u Q C) (nearest_square b d q v Q D) (le_z_yes t);
        },
      )

  pub near_rule : Gives Holds (pos 1) (windZ a b c d q u v)
  near_rule = answered _ _ tested holds

-- ---- the quarter: at or past the middle
pub past_middle : (a c u : ℤ) → int_le (pos 0) (from_middle a c u) ≡ int_le (twice a +ℤ twice c) (twice (twice u))
past_middle a c u = by_lt_z (twice u) (a +ℤ c)
    (λ h. let p : int_le (pos 0) (from_middle a c u) ≡ false = grind (arith, ints) in let q : int_le (twice a +ℤ twice c) (twice (twice u)) ≡ false = grind (arith, ints) in p ∙ sym q)
    (λ h. let p : int_le (pos 0) (from_middle a c u) ≡ true = grind (arith, ints) in let q : int_le (twice a +ℤ twice c) (twice (twice u)) ≡ true = grind (arith, ints) in p ∙ sym q)
