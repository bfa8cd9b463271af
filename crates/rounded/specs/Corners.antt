-- The winding of a rounded rectangle keeps the laws of windings, and is the whole-number rule on the grid. Assumes nothing.
use Rattle.std.specs.Prelude.{◌≡◌, ℕ, ◌≤◌, Bool, true, false, cond, ◌&&◌, T, ℤ, pos, ◌+ℤ◌, ◌-ℤ◌, ◌*ℤ◌, ◌≤ℤ◌, int_le, unsigned_abs, Float}
use Rattle.std.proofs.Common.{sym, ap, ◌∙◌, subst, arith}
use Rattle.std.specs.Float.{binary64}
use Rattle.std.specs.Float.Ieee.{add, sub, mul, div, le}
use Rattle.std.specs.Int.{int_min}
use Rattle.std.proofs.lemmas.Int.{ints, clamps}
use Rattle.floats.specs.Value.{In}
use Rattle.floats.specs.Page.{Grid}
use Rattle.floats.specs.Zeros.{Alike}
use Rattle.floats.proofs.Alike.{zeros_agree}
use Rattle.floats.proofs.Bounded.{in_add, in_sub, in_mul, in_abs, in_le, in_min, in_max}
use Rattle.plane.specs.declared.point.Point.{Point}
use Rattle.plane.specs.declared.rect.Rect.{Rect}
use Rattle.plane.specs.declared.vec2.Vec2.{Vec2}
use Rattle.plane.specs.Points.{GridPoint, Same}
use Rattle.plane.specs.Rects.{box, closed}
use Rattle.plane.specs.Vectors.{from_to}
use Rattle.plane.specs.Winding.{Lawful}
use Rattle.plane.specs.Equals.{alike_refl, SameVec, to_same}
use Rattle.plane.specs.Enclosed.{enclosed_lawful}
use Rattle.rounded.specs.declared.rounded_rect.RoundedRect.{RoundedRect}
use Rattle.rounded.specs.declared.rounded_rect_radii.RoundedRectRadii.{RoundedRectRadii}
use Rattle.rounded.specs.Roundings.{zero, half, two, width, height, middle, radius_at, past, reaches, reached, wind, SoundRadius, Sound, GridRounded}
use Rattle.rounded.specs.Shrunk.{twice, shorter, corner_radius, RuleOfRounded}
use Rattle.rounded.specs.Halves.{zero_in, half_in, in_half, in_fine}
use Rattle.rounded.specs.Nearest.{pastZ, from_middle, boxedZ, reachedZ, windZ, near_rule, past_middle}

-- ---- the laws
same_radius : (k : RoundedRectRadii) (v w : Vec2) → SameVec v w → radius_at k v ≡ radius_at k w
same_radius k v w s =
    let X : le zero v.x ≡ le zero w.x = zeros_agree.of_le zero zero v.x w.x (alike_refl zero) s.x in
    let Y : le zero v.y ≡ le zero w.y = zeros_agree.of_le zero zero v.y w.y (alike_refl zero) s.y in
    λ i. cond (Y i) (cond (X i) k.bottom_right k.bottom_left) (cond (X i) k.top_right k.top_left)

same_past : (h r x y : Float) → Alike x y → Alike (past h r x) (past h r y)
same_past h r x y s = zeros_agree.of_max _ _ _ _ (zeros_agree.of_sub _ _ _ _ (zeros_agree.of_abs x y s) (alike_refl _)) (alike_refl zero)

same_reaches : (b : Rect) (r : Float) (v w : Vec2) → SameVec v w → reaches b r v ≡ reaches b r w
same_reaches b r v w s =
    let X = same_past (div binary64 (width b) two) r v.x w.x s.x in
    let Y = same_past (div binary64 (height b) two) r v.y w.y s.y in
    zeros_agree.of_le _ _ _ _ (zeros_agree.of_add _ _ _ _ (zeros_agree.of_mul _ _ _ _ X X) (zeros_agree.of_mul _ _ _ _ Y Y)) (alike_refl (mul binary64 r r))

same_reached : (s : RoundedRect) (p q : Point) → Same p q → reached s q ≡ reached s p
same_reached s p q e =
    let V = to_same (middle s.rect) p q e in
    let v = from_to (middle s.rect) q in
    let w = from_to (middle s.rect) p in
    ap (λ (r : Float). reaches s.rect r v) (same_radius s.radii v w V) ∙ same_reaches s.rect (radius_at s.radii w) v w V

pub rounded_lawful : (s : RoundedRect) (p : Point) → Lawful (wind s) (box s.rect) p
rounded_lawful s p = enclosed_lawful (box s.rect) (reached s) (same_reached s) p

-- ---- on the grid
-- a coordinate, counted from the middle of a side
in_middle : {x y z : Float} {a c u : ℤ} → Grid x a → Grid y c → Grid z u → In (sub binary64 z (mul binary64 half (add binary64 x y))) (from_middle a c u) 9 33554432
in_middle {x} {y} {z} {a} {c} {u} X Y Z =
    subst (λ (k : ℤ). In (sub binary64 z (mul binary64 half (add binary64 x y))) k 9 33554432) (one_time (twice u) (a +ℤ c))
    (in_sub tt tt (in_fine Z) (in_mul tt tt half_in (in_add tt tt X Y)))
  where
    one_time : (k l : ℤ) → k -ℤ pos 1 *ℤ l ≡ k -ℤ l
    one_time k l = omega (arith, ints)

-- what is left of a length is not longer
in_past : {h r x : Float} {m q t : ℤ} → In h m 9 16777216 → In r q 9 16777216 → In x t 9 33554432 → In (past h r x) (pastZ m q t) 9 33554432
in_past {h} {r} {x} {m} {q} {t} H R X = record {
  val = (in_max (in_sub tt tt (in_abs X) (in_max (in_sub tt tt H R) (zero_in 33554432))) (zero_in 67108864)).val;
  size = no_longer m q t X.size;
}
  where
    no_longer : (m q t : ℤ) → unsigned_abs t ≤ 33554432 → unsigned_abs (pastZ m q t) ≤ 33554432
    no_longer m q t h = omega (arith, ints, clamps)

in_either : {x y : Float} {k l : ℤ} {i n : ℕ} (s : Bool) → In x k i n → In y l i n → In (cond s x y) (cond s k l) i n
in_either true v w = v
in_either false v w = w

-- what holds of each of four holds of the one that is chosen
either_of : (P : ℤ → Type 0) (s t : Bool) (i j k l : ℤ) → P i → P j → P k → P l → P (cond s (cond t k l) (cond t j i))
either_of P true true i j k l p q r o = r
either_of P true false i j k l p q r o = o
either_of P false true i j k l p q r o = q
either_of P false false i j k l p q r o = p

module _ (s : RoundedRect) (p : Point) (a b c d i j k l u v : ℤ) (G : GridRounded s a b c d i j k l) (P : GridPoint p u v) where
  abbrev right : Bool
  right = int_le (twice a +ℤ twice c) (twice (twice u))

  abbrev low : Bool
  low = int_le (twice b +ℤ twice d) (twice (twice v))

  abbrev radius : ℤ
  radius = corner_radius (twice a) (twice b) (twice c) (twice d) i j k l (twice u) (twice v)

  abbrev offset : Vec2
  offset = from_to (middle s.rect) p

  x_in : In offset.x (from_middle a c u) 9 33554432
  x_in = in_middle G.sides.x0 G.sides.x1 P.x

  y_in : In offset.y (from_middle b d v) 9 33554432
  y_in = in_middle G.sides.y0 G.sides.y1 P.y

  is_right : le zero offset.x ≡ right
  is_right = in_le (zero_in 0) x_in ∙ past_middle a c u

  is_low : le zero offset.y ≡ low
  is_low = in_le (zero_in 0) y_in ∙ past_middle b d v

  abbrev chosen : Float
  chosen = cond low (cond right s.radii.bottom_right s.radii.bottom_left) (cond right s.radii.top_right s.radii.top_left)

  radius_chosen : radius_at s.radii offset ≡ chosen
  radius_chosen = λ n. cond (is_low n) (cond (is_right n) s.radii.bottom_right s.radii.bottom_left) (cond (is_right n) s.radii.top_right s.radii.top_left)

  radius_in : In chosen radius 9 16777216
  radius_in = in_either low (in_either right G.bottom_right G.bottom_left) (in_either right G.top_right G.top_left)

  reaches_whole : reaches s.rect chosen offset ≡ reachedZ a b c d radius u v
  reaches_whole =
      let X = in_past (in_half tt tt (in_sub tt tt G.sides.x1 G.sides.x0)) radius_in x_in in
      let Y = in_past (in_half tt tt (in_sub tt tt G.sides.y1 G.sides.y0)) radius_in y_in in
      in_le (in_add tt tt (in_mul tt tt X X) (in_mul tt tt Y Y)) (in_mul tt tt radius_in radius_in)

  closed_whole : closed (box s.rect) p ≡ boxedZ a b c d u v
  closed_whole =
      let S = G.sides in
      λ n. in_le (in_min S.x0 S.x1) P.x n && (in_le P.x (in_max S.x0 S.x1) n && (in_le (in_min S.y0 S.y1) P.y n && in_le P.y (in_max S.y0 S.y1) n))

  wind_whole : wind s p ≡ windZ a b c d radius u v
  wind_whole = λ n. cond (closed_whole n) (cond ((ap (λ (r : Float). reaches s.rect r offset) radius_chosen ∙ reaches_whole) n) (pos 1) (pos 0)) (pos 0)

  -- a sound radius, over whole numbers
  abbrev SoundZ : ℤ → Type 0
  SoundZ q = (pos 0 ≤ℤ q) × (q ≤ℤ shorter a b c d)

  sound_whole : (r : Float) (q : ℤ) → In r q 9 16777216 → SoundRadius s.rect r → SoundZ q
  sound_whole r q R S =
      let side = in_half tt tt (in_min (in_sub tt tt G.sides.x1 G.sides.x0) (in_sub tt tt G.sides.y1 G.sides.y0)) in
      (record { le = subst T (in_le (zero_in 0) R) S.from }, record { le = subst T (in_le R side) S.to })

  radius_sound : Sound s → SoundZ radius
  radius_sound S =
      either_of SoundZ low right i j k l (sound_whole _ i G.top_left S.radii.top_left) (sound_whole _ j G.top_right S.radii.top_right)
      (sound_whole _ k G.bottom_right S.radii.bottom_right) (sound_whole _ l G.bottom_left S.radii.bottom_left)

  whole_rule : SoundZ radius → RuleOfRounded (twice a) (twice b) (twice c) (twice d) i j k l (twice u) (twice v) (windZ a b c d radius u v)
  whole_rule h = near_rule a b c d radius u v h.0 (to_width radius (c -ℤ a) (d -ℤ b) h.1) (to_height radius (c -ℤ a) (d -ℤ b) h.1)
    where
      to_width : (q m n : ℤ) → q ≤ℤ int_min m n → q ≤ℤ m
      to_width q m n h = omega (arith, ints, clamps)

      to_height : (q m n : ℤ) → q ≤ℤ int_min m n → q ≤ℤ n
      to_height q m n h = omega (arith, ints, clamps)

pub rounded_rule : (s : RoundedRect) (p : Point) (w a b c d i j k l u v : ℤ) → w ≡ wind s p → GridRounded s a b c d i j k l → Sound s → GridPoint p u v
    → RuleOfRounded (twice a) (twice b) (twice c) (twice d) i j k l (twice u) (twice v) w
rounded_rule s p w a b c d i j k l u v e G S P =
    subst (RuleOfRounded (twice a) (twice b) (twice c) (twice d) i j k l (twice u) (twice v)) (sym (e ∙ wind_whole s p a b c d i j k l u v G P))
    (whole_rule s p a b c d i j k l u v G P (radius_sound s p a b c d i j k l u v G P S))
