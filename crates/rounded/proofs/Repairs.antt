-- What is made has no side reversed and radii from 0 to half the shorter side; and of grid numbers it has grid sides. Assumes nothing.
use Rattle.std.proofs.Common.{◌≡◌, ℕ, ◌<◌, Bool, true, false, cond, not, ◌||◌, T, ℤ, pos, ◌-ℤ◌, sym, refl, subst, arith}
use lib.Ieee.{Float, nan, inf, fin, binary64, add, sub, neg, le, is_nan}
use lib.Ieee.Scale.{finite}
use Rattle.std.specs.Float.{float_zero as zeroF, float_with_sign, float_min, float_max}
use Rattle.std.specs.Float.Order.{le_left, le_right, le_refl}
use Rattle.std.proofs.num.Values.{round-zero}
use Rattle.std.proofs.lemmas.Int.{ints}
use Rattle.floats.specs.Value.{In, Rounds}
use Rattle.floats.specs.Page.{Grid}
use Rattle.floats.proofs.Bounded.{in_sub, in_abs, in_min, in_max}
use Rattle.floats.proofs.Monotone.{rounds_mono}
use Rattle.floats.proofs.Rounded.{rounds_sub}
use Rattle.floats.proofs.Sizes.{abs_from_zero}
use Rattle.floats.proofs.Sums.{common, order_of, sub_number, finite_number}
use Rattle.plane.specs.declared.rect.Rect.{Rect}
use Rattle.plane.specs.Points.{FiniteBox}
use Rattle.plane.specs.Rects.{box, GridRect}
use Rattle.rounded.specs.declared.rounded_rect.RoundedRect.{RoundedRect}
use Rattle.rounded.specs.declared.rounded_rect_radii.RoundedRectRadii.{RoundedRectRadii}
use Rattle.rounded.specs.Radii.{GridRadii}
use Rattle.rounded.specs.Roundings.{width, height, half_side, made_of, SoundRadius, SoundRadii, Sound, Repaired, MadeOnGrid}
use Rattle.rounded.specs.Shrunk.{limited}
use Rattle.rounded.specs.Halves.{zero_is, in_half, in_fine, half_above, half_of_number}

-- ---- the lesser and the greater of two floats
abbrev Number : Float → Type 0
Number x = T (not (is_nan x))

abbrev Finite : Float → Type 0
Finite x = T (finite x)

either : (P : Float → Type 0) (t : Bool) (x y : Float) → P x → P y → P (cond t x y)
either P true x y p q = p
either P false x y p q = q

either_above : (t : Bool) (x y : Float) → Number (cond t x y) → (Number x → T (le zeroF x)) → (Number y → T (le zeroF y)) → T (le zeroF (cond t x y))
either_above true x y n p q = p n
either_above false x y n p q = q n

-- the lesser is at most the greater, if they are numbers
ordered : (x y : Float) → Number (float_min x y) → T (le (float_min x y) (float_max x y))
ordered x y n = at (le x y) (le y x) (is_nan y) refl refl n
  where
    at : (s t u : Bool) → le x y ≡ s → le y x ≡ t → Number (cond (s || u) x y) → T (le (cond (s || u) x y) (cond (t || u) x y))
    at true true u p q n = le_refl x n
    at true false true p q n = le_refl x n
    at true false false p q n = subst T (sym p) tt
    at false true true p q n = le_refl x n
    at false true false p q n = subst T (sym q) tt
    at false false true p q n = le_refl x n
    at false false false p q n = le_refl y n

-- ---- a side from the lesser to the greater is at least 0
taken_number : (x y : Float) → Number (sub binary64 y x) → Number x
unfolding sub add neg is_nan
taken_number nan nan h = absurd h
taken_number nan (inf t) h = absurd h
taken_number nan (fin t n d) h = absurd h
taken_number (inf s) y h = tt
taken_number (fin s m e) y h = tt

zero_rounds : (c : ℕ) → 0 < c → Rounds binary64 zeroF (pos 0) c
zero_rounds c C = (false, 0, sym (round-zero binary64 false c C), refl)

gap : (x y : Float) → T (le x y) → Number (sub binary64 y x) → T (le zeroF (sub binary64 y x))
gap nan y h n = absurd (unfold le in h)
gap (inf true) nan h n = absurd (unfold le in h)
gap (inf true) (inf true) h n = absurd (unfold sub add neg is_nan in n)
gap (inf true) (inf false) h n = unfold sub add neg le in tt
gap (inf true) (fin t m d) h n = unfold sub add neg le in tt
gap (inf false) nan h n = absurd (unfold le in h)
gap (inf false) (inf true) h n = absurd (unfold le in h)
gap (inf false) (inf false) h n = absurd (unfold sub add neg is_nan in n)
gap (inf false) (fin t m d) h n = absurd (unfold le in h)
gap (fin s k e) nan h n = absurd (unfold le in h)
gap (fin s k e) (inf true) h n = absurd (unfold le in h)
gap (fin s k e) (inf false) h n = unfold sub add neg le in tt
gap (fin s k e) (fin t m d) h n =
    let x = fin s k e in
    let y = fin t m d in
    let g = common x y y tt tt tt in
    let o = order_of x y g.k g.l g.c g.above g.first g.second h in
    rounds_mono binary64 zeroF (sub binary64 y x) (pos 0) (g.l -ℤ g.k) g.c g.above (zero_rounds g.c g.above)
    (rounds_sub binary64 y x g.l g.k g.c g.above g.second g.first) (omega (arith, ints, o))

side_above : (x y : Float) → Number (sub binary64 (float_max x y) (float_min x y)) → T (le zeroF (sub binary64 (float_max x y) (float_min x y)))
side_above x y n = gap (float_min x y) (float_max x y) (ordered x y (taken_number (float_min x y) (float_max x y) n)) n

shorter_above : (r : Rect) → Number (float_min (width (box r)) (height (box r))) → T (le zeroF (float_min (width (box r)) (height (box r))))
shorter_above r n = either_above _ (width (box r)) (height (box r)) n (side_above r.x0 r.x1) (side_above r.y0 r.y1)

-- ---- the radii
-- the size of any float, up to a number m from 0 on, lies from 0 to m
limited_radius : (x m : Float) → T (le zeroF m) → T (le zeroF (float_min (float_with_sign false x) m)) × T (le (float_min (float_with_sign false x) m) m)
limited_radius x m z = at (le (float_with_sign false x) m) (is_nan m) refl (le_right zeroF m z)
  where
    at : (s t : Bool) → le (float_with_sign false x) m ≡ s → T (not t) → T (le zeroF (cond (s || t) (float_with_sign false x) m)) × T (le (cond (s || t) (float_with_sign false x) m) m)
    at true t p n = let l : T (le (float_with_sign false x) m) = subst T (sym p) tt in (abs_from_zero x (le_left (float_with_sign false x) m l), l)
    at false true p n = absurd n
    at false false p n = (z, le_refl m (le_right zeroF m z))

sound_radius : (b : Rect) (x : Float) → T (le zeroF (half_side b)) → SoundRadius b (float_min (float_with_sign false x) (half_side b))
sound_radius b x z =
    let l = limited_radius x (half_side b) z in
    record { from = subst (λ (o : Float). T (le o (float_min (float_with_sign false x) (half_side b)))) (sym zero_is) l.0; to = l.1 }

sound_radii : (r : Rect) (k : RoundedRectRadii) → T (le zeroF (half_side (box r))) → SoundRadii (box r) (made_of r k).radii
sound_radii r k z = record {
  top_left = sound_radius (box r) k.top_left z;
  top_right = sound_radius (box r) k.top_right z;
  bottom_right = sound_radius (box r) k.bottom_right z;
  bottom_left = sound_radius (box r) k.bottom_left z;
}

-- ---- what is made
pub made_repaired : (s : RoundedRect) (r : Rect) (k : RoundedRectRadii) → s ≡ made_of r k → Repaired s
made_repaired s r k e = subst Repaired (sym e) (record {
  across = ordered r.x0 r.x1;
  down = ordered r.y0 r.y1;
  radii = λ n. sound_radii r k (half_above _ (shorter_above r (half_of_number _ n)));
})

pub made_sound : (s : RoundedRect) (r : Rect) (k : RoundedRectRadii) → s ≡ made_of r k → FiniteBox r → Sound s
made_sound s r k e f =
    let X = sub_number binary64 (float_max r.x0 r.x1) (float_min r.x0 r.x1) (either Finite _ r.x0 r.x1 f.x0 f.x1) (either Finite _ r.x0 r.x1 f.x0 f.x1) in
    let Y = sub_number binary64 (float_max r.y0 r.y1) (float_min r.y0 r.y1) (either Finite _ r.y0 r.y1 f.y0 f.y1) (either Finite _ r.y0 r.y1 f.y0 f.y1) in
    subst Sound (sym e) (record {
      across = ordered r.x0 r.x1 (either Number _ r.x0 r.x1 (finite_number r.x0 f.x0) (finite_number r.x1 f.x1));
      down = ordered r.y0 r.y1 (either Number _ r.y0 r.y1 (finite_number r.y0 f.y0) (finite_number r.y1 f.y1));
      radii = sound_radii r k (half_above _ (shorter_above r (either Number _ (width (box r)) (height (box r)) X Y)));
    })

-- ---- of grid numbers
made_radius : {x m : Float} {p l : ℤ} → Grid x p → In m l 9 16777216 → In (float_min (float_with_sign false x) m) (limited l p) 9 16777216
made_radius g h = in_min (in_fine (in_abs g)) h

pub made_grid : (s : RoundedRect) (r : Rect) (k : RoundedRectRadii) (a b c d p q o t : ℤ) → s ≡ made_of r k → GridRect r a b c d → GridRadii k p q o t → MadeOnGrid s a b c d p q o t
made_grid s r k a b c d p q o t e R K =
    let x0 = in_min R.x0 R.x1 in
    let y0 = in_min R.y0 R.y1 in
    let x1 = in_max R.x0 R.x1 in
    let y1 = in_max R.y0 R.y1 in
    let m = in_half tt tt (in_min (in_sub tt tt x1 x0) (in_sub tt tt y1 y0)) in
    subst (λ (z : RoundedRect). MadeOnGrid z a b c d p q o t) (sym e) (record {
      sides = record { x0 = x0; y0 = y0; x1 = x1; y1 = y1 };
      top_left = made_radius K.top_left m;
      top_right = made_radius K.top_right m;
      bottom_right = made_radius K.bottom_right m;
      bottom_left = made_radius K.bottom_left m;
    })
