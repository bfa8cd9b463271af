-- What is read is spelled by the grammar.
use Rattle.std.proofs.Common.{◌≡◌, ◌≢◌, ℕ, zero, suc, Bool, true, false, cond, T, ◌⊎◌, inl, inr, List, [], ◌∷◌, ◌++◌, length, Option, Some, None, Result, Ok, Err, refl, sym, ap, subst, ◌∙◌}
use Rattle.std.specs.Prelude.{Float, codes, ok_or, chars, encode_utf8}
use Rattle.std.specs.Char.{is_whitespace}
use Rattle.std.specs.Float.{binary64}
use Rattle.std.specs.Float.Parse.{parse_float}
use Rattle.std.proofs.lemmas.List.{append-nil}
use Rattle.std.proofs.lemmas.Slice.Eq.{bytes_eq-Decides}
use Prim.Native.String.{String}
use Rattle.plane.specs.declared.affine.Affine.{Affine}
use Rattle.plane.specs.declared.point.Point.{Point}
use Rattle.plane.specs.Affines.{nought}
use Rattle.layers.specs.declared.fault.MoveFault.{MoveFault}
use Rattle.layers.specs.Moves.{unmoved}
use Rattle.marks.specs.declared.mark.Mark.{Mark}
use Rattle.marks.specs.declared.mark.Mark.TheVariants as marks
use Rattle.sheets.specs.declared.order.Order.{Order}
use Rattle.orders.specs.declared.kinds.Kind.{Kind}
use Rattle.orders.specs.declared.kinds.Kind.TheVariants as kinds
use Rattle.orders.specs.declared.line.Line.{Line}
use Rattle.orders.specs.declared.order.CoverQuery.{CoverQuery}
use Rattle.orders.specs.declared.order.Measured.{Measured}
use Rattle.orders.specs.declared.order.Question.{Question}
use Rattle.orders.specs.declared.order.SetPoint.{SetPoint}
use Rattle.orders.specs.declared.order.SheetOrder.{SheetOrder}
use Rattle.orders.specs.declared.order.SheetOrder.TheVariants.{Call, Set}
use Rattle.orders.specs.declared.order.Sizes.{Sizes}
use Rattle.orders.specs.Words.{Text, ended, words_after, words_of}
use Rattle.orders.specs.Reasons.{no_number, no_position, no_allowance, no_size, no_key, no_page}
use Rattle.orders.specs.Covers.{up_to_over, upper, question, cover}
use Rattle.orders.specs.Grammar.{IsNumber, IsPosition, IsAllowance, IsSize, EachNumber, Numbers, IsShape, IsFrame, IsBy, as_it_is, moved_by, IsCall, put_call, shift_call, shift_all_call, lift_call, winding_call, top_call, box_call, draw_call, IsKey, key_within, key_outside, IsSetPoint, IsOrder, call_order, set_order, IsQuestion, ask_winding, ask_box, ask_draw, IsEffort, of_ellipse, of_others, Says, page_line, entries_line, places_line, marks_line, frames_line, set_line, measure_line, cover_line}
use Rattle.orders.specs.Kinds.{is, kind_of, measured_count, rectangle, shape, mark, frame, effort, measured_as, measured}
use Rattle.orders.specs.Lines.{size_or, sizes, page, line}
use Rattle.orders.specs.Runs.{◌>>=◌, Left, left, run, first_of, others_of, word, after, next, no_word, end, number, position, allowance, numbers, made_of, six, two, number_of, position_of, allowance_of, size_of}
use Rattle.orders.specs.SetPoints.{within, key, set_point}
use Rattle.orders.specs.Sheets.{Placement, placement, moved, placed, put, shift, shift_all, call, order, last_position, last_point, last_tolerance}
use Rattle.orders.specs.Values.{whole, up_to, map_of, point_of, count, rect_of, circle_of, triangle_of, rounded_of, ellipse_of, on_ok, covering, query, or_no_move, name, shape_of}
use Rattle.sheets.specs.declared.order.Order.TheVariants as calls
use Rattle.orders.specs.declared.order.Question.TheVariants as questions
use Rattle.orders.specs.declared.order.PageOrder.TheVariants as orders
use Rattle.orders.specs.declared.line.Line.TheVariants as lines
use Rattle.orders.specs.Moved.{move_of}

-- ---- no word is ''
abbrev pub Real : List Text → Type 0
Real [] = Unit {0}
Real (w ∷ ws) = (w ≢ []) × Real ws

ended_real : (w : Text) (ws : List Text) → Real ws → Real (ended w ws)
ended_real [] ws r = r
ended_real (b ∷ bs) ws r = ((λ e. absurd cc), r)

cond_real : (b : Bool) (ws vs : List Text) → Real ws → Real vs → Real (cond b ws vs)
cond_real true ws vs r q = r
cond_real false ws vs r q = q

after_real : (w : Text) (cs : List ℕ) → Real (words_after w cs)
after_real w [] = ended_real w [] tt
after_real w (c ∷ cs) = cond_real (is_whitespace c) _ _ (ended_real w (words_after [] cs) (after_real [] cs)) (after_real (w ++ encode_utf8 c) cs)

pub words_real : (t : Text) → Real (words_of t)
unfolding words_of
words_real t = after_real [] (chars t)

others_real : (ws : List Text) → Real ws → Real (others_of ws)
others_real [] r = tt
others_real (w ∷ ws) r = r.1

none_real : (ws : List Text) → Real ws → first_of ws ≡ [] → ws ≡ []
none_real [] r e = refl
none_real (w ∷ ws) r e = absurd (r.0 e)

-- ---- steps and choices
bind_ok : {A B : Type 0} (r : Result A Text) (f : A → Result B Text) (y : B) → (r >>= f) ≡ Ok y → (x : A) × (r ≡ Ok x) × (f x ≡ Ok y)
bind_ok (Ok x) f y e = (x, refl, e)
bind_ok (Err d) f y e = absurd cc

abbrev done : {A : Type 0} → A → Result A Text
done x = Ok x

ok_is : {A : Type 0} (x y : A) → done x ≡ done y → x ≡ y
ok_is x y e = cc

some_is : {A : Type 0} (o : Option A) (d : Text) (x : A) → ok_or o d ≡ Ok x → o ≡ Some x
some_is (Some y) d x e = ap Some (ok_is y x e)
some_is None d x e = absurd cc

chosen : {A : Type 0} (b : Bool) (x y z : A) → cond b x y ≡ z → ((b ≡ true) × (x ≡ z)) ⊎ ((b ≡ false) × (y ≡ z))
chosen true x y z e = inl (refl, e)
chosen false x y z e = inr (refl, e)

abbrev some : Text → Bool
some [] = false
some (b ∷ bs) = true

opens : (ws : List Text) (k : Text) → first_of ws ≡ k → T (some k) → ws ≡ k ∷ others_of ws
opens [] k e n = absurd (subst (λ w. T (some w)) (sym e) n)
opens (w ∷ ws) k e n = ap (λ v. v ∷ ws) e

is_word : (w : Text) (k : String) → is w k ≡ true → w ≡ codes k
is_word w k e = (bytes_eq-Decides w (codes k)).0 e

pick : {A : Type 0} (ws : List Text) (k : String) (x y z : A) → T (some (codes k)) → cond (is (first_of ws) k) x y ≡ z → ((ws ≡ codes k ∷ others_of ws) × (x ≡ z)) ⊎ (y ≡ z)
pick ws k x y z n e = elim (chosen (is (first_of ws) k) x y z e) [
  | inl h ↦ inl (opens ws (codes k) (is_word (first_of ws) k h.0) n, h.1)
  | inr h ↦ inr h.1
]

-- ---- words of a run
-- one word, of which P holds, and what is left after it
record One (P : Text → Type 0) (ws : List Text) (t : Left) : Type 0 where
  word : Text
  words : ws ≡ word ∷ t.words
  fits : P word
  real : Real t.words

one_found : {A : Type 0} (o : Text → Option A) (why : Text → Text) (ws : List Text) (m : Text) (p : A × Left) → Real ws
    → (next (left ws m) >>= λ w. ok_or (o w.0) (why w.0) >>= λ x. Ok (x, w.1)) ≡ Ok p → One (λ w. o w ≡ Some p.0) ws p.1
unfolding next
one_found o why [] m p r e = absurd cc
one_found o why ([] ∷ ws) m p r e = absurd (r.0 refl)
one_found {A} o why ((b ∷ bs) ∷ ws) m p r e =
    let a = bind_ok (ok_or (o (b ∷ bs)) (why (b ∷ bs))) (λ x. Ok (x, left ws m)) p e in
    let q : (a.0, left ws m) ≡ p = ok_is _ _ a.2 in
    record {
      word = b ∷ bs;
      words = ap (λ (u : A × Left). (b ∷ bs) ∷ u.1.words) q;
      fits = some_is (o (b ∷ bs)) (why (b ∷ bs)) a.0 a.1 ∙ ap (λ (u : A × Left). Some u.0) q;
      real = subst (λ (u : A × Left). Real u.1.words) q r.1;
    }

number_found : (s : Left) (p : Float × Left) → Real s.words → number s ≡ Ok p → One (λ w. IsNumber w p.0) s.words p.1
unfolding number number_of
number_found s p r e = one_found (parse_float binary64) no_number s.words s.miscount p r e

position_found : (s : Left) (p : ℕ × Left) → Real s.words → position s ≡ Ok p → One (λ w. IsPosition w p.0) s.words p.1
unfolding position position_of
position_found s p r e = one_found (whole 64) no_position s.words s.miscount p r e

allowance_found : (s : Left) (p : ℕ × Left) → Real s.words → allowance s ≡ Ok p → One (λ w. IsAllowance w p.0) s.words p.1
unfolding allowance allowance_of
allowance_found s p r e = one_found (whole 32) no_allowance s.words s.miscount p r e

end_found : (s : Left) (x : Unit {0}) → Real s.words → end s ≡ Ok x → s.words ≡ []
unfolding end
end_found s x r e = by s.words s.miscount r e
  where
    by : (ws : List Text) (m : Text) → Real ws → no_word (first_of ws) m ≡ Ok x → ws ≡ []
    by [] m r e = refl
    by ([] ∷ ws) m r e = absurd (r.0 refl)
    by ((b ∷ bs) ∷ ws) m r e = absurd cc

-- n words that are numbers, and what they make
record Made {A : Type 0} (f : List Float → A) (n : ℕ) (ws : List Text) (p : A × Left) : Type 0 where
  places : List Text
  values : List Float
  words : ws ≡ places ++ p.1.words
  numbers : Numbers n places values
  value : p.0 ≡ f values
  real : Real p.1.words

numbers_found : (n : ℕ) (s : Left) (p : List Float × Left) → Real s.words → numbers n s ≡ Ok p → Made (λ xs. xs) n s.words p
unfolding numbers
numbers_found zero s p r e =
    let q : ([], s) ≡ p = ok_is _ _ e in
    subst (λ (u : List Float × Left). Made (λ xs. xs) 0 s.words u) q (record { places = []; values = []; words = refl; numbers = record { long = refl; each = tt }; value = refl; real = r })
numbers_found (suc n) s p r e =
    let a = bind_ok (number s) (λ x. numbers n x.1 >>= λ xs. Ok (x.0 ∷ xs.0, xs.1)) p e in
    let o = number_found s a.0 r a.1 in
    let b = bind_ok (numbers n a.0.1) (λ xs. Ok (a.0.0 ∷ xs.0, xs.1)) p a.2 in
    let h = numbers_found n a.0.1 b.0 o.real b.1 in
    let q : (a.0.0 ∷ b.0.0, b.0.1) ≡ p = ok_is _ _ b.2 in
    let each : EachNumber h.places b.0.0 = subst (λ xs. EachNumber h.places xs) (sym h.value) h.numbers.each in
    let long : length b.0.0 ≡ n = ap length h.value ∙ h.numbers.long in
    subst (λ (u : List Float × Left). Made (λ xs. xs) (suc n) s.words u) q (record {
      places = o.word ∷ h.places;
      values = a.0.0 ∷ b.0.0;
      words = o.words ∙ ap (λ v. o.word ∷ v) h.words;
      numbers = record { long = ap suc long; each = (o.fits, each) };
      value = refl;
      real = h.real;
    })

made_found : {A : Type 0} (f : List Float → A) (n : ℕ) (s : Left) (p : A × Left) → Real s.words → made_of n f s ≡ Ok p → Made f n s.words p
made_found {A} f n s p r e =
    let a = bind_ok (numbers n s) (λ xs. Ok (f xs.0, xs.1)) p e in
    let h = numbers_found n s a.0 r a.1 in
    let q : (f a.0.0, a.0.1) ≡ p = ok_is _ _ a.2 in
    subst (λ (u : A × Left). Made f n s.words u) q (record { places = h.places; values = h.values; words = h.words; numbers = h.numbers; value = ap f h.value; real = h.real })

-- the same of what is made of that
then_found : {A B : Type 0} (f : List Float → A) (g : A → B) (n : ℕ) (s : Left) (p : B × Left) → Real s.words → (made_of n f s >>= λ m. Ok (g m.0, m.1)) ≡ Ok p → Made (λ xs. g (f xs)) n s.words p
then_found {A} {B} f g n s p r e =
    let a = bind_ok (made_of n f s) (λ m. Ok (g m.0, m.1)) p e in
    let h = made_found f n s a.0 r a.1 in
    let q : (g a.0.0, a.0.1) ≡ p = ok_is _ _ a.2 in
    subst (λ (u : B × Left). Made (λ xs. g (f xs)) n s.words u) q (record { places = h.places; values = h.values; words = h.words; numbers = h.numbers; value = ap g h.value; real = h.real })

-- ---- shapes
shape_found : (k : Kind) (s : Left) (p : Mark × Left) → Real s.words → shape k s ≡ Ok p → Made (shape_of k) (count k) s.words p
unfolding shape count rectangle
shape_found kinds.Rect s p r e = then_found rect_of marks.Rect 4 s p r e
shape_found kinds.Circle s p r e = then_found circle_of marks.Circle 3 s p r e
shape_found kinds.Triangle s p r e = then_found triangle_of marks.Triangle 6 s p r e
shape_found kinds.RoundedRect s p r e = then_found rounded_of marks.RoundedRect 8 s p r e
shape_found kinds.Ellipse s p r e = then_found ellipse_of marks.Ellipse 5 s p r e

named : (w : Text) (k : String) (v u : Kind) → is w k ≡ true → name v ≡ codes k → done v ≡ done u → w ≡ name u
named w k v u e n q = is_word w k e ∙ sym n ∙ ap name (ok_is v u q)

kind_found : (w : Text) (k : Kind) → kind_of w ≡ Ok k → w ≡ name k
unfolding kind_of
kind_found w k e =
    elim (chosen (is w "rect") _ _ _ e) [
      | inl h ↦ named w "rect" kinds.Rect k h.0 refl h.1
      | inr e ↦ elim (chosen (is w "circle") _ _ _ e.1) [
        | inl h ↦ named w "circle" kinds.Circle k h.0 refl h.1
        | inr e ↦ elim (chosen (is w "triangle") _ _ _ e.1) [
          | inl h ↦ named w "triangle" kinds.Triangle k h.0 refl h.1
          | inr e ↦ elim (chosen (is w "rounded") _ _ _ e.1) [
            | inl h ↦ named w "rounded" kinds.RoundedRect k h.0 refl h.1
            | inr e ↦ elim (chosen (is w "ellipse") _ _ _ e.1) [
              | inl h ↦ named w "ellipse" kinds.Ellipse k h.0 refl h.1
              | inr e ↦ absurd (let clash = e.1 in cc)
            ]
          ]
        ]
      ]
    ]

name_some : (k : Kind) → T (some (name k))
name_some kinds.Rect = tt
name_some kinds.Circle = tt
name_some kinds.Triangle = tt
name_some kinds.RoundedRect = tt
name_some kinds.Ellipse = tt

-- a mark that was read is spelled so
record Spells {M : Type 0} (IsMark : List Text → M → Type 0) (ws : List Text) (p : M × Left) : Type 0 where
  front : List Text
  words : ws ≡ front ++ p.1.words
  mark : IsMark front p.0
  real : Real p.1.words

abbrev Spelling : {M : Type 0} → (Left → Result (M × Left) Text) → (List Text → M → Type 0) → Type 0
Spelling {M} reads IsMark = (s : Left) (p : M × Left) → Real s.words → reads s ≡ Ok p → Spells IsMark s.words p

mark_found : Spelling mark IsShape
unfolding mark
mark_found s p r e =
    let a = bind_ok (kind_of (word s)) (λ k. shape k (run (count k) (after s).words)) p e in
    let k = a.0 in
    let h = shape_found k (run (count k) (after s).words) p (others_real s.words r) a.2 in
    record {
      front = name k ∷ h.places;
      words = opens s.words (name k) (kind_found (word s) k a.1) (name_some k) ∙ ap (λ v. name k ∷ v) h.words;
      mark = record { kind = k; places = h.places; values = h.values; words = refl; numbers = h.numbers; shape = h.value };
      real = h.real;
    }

frame_found : Spelling frame IsFrame
unfolding frame rectangle
frame_found s p r e =
    elim (pick s.words "rect" _ _ _ tt e) [
      | inl g ↦ let h = made_found rect_of 4 (run 4 (after s).words) p (others_real s.words r) g.1 in
          record {
            front = codes "rect" ∷ h.places;
            words = g.0 ∙ ap (λ v. codes "rect" ∷ v) h.words;
            mark = record { places = h.places; values = h.values; words = refl; numbers = h.numbers; shape = h.value };
            real = h.real;
          }
      | inr g ↦ absurd (let clash = g in cc)
    ]

-- ---- placings
-- a mark with its move, and the word after them, which was read too
record Stands {M : Type 0} (IsMark : List Text → M → Type 0) (ws : List Text) (p : Placement M × Left) : Type 0 where
  front : List Text
  back : List Text
  rest : List Text
  words : ws ≡ front ++ (back ++ rest)
  mark : IsMark front p.0.mark
  by : IsBy back p.0.by
  next : p.0.next ≡ first_of rest
  left : p.1.words ≡ others_of rest
  real : Real rest

-- the numbers of a move
six_found : (s : Left) (p : Affine × Left) → Real s.words → six s ≡ Ok p → Made map_of 6 s.words p
unfolding six
six_found s p r e = made_found map_of 6 s p r e

two_found : (s : Left) (p : Point × Left) → Real s.words → two s ≡ Ok p → Made point_of 2 s.words p
unfolding two
two_found s p r e = made_found point_of 2 (run 2 s.words) p r e

-- a mark v that was read, and then what stands after it
placed_with : {M : Type 0} (IsMark : List Text → M → Type 0) (front : List Text) (v : M) (s : Left) (p : Placement M × Left) → IsMark front v → Real s.words → moved v s ≡ Ok p → Stands IsMark (front ++ s.words) p
unfolding moved
placed_with {M} IsMark front v s p h r e =
    elim (pick s.words "by" _ _ _ tt e) [
      | inl g ↦ let a = bind_ok (six (run 6 (after s).words)) (λ b. Ok (placement v b.0 (word b.1), after b.1)) p g.1 in
          let k = six_found (run 6 (after s).words) a.0 (others_real s.words r) a.1 in
          let q : (placement v a.0.0 (word a.0.1), after a.0.1) ≡ p = ok_is _ _ a.2 in
          subst (λ (u : Placement M × Left). Stands IsMark (front ++ s.words) u) q (record {
            front = front;
            back = codes "by" ∷ k.places;
            rest = a.0.1.words;
            words = ap (λ l. front ++ l) (g.0 ∙ ap (λ l. codes "by" ∷ l) k.words);
            mark = h;
            by = moved_by k.places k.values refl k.numbers k.value;
            next = refl;
            left = refl;
            real = k.real;
          })
      | inr g ↦ let q : (placement v unmoved (word s), after s) ≡ p = ok_is _ _ g in
          subst (λ (u : Placement M × Left). Stands IsMark (front ++ s.words) u) q (record {
            front = front;
            back = [];
            rest = s.words;
            words = refl;
            mark = h;
            by = as_it_is refl refl;
            next = refl;
            left = refl;
            real = r;
          })
    ]

placed_found : {M : Type 0} (reads : Left → Result (M × Left) Text) (IsMark : List Text → M → Type 0) → Spelling reads IsMark → (s : Left) (p : Placement M × Left) → Real s.words → placed reads s ≡ Ok p → Stands IsMark s.words p
unfolding placed
placed_found reads IsMark spelling s p r e =
    let a = bind_ok (reads s) (λ m. moved m.0 m.1) p e in
    let h = spelling s a.0 r a.1 in
    subst (λ ws. Stands IsMark ws p) (sym h.words) (placed_with IsMark h.front a.0.0 a.0.1 p h.mark h.real a.2)

-- ---- what ends a line
-- all of the words are numbers
record All {A : Type 0} (f : List Float → A) (n : ℕ) (ws : List Text) (x : A) : Type 0 where
  values : List Float
  numbers : Numbers n ws values
  value : x ≡ f values

-- the one word
record Last (P : Text → Type 0) (ws : List Text) : Type 0 where
  word : Text
  words : ws ≡ word ∷ []
  fits : P word

all_of : {A : Type 0} (f : List Float → A) (n : ℕ) (ws : List Text) (p : A × Left) → Made f n ws p → p.1.words ≡ [] → All f n ws p.0
all_of f n ws p h e =
    let q : ws ≡ h.places = h.words ∙ ap (λ l. h.places ++ l) e ∙ append-nil h.places in
    record { values = h.values; numbers = subst (λ l. Numbers n l h.values) (sym q) h.numbers; value = h.value }

last_of : (P : Text → Type 0) (ws : List Text) (t : Left) → One P ws t → t.words ≡ [] → Last P ws
last_of P ws t h e = record { word = h.word; words = h.words ∙ ap (λ l. h.word ∷ l) e; fits = h.fits }

point_found : (s : Left) (x : Point) → Real s.words → last_point s ≡ Ok x → All point_of 2 s.words x
unfolding last_point
point_found s x r e =
    let a = bind_ok (two s) (λ p. end p.1 >>= λ _. Ok p.0) x e in
    let h = two_found s a.0 r a.1 in
    let b = bind_ok (end a.0.1) (λ _. Ok a.0.0) x a.2 in
    subst (All point_of 2 s.words) (ok_is a.0.0 x b.2) (all_of point_of 2 s.words a.0 h (end_found a.0.1 b.0 h.real b.1))

tolerance_found : (s : Left) (x : Float) → Real s.words → last_tolerance s ≡ Ok x → Last (λ w. IsNumber w x) s.words
unfolding last_tolerance
tolerance_found s x r e =
    let a = bind_ok (number (run 1 s.words)) (λ p. end p.1 >>= λ _. Ok p.0) x e in
    let h = number_found (run 1 s.words) a.0 r a.1 in
    let b = bind_ok (end a.0.1) (λ _. Ok a.0.0) x a.2 in
    subst (λ (y : Float). Last (λ w. IsNumber w y) s.words) (ok_is a.0.0 x b.2) (last_of _ s.words a.0.1 h (end_found a.0.1 b.0 h.real b.1))

last_position_found : (s : Left) (x : ℕ) → Real s.words → last_position s ≡ Ok x → Last (λ w. IsPosition w x) s.words
unfolding last_position
last_position_found s x r e =
    let a = bind_ok (position (run 1 s.words)) (λ p. end p.1 >>= λ _. Ok p.0) x e in
    let h = position_found (run 1 s.words) a.0 r a.1 in
    let b = bind_ok (end a.0.1) (λ _. Ok a.0.0) x a.2 in
    subst (λ (y : ℕ). Last (λ w. IsPosition w y) s.words) (ok_is a.0.0 x b.2) (last_of _ s.words a.0.1 h (end_found a.0.1 b.0 h.real b.1))

no_word_is : (w m : Text) (x : Unit {0}) → no_word w m ≡ Ok x → w ≡ []
no_word_is [] m x e = refl
no_word_is (b ∷ bs) m x e = absurd cc

-- ---- a word that may stand there
some_if : (w : Text) → is w "" ≡ false → T (some w)
some_if [] e = absurd cc
some_if (b ∷ bs) e = tt

there : (s : Left) → is (word s) "" ≡ false → s.words ≡ word s ∷ (after s).words
there s e = opens s.words (word s) refl (some_if (word s) e)

not_there : (s : Left) → Real s.words → is (word s) "" ≡ true → s.words ≡ []
not_there s r e = none_real s.words r (is_word (word s) "" e)

-- ---- set points
within_found : (s : Left) (p : ℕ × Left) → Real s.words → within s ≡ Ok p → One (λ w. IsPosition w p.0) s.words p.1
unfolding within position_of
within_found s p r e =
    elim (chosen (is (word s) "") _ _ _ e) [
      | inl h ↦ absurd (let clash = h.1 in cc)
      | inr h ↦ let a = bind_ok (ok_or (whole 64 (word s)) (no_position (word s))) (λ n. Ok (n, after s)) p h.1 in
          let q : (a.0, after s) ≡ p = ok_is _ _ a.2 in
          subst (λ (u : ℕ × Left). One (λ w. IsPosition w u.0) s.words u.1) q (record {
            word = word s;
            words = there s h.0;
            fits = some_is (whole 64 (word s)) (no_position (word s)) a.0 a.1;
            real = others_real s.words r;
          })
    ]

-- a key, if nothing stands after it
record Keyed (ws : List Text) (p : Option ℕ × Left) : Type 0 where
  real : Real p.1.words
  key : p.1.words ≡ [] → IsKey ws p.0

key_found : (s : Left) (p : Option ℕ × Left) → Real s.words → key s ≡ Ok p → Keyed s.words p
unfolding key
key_found s p r e =
    elim (pick s.words "within" _ _ _ tt e) [
      | inl h ↦ let a = bind_ok (within (after s)) (λ n. Ok (Some n.0, n.1)) p h.1 in
          let o = within_found (after s) a.0 (others_real s.words r) a.1 in
          let q : (Some a.0.0, a.0.1) ≡ p = ok_is _ _ a.2 in
          subst (λ (u : Option ℕ × Left). Keyed s.words u) q (record {
            real = o.real;
            key = λ z. key_within o.word a.0.0 (h.0 ∙ ap (λ l. codes "within" ∷ l) (o.words ∙ ap (λ l. o.word ∷ l) z)) o.fits refl;
          })
      | inr e ↦ elim (pick s.words "outside" _ _ _ tt e) [
        | inl h ↦ let q : (None, after s) ≡ p = ok_is _ _ h.1 in
            subst (λ (u : Option ℕ × Left). Keyed s.words u) q (record {
              real = others_real s.words r;
              key = λ z. key_outside (h.0 ∙ ap (λ l. codes "outside" ∷ l) z) refl;
            })
        | inr e ↦ absurd cc
      ]
    ]

set_found : (s : Left) (x : SetPoint) → Real s.words → set_point s ≡ Ok x → IsSetPoint s.words x
unfolding set_point
set_found s x r e =
    let a = bind_ok (two s) (λ p. key p.1 >>= λ k. no_word (word k.1) no_key >>= λ _. Ok (record { at = p.0; key = k.0 })) x e in
    let h = two_found s a.0 r a.1 in
    let b = bind_ok (key a.0.1) (λ k. no_word (word k.1) no_key >>= λ _. Ok (record { at = a.0.0; key = k.0 })) x a.2 in
    let k = key_found a.0.1 b.0 h.real b.1 in
    let c = bind_ok (no_word (word b.0.1) no_key) (λ _. Ok (record { at = a.0.0; key = b.0.0 })) x b.2 in
    let none = none_real b.0.1.words k.real (no_word_is (word b.0.1) no_key c.0 c.1) in
    subst (λ (y : SetPoint). IsSetPoint s.words y) (ok_is _ _ c.2)
    (record { places = h.places; values = h.values; after = a.0.1.words; words = h.words; numbers = h.numbers; at = h.value; key = k.key none })

-- ---- orders to a sheet
module _ {M : Type 0} (reads : Left → Result (M × Left) Text) (IsMark : List Text → M → Type 0) (spelling : Spelling reads IsMark) where
  abbrev Outcome : Type 0
  Outcome = Result (Order M) MoveFault

  put_found : (ws : List Text) (s : Left) (o : Outcome) → ws ≡ codes "put" ∷ s.words → Real s.words → put reads s ≡ Ok o → IsCall IsMark ws o
  unfolding put
  put_found ws s o g r e =
      let a = bind_ok (placed reads s) (λ p. no_word p.0.next p.1.miscount >>= λ _. Ok (on_ok (λ b. calls.Put p.0.mark b) (move_of p.0.by))) o e in
      let h = placed_found reads IsMark spelling s a.0 r a.1 in
      let b = bind_ok (no_word a.0.0.next a.0.1.miscount) (λ _. Ok (on_ok (λ b. calls.Put a.0.0.mark b) (move_of a.0.0.by))) o a.2 in
      let none : h.rest ≡ [] = none_real h.rest h.real (sym h.next ∙ no_word_is a.0.0.next a.0.1.miscount b.0 b.1) in
      let q : s.words ≡ h.front ++ h.back = h.words ∙ ap (λ l. h.front ++ (h.back ++ l)) none ∙ ap (λ l. h.front ++ l) (append-nil h.back) in
      put_call h.front h.back a.0.0.mark a.0.0.by (g ∙ ap (λ l. codes "put" ∷ l) q) h.mark h.by (sym (ok_is _ _ b.2))

  shift_found : (ws : List Text) (s : Left) (o : Outcome) → ws ≡ codes "shift" ∷ s.words → Real s.words → shift s ≡ Ok o → IsCall IsMark ws o
  unfolding shift
  shift_found ws s o g r e =
      let a = bind_ok (position (run 7 s.words)) (λ n. six n.1 >>= λ b. end b.1 >>= λ _. Ok (on_ok (λ m. calls.Shift n.0 m) (move_of b.0))) o e in
      let h = position_found (run 7 s.words) a.0 r a.1 in
      let b = bind_ok (six a.0.1) (λ b. end b.1 >>= λ _. Ok (on_ok (λ m. calls.Shift a.0.0 m) (move_of b.0))) o a.2 in
      let k = six_found a.0.1 b.0 h.real b.1 in
      let c = bind_ok (end b.0.1) (λ _. Ok (on_ok (λ m. calls.Shift a.0.0 m) (move_of b.0.0))) o b.2 in
      let all = all_of map_of 6 a.0.1.words b.0 k (end_found b.0.1 c.0 k.real c.1) in
      shift_call h.word a.0.1.words a.0.0 all.values (g ∙ ap (λ l. codes "shift" ∷ l) h.words) h.fits all.numbers (sym (ok_is _ _ c.2) ∙ ap (λ m. on_ok (λ v. calls.Shift a.0.0 v) (move_of m)) all.value)

  shift_all_found : (ws : List Text) (s : Left) (o : Outcome) → ws ≡ codes "shift_all" ∷ s.words → Real s.words → shift_all s ≡ Ok o → IsCall IsMark ws o
  unfolding shift_all
  shift_all_found ws s o g r e =
      let b = bind_ok (six (run 6 s.words)) (λ b. end b.1 >>= λ _. Ok (on_ok (λ m. calls.ShiftAll m) (move_of b.0))) o e in
      let k = six_found (run 6 s.words) b.0 r b.1 in
      let c = bind_ok (end b.0.1) (λ _. Ok (on_ok (λ m. calls.ShiftAll m) (move_of b.0.0))) o b.2 in
      let all = all_of map_of 6 s.words b.0 k (end_found b.0.1 c.0 k.real c.1) in
      shift_all_call s.words all.values g all.numbers (sym (ok_is _ _ c.2) ∙ ap (λ m. on_ok (λ v. calls.ShiftAll v) (move_of m)) all.value)

  lift_found : (ws : List Text) (s : Left) (o : Outcome) → ws ≡ codes "lift" ∷ s.words → Real s.words → (last_position s >>= λ n. Ok (Ok (calls.Lift n))) ≡ Ok o → IsCall IsMark ws o
  lift_found ws s o g r e =
      let a = bind_ok (last_position s) (λ n. Ok (Ok (calls.Lift n))) o e in
      let h = last_position_found s a.0 r a.1 in
      lift_call h.word a.0 (g ∙ ap (λ l. codes "lift" ∷ l) h.words) h.fits (sym (ok_is _ _ a.2))

  winding_found : (ws : List Text) (s : Left) (o : Outcome) → ws ≡ codes "winding" ∷ s.words → Real s.words → (last_point s >>= λ p. Ok (Ok (calls.Winding p))) ≡ Ok o → IsCall IsMark ws o
  winding_found ws s o g r e =
      let a = bind_ok (last_point s) (λ p. Ok (Ok (calls.Winding p))) o e in
      let h = point_found s a.0 r a.1 in
      winding_call s.words h.values g h.numbers (sym (ok_is _ _ a.2) ∙ ap (λ p. Ok (calls.Winding p)) h.value)

  top_found : (ws : List Text) (s : Left) (o : Outcome) → ws ≡ codes "top" ∷ s.words → Real s.words → (last_point s >>= λ p. Ok (Ok (calls.Top p))) ≡ Ok o → IsCall IsMark ws o
  top_found ws s o g r e =
      let a = bind_ok (last_point s) (λ p. Ok (Ok (calls.Top p))) o e in
      let h = point_found s a.0 r a.1 in
      top_call s.words h.values g h.numbers (sym (ok_is _ _ a.2) ∙ ap (λ p. Ok (calls.Top p)) h.value)

  box_found : (ws : List Text) (s : Left) (o : Outcome) → ws ≡ codes "bounding_box" ∷ s.words → Real s.words → (end (run 0 s.words) >>= λ _. Ok (Ok calls.BoundingBox)) ≡ Ok o → IsCall IsMark ws o
  box_found ws s o g r e =
      let a = bind_ok (end (run 0 s.words)) (λ _. Ok (Ok calls.BoundingBox)) o e in
      box_call (g ∙ ap (λ l. codes "bounding_box" ∷ l) (end_found (run 0 s.words) a.0 r a.1)) (sym (ok_is _ _ a.2))

  draw_found : (ws : List Text) (s : Left) (o : Outcome) → ws ≡ codes "draw" ∷ s.words → Real s.words → (last_tolerance s >>= λ t. Ok (Ok (calls.Draw t))) ≡ Ok o → IsCall IsMark ws o
  draw_found ws s o g r e =
      let a = bind_ok (last_tolerance s) (λ t. Ok (Ok (calls.Draw t))) o e in
      let h = tolerance_found s a.0 r a.1 in
      draw_call h.word a.0 (g ∙ ap (λ l. codes "draw" ∷ l) h.words) h.fits (sym (ok_is _ _ a.2))

  call_found : (s : Left) (o : Outcome) → Real s.words → call reads (word s) (after s) ≡ Ok o → IsCall IsMark s.words o
  unfolding call
  call_found s o r e =
      let t = after s in
      let q = others_real s.words r in
      elim (pick s.words "put" _ _ _ tt e) [
        | inl h ↦ put_found s.words t o h.0 q h.1
        | inr e ↦ elim (pick s.words "shift" _ _ _ tt e) [
          | inl h ↦ shift_found s.words t o h.0 q h.1
          | inr e ↦ elim (pick s.words "shift_all" _ _ _ tt e) [
            | inl h ↦ shift_all_found s.words t o h.0 q h.1
            | inr e ↦ elim (pick s.words "lift" _ _ _ tt e) [
              | inl h ↦ lift_found s.words t o h.0 q h.1
              | inr e ↦ elim (pick s.words "winding" _ _ _ tt e) [
                | inl h ↦ winding_found s.words t o h.0 q h.1
                | inr e ↦ elim (pick s.words "top" _ _ _ tt e) [
                  | inl h ↦ top_found s.words t o h.0 q h.1
                  | inr e ↦ elim (pick s.words "bounding_box" _ _ _ tt e) [
                    | inl h ↦ box_found s.words t o h.0 q h.1
                    | inr e ↦ elim (pick s.words "draw" _ _ _ tt e) [
                      | inl h ↦ draw_found s.words t o h.0 q h.1
                      | inr e ↦ absurd cc
                    ]
                  ]
                ]
              ]
            ]
          ]
        ]
      ]

  order_found : (s : Left) (o : Result (SheetOrder M) MoveFault) → Real s.words → order reads s ≡ Ok o → IsOrder IsMark s.words o
  unfolding order
  order_found s o r e =
      elim (pick s.words "set" _ _ _ tt e) [
        | inl h ↦ let a = bind_ok (set_point (after s)) (λ p. Ok (Ok (Set p))) o h.1 in
            set_order (after s).words a.0 h.0 (set_found (after s) a.0 (others_real s.words r) a.1) (sym (ok_is _ _ a.2))
        | inr e ↦ let a = bind_ok (call reads (word s) (after s)) (λ c. Ok (on_ok Call c)) o e in
            call_order a.0 (call_found s a.0 r a.1) (sym (ok_is _ _ a.2))
      ]

-- ---- coverings
question_found : (rest : List Text) (s : Left) (q : Question) → Real rest → s.words ≡ others_of rest → question (first_of rest) s ≡ Ok q → IsQuestion rest q
unfolding question
question_found rest s q r g e =
    let t : Real s.words = subst Real (sym g) (others_real rest r) in
    elim (pick rest "winding" _ _ _ tt e) [
      | inl h ↦ let a = bind_ok (last_point s) (λ p. Ok (questions.Winding p)) q h.1 in
          let k = point_found s a.0 t a.1 in
          ask_winding s.words k.values (h.0 ∙ ap (λ l. codes "winding" ∷ l) (sym g)) k.numbers (sym (ok_is _ _ a.2) ∙ ap questions.Winding k.value)
      | inr e ↦ elim (pick rest "bounding_box" _ _ _ tt e) [
        | inl h ↦ let a = bind_ok (end (run 0 s.words)) (λ _. Ok questions.BoundingBox) q h.1 in
            ask_box (h.0 ∙ ap (λ l. codes "bounding_box" ∷ l) (sym g ∙ end_found (run 0 s.words) a.0 t a.1)) (sym (ok_is _ _ a.2))
        | inr e ↦ elim (pick rest "draw" _ _ _ tt e) [
          | inl h ↦ let a = bind_ok (last_tolerance s) (λ x. Ok (questions.Draw x)) q h.1 in
              let k = tolerance_found s a.0 t a.1 in
              ask_draw k.word a.0 (h.0 ∙ ap (λ l. codes "draw" ∷ l) (sym g ∙ k.words)) k.fits (sym (ok_is _ _ a.2))
          | inr e ↦ absurd cc
        ]
      ]
    ]

-- the upper shape up to `over`
record Upper (ws : List Text) (p : (Mark × Affine) × Left) : Type 0 where
  front : List Text
  back : List Text
  words : ws ≡ front ++ (back ++ (codes "over" ∷ p.1.words))
  mark : IsShape front p.0.0
  by : IsBy back p.0.1
  real : Real p.1.words

upper_found : (s : Left) (p : (Mark × Affine) × Left) → Real s.words → upper s ≡ Ok p → Upper s.words p
unfolding upper up_to_over
upper_found s p r e =
    let a = bind_ok (placed mark s) (λ u. up_to_over u.0 u.1) p e in
    let h = placed_found mark IsShape mark_found s a.0 r a.1 in
    elim (chosen (is a.0.0.next "over") _ _ _ a.2) [
      | inl g ↦ let first : first_of h.rest ≡ codes "over" = sym h.next ∙ is_word a.0.0.next "over" g.0 in
          let rest : h.rest ≡ codes "over" ∷ a.0.1.words = opens h.rest (codes "over") first tt ∙ ap (λ l. codes "over" ∷ l) (sym h.left) in
          let q : ((a.0.0.mark, a.0.0.by), a.0.1) ≡ p = ok_is _ _ g.1 in
          subst (λ (u : (Mark × Affine) × Left). Upper s.words u) q (record {
            front = h.front;
            back = h.back;
            words = h.words ∙ ap (λ l. h.front ++ (h.back ++ l)) rest;
            mark = h.mark;
            by = h.by;
            real = subst Real (sym h.left) (others_real h.rest h.real);
          })
      | inr g ↦ elim (chosen (is a.0.0.next "") _ _ _ g.1) [
        | inl k ↦ absurd (let clash = k.1 in cc)
        | inr k ↦ absurd (let clash = k.1 in cc)
      ]
    ]

cover_found : (ws : List Text) (s : Left) (o : Result CoverQuery MoveFault) → ws ≡ codes "cover" ∷ s.words → Real s.words → cover s ≡ Ok o → Says ws (or_no_move orders.Cover o)
unfolding cover
cover_found ws s o g r e =
    let a = bind_ok (upper s) (λ u. placed mark u.1 >>= λ l. question l.0.next l.1 >>= λ q. Ok (query q (covering u.0.0 u.0.1 l.0.mark l.0.by))) o e in
    let h = upper_found s a.0 r a.1 in
    let b = bind_ok (placed mark a.0.1) (λ l. question l.0.next l.1 >>= λ q. Ok (query q (covering a.0.0.0 a.0.0.1 l.0.mark l.0.by))) o a.2 in
    let k = placed_found mark IsShape mark_found a.0.1 b.0 h.real b.1 in
    let c = bind_ok (question b.0.0.next b.0.1) (λ q. Ok (query q (covering a.0.0.0 a.0.0.1 b.0.0.mark b.0.0.by))) o b.2 in
    let q = question_found k.rest b.0.1 c.0 k.real k.left (ap (λ w. question w b.0.1) (sym k.next) ∙ c.1) in
    cover_line h.front h.back k.front k.back k.rest a.0.0.0 b.0.0.mark a.0.0.1 b.0.0.by c.0
    (g ∙ ap (λ l. codes "cover" ∷ l) h.words ∙ ap (λ l. codes "cover" ∷ (h.front ++ (h.back ++ (codes "over" ∷ l)))) k.words)
    h.mark h.by k.mark k.by q (ap (or_no_move orders.Cover) (sym (ok_is _ _ c.2)))

-- ---- measures
record Tried (ws : List Text) (k : Kind) (p : (Float × ℕ) × Left) : Type 0 where
  real : Real p.1.words
  effort : p.1.words ≡ [] → IsEffort ws k p.0.0 p.0.1

untried : (k : Kind) (s : Left) (p : (Float × ℕ) × Left) → k ≢ kinds.Ellipse → Real s.words → done ((nought, 0), s) ≡ done p → Tried s.words k p
untried k s p ne r e = subst (λ (u : (Float × ℕ) × Left). Tried s.words k u) (ok_is _ _ e) (record { real = r; effort = λ z. of_others ne z refl refl })

effort_found : (k : Kind) (s : Left) (p : (Float × ℕ) × Left) → Real s.words → effort k s ≡ Ok p → Tried s.words k p
unfolding effort
effort_found kinds.Rect s p r e = untried kinds.Rect s p (λ z. absurd cc) r e
effort_found kinds.Circle s p r e = untried kinds.Circle s p (λ z. absurd cc) r e
effort_found kinds.Triangle s p r e = untried kinds.Triangle s p (λ z. absurd cc) r e
effort_found kinds.RoundedRect s p r e = untried kinds.RoundedRect s p (λ z. absurd cc) r e
effort_found kinds.Ellipse s p r e =
    let a = bind_ok (number s) (λ a. allowance a.1 >>= λ n. Ok ((a.0, n.0), n.1)) p e in
    let h = number_found s a.0 r a.1 in
    let b = bind_ok (allowance a.0.1) (λ n. Ok ((a.0.0, n.0), n.1)) p a.2 in
    let k = allowance_found a.0.1 b.0 h.real b.1 in
    let q : ((a.0.0, b.0.0), b.0.1) ≡ p = ok_is _ _ b.2 in
    subst (λ (u : (Float × ℕ) × Left). Tried s.words kinds.Ellipse u) q (record {
      real = k.real;
      effort = λ z. of_ellipse h.word k.word refl (h.words ∙ ap (λ l. h.word ∷ l) (k.words ∙ ap (λ l. k.word ∷ l) z)) h.fits k.fits;
    })

measured_found : (ws : List Text) (s : Left) (x : Measured) → ws ≡ codes "measure" ∷ s.words → Real s.words → measured s ≡ Ok x → Says ws (lines.Order (orders.Measure x))
unfolding measured measured_as
measured_found ws s x g r e =
    let a = bind_ok (kind_of (word s)) (λ k. measured_as k (run (measured_count k) (after s).words)) x e in
    let k = a.0 in
    let u = run (measured_count k) (after s).words in
    let b = bind_ok (shape k u) (λ m. effort k m.1 >>= λ e. end e.1 >>= λ _. Ok (record { mark = m.0; accuracy = e.0.0; allowance = e.0.1 })) x a.2 in
    let h = shape_found k u b.0 (others_real s.words r) b.1 in
    let c = bind_ok (effort k b.0.1) (λ e. end e.1 >>= λ _. Ok (record { mark = b.0.0; accuracy = e.0.0; allowance = e.0.1 })) x b.2 in
    let t = effort_found k b.0.1 c.0 h.real c.1 in
    let d = bind_ok (end c.0.1) (λ _. Ok (record { mark = b.0.0; accuracy = c.0.0.0; allowance = c.0.0.1 })) x c.2 in
    measure_line h.places b.0.1.words k h.values c.0.0.0 c.0.0.1
    (g ∙ ap (λ l. codes "measure" ∷ l) (opens s.words (name k) (kind_found (word s) k a.1) (name_some k) ∙ ap (λ l. name k ∷ l) h.words))
    h.numbers (t.effort (end_found c.0.1 d.0 t.real d.1))
    (ap (λ y. lines.Order (orders.Measure y)) (sym (ok_is _ _ d.2) ∙ ap (λ m. record { mark = m; accuracy = c.0.0.0; allowance = c.0.0.1 }) h.value))

-- ---- pages
-- a size that is not said, and nothing more
record Unsaid (usual : ℕ) (ws : List Text) (p : ℕ × Left) : Type 0 where
  none : ws ≡ []
  value : p.0 ≡ usual
  left : p.1.words ≡ []

size_found : (usual most : ℕ) (s : Left) (p : ℕ × Left) → Real s.words → size_or usual most s ≡ Ok p → Unsaid usual s.words p ⊎ One (λ w. IsSize most w p.0) s.words p.1
unfolding size_or size_of
size_found usual most s p r e =
    elim (chosen (is (word s) "") _ _ _ e) [
      | inl h ↦ let q : (usual, after s) ≡ p = ok_is _ _ h.1 in
          let none = not_there s r h.0 in
          inl (subst (λ (u : ℕ × Left). Unsaid usual s.words u) q (record { none = none; value = refl; left = ap others_of none }))
      | inr h ↦ let a = bind_ok (ok_or (up_to most (whole 64 (word s))) (no_size (word s) most)) (λ n. Ok (n, after s)) p h.1 in
          let q : (a.0, after s) ≡ p = ok_is _ _ a.2 in
          inr (subst (λ (u : ℕ × Left). One (λ w. IsSize most w u.0) s.words u.1) q (record {
            word = word s;
            words = there s h.0;
            fits = some_is (up_to most (whole 64 (word s))) (no_size (word s) most) a.0 a.1;
            real = others_real s.words r;
          }))
    ]

page_found : (ws : List Text) (s : Left) (z : Sizes) → ws ≡ codes "page" ∷ s.words → Real s.words → page s ≡ Ok z → Says ws (lines.Page z)
unfolding page sizes
page_found ws s z g r e =
    elim (chosen (is (word s) "") _ _ _ e) [
      | inl h ↦ absurd (let clash = h.1 in cc)
      | inr h ↦ let a = bind_ok (size_or 65536 131072 (after s)) (λ e. size_or 262144 1048576 e.1 >>= λ p. no_word (word p.1) no_page >>= λ _. Ok (record { entries = e.0; places = p.0 })) z h.1 in
          let b = bind_ok (size_or 262144 1048576 a.0.1) (λ p. no_word (word p.1) no_page >>= λ _. Ok (record { entries = a.0.0; places = p.0 })) z a.2 in
          let c = bind_ok (no_word (word b.0.1) no_page) (λ _. Ok (record { entries = a.0.0; places = b.0.0 })) z b.2 in
          let named : ws ≡ codes "page" ∷ word s ∷ (after s).words = g ∙ ap (λ l. codes "page" ∷ l) (there s h.0) in
          let ne : word s ≢ [] = λ q. subst (λ w. T (some w)) q (some_if (word s) h.0) in
          let said = ok_is _ _ c.2 in
          elim (size_found 65536 131072 (after s) a.0 (others_real s.words r) a.1) [
            | inl u ↦ elim (size_found 262144 1048576 a.0.1 b.0 (subst Real (sym u.left) tt) b.1) [
              | inl v ↦ page_line (word s) ne (named ∙ ap (λ l. codes "page" ∷ word s ∷ l) u.none) (ap lines.Page (sym said ∙ (λ i. record { entries = u.value i; places = v.value i })))
              | inr v ↦ absurd (let clash = sym u.left ∙ v.words in cc)
            ]
            | inr u ↦ elim (size_found 262144 1048576 a.0.1 b.0 u.real b.1) [
              | inl v ↦ entries_line (word s) u.word a.0.0 ne (named ∙ ap (λ l. codes "page" ∷ word s ∷ l) (u.words ∙ ap (λ l. u.word ∷ l) v.none)) u.fits (ap lines.Page (sym said ∙ (λ i. record { entries = a.0.0; places = v.value i })))
              | inr v ↦ let none = none_real b.0.1.words v.real (no_word_is (word b.0.1) no_page c.0 c.1) in
                  places_line (word s) u.word v.word a.0.0 b.0.0 ne (named ∙ ap (λ l. codes "page" ∷ word s ∷ l) (u.words ∙ ap (λ l. u.word ∷ l) (v.words ∙ ap (λ l. v.word ∷ l) none))) u.fits v.fits (ap lines.Page (sym said))
            ]
          ]
    ]

-- ---- lines
marks_found : (ws : List Text) (s : Left) (l : Line) → ws ≡ codes "marks" ∷ s.words → Real s.words → (order mark s >>= λ o. Ok (or_no_move orders.Marks o)) ≡ Ok l → Says ws l
marks_found ws s l g r e =
    let a = bind_ok (order mark s) (λ o. Ok (or_no_move orders.Marks o)) l e in
    marks_line s.words a.0 g (order_found mark IsShape mark_found s a.0 r a.1) (sym (ok_is _ _ a.2))

frames_found : (ws : List Text) (s : Left) (l : Line) → ws ≡ codes "frames" ∷ s.words → Real s.words → (order frame s >>= λ o. Ok (or_no_move orders.Frames o)) ≡ Ok l → Says ws l
frames_found ws s l g r e =
    let a = bind_ok (order frame s) (λ o. Ok (or_no_move orders.Frames o)) l e in
    frames_line s.words a.0 g (order_found frame IsFrame frame_found s a.0 r a.1) (sym (ok_is _ _ a.2))

-- what was read is what its answer says
said : {A : Type 0} (f : A → Line) (r : Result A Text) (ws : List Text) (l : Line) → ((x : A) → r ≡ Ok x → Says ws (f x)) → (r >>= λ x. Ok (f x)) ≡ Ok l → Says ws l
said f r ws l h e =
    let a = bind_ok r (λ x. Ok (f x)) l e in
    subst (Says ws) (ok_is (f a.0) l a.2) (h a.0 a.1)

pub read_is_spelled : (s : Left) (l : Line) → Real s.words → line s ≡ Ok l → Says s.words l
unfolding line
read_is_spelled s l r e =
    let t = after s in
    let q = others_real s.words r in
    elim (pick s.words "page" _ _ _ tt e) [
      | inl h ↦ said lines.Page (page t) s.words l (λ z k. page_found s.words t z h.0 q k) h.1
      | inr e ↦ elim (pick s.words "marks" _ _ _ tt e) [
        | inl h ↦ marks_found s.words t l h.0 q h.1
        | inr e ↦ elim (pick s.words "frames" _ _ _ tt e) [
          | inl h ↦ frames_found s.words t l h.0 q h.1
          | inr e ↦ elim (pick s.words "set" _ _ _ tt e) [
            | inl h ↦ said (λ p. lines.Order (orders.Marks (Set p))) (set_point t) s.words l (λ p k. set_line t.words p h.0 (set_found t p q k) refl) h.1
            | inr e ↦ elim (pick s.words "measure" _ _ _ tt e) [
              | inl h ↦ said (λ m. lines.Order (orders.Measure m)) (measured t) s.words l (λ m k. measured_found s.words t m h.0 q k) h.1
              | inr e ↦ elim (pick s.words "cover" _ _ _ tt e) [
                | inl h ↦ said (or_no_move orders.Cover) (cover t) s.words l (λ a k. cover_found s.words t a h.0 q k) h.1
                | inr e ↦ absurd cc
              ]
            ]
          ]
        ]
      ]
    ]
