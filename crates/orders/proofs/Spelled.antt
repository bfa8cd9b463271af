-- What is spelled by the grammar is read as what it says.
use Rattle.std.proofs.Common.{◌≡◌, ◌≢◌, ℕ, false, List, [], ◌∷◌, ◌++◌, length, Option, None, Result, Ok, refl, sym, ap, subst, ◌∙◌}
use Rattle.std.specs.Prelude.{Float, codes}
use Rattle.std.specs.Float.{binary64}
use Rattle.std.specs.Float.Parse.{parse_float, read_float}
use Rattle.std.specs.Float.Numeral.{scan_numeral}
use Rattle.std.proofs.lemmas.List.{append-nil}
use Rattle.plane.specs.declared.affine.Affine.{Affine}
use Rattle.layers.specs.declared.fault.MoveFault.{MoveFault}
use Rattle.marks.specs.declared.mark.Mark.{Mark}
use Rattle.sheets.specs.declared.order.Order.{Order}
use Rattle.orders.specs.declared.kinds.Kind.{Kind}
use Rattle.orders.specs.declared.kinds.Kind.TheVariants as kinds
use Rattle.orders.specs.declared.line.Line.{Line}
use Rattle.orders.specs.declared.order.Question.{Question}
use Rattle.orders.specs.declared.order.SetPoint.{SetPoint}
use Rattle.orders.specs.declared.order.SheetOrder.{SheetOrder}
use Rattle.orders.specs.Words.{Text}
use Rattle.orders.specs.Covers.{up_to_over, upper, question, cover}
use Rattle.orders.specs.Grammar.{IsNumber, IsPosition, IsAllowance, EachNumber, Numbers, IsShape, IsFrame, IsBy, as_it_is, moved_by, IsCall, put_call, shift_call, shift_all_call, lift_call, winding_call, top_call, box_call, draw_call, IsKey, key_within, key_outside, IsSetPoint, IsOrder, call_order, set_order, IsQuestion, ask_winding, ask_box, ask_draw, IsEffort, of_ellipse, of_others, Says, page_line, entries_line, places_line, marks_line, frames_line, set_line, measure_line, cover_line}
use Rattle.orders.specs.Kinds.{is, kind_of, measured_count, rectangle, shape, mark, frame, effort, measured_as, measured}
use Rattle.orders.specs.Lines.{size_or, sizes, page, line}
use Rattle.orders.specs.Runs.{Left, left, run, first_of, others_of, next, end, number, position, allowance, numbers, made_of, six, two, number_of, position_of, allowance_of, size_of}
use Rattle.orders.specs.SetPoints.{within, key, set_point}
use Rattle.orders.specs.Sheets.{placement, moved, placed, put, shift, shift_all, call, order, last_position, last_point, last_tolerance}
use Rattle.orders.specs.Values.{map_of, point_of, count, covering, query, name, shape_of}

-- ---- words of a run
empty_is_none : parse_float binary64 [] ≡ None
unfolding read_float scan_numeral
empty_is_none = refl

number_is : (w : Text) (ws : List Text) (m : Text) (x : Float) → IsNumber w x → number (left (w ∷ ws) m) ≡ Ok (x, left ws m)
unfolding number next number_of
number_is [] ws m x h = absurd (let e = sym empty_is_none ∙ h in cc)
number_is (b ∷ bs) ws m x h = rw h refl

position_is : (w : Text) (ws : List Text) (m : Text) (n : ℕ) → IsPosition w n → position (left (w ∷ ws) m) ≡ Ok (n, left ws m)
unfolding position next position_of
position_is [] ws m n h = absurd cc
position_is (b ∷ bs) ws m n h = rw h refl

allowance_is : (w : Text) (ws : List Text) (m : Text) (n : ℕ) → IsAllowance w n → allowance (left (w ∷ ws) m) ≡ Ok (n, left ws m)
unfolding allowance next allowance_of
allowance_is [] ws m n h = absurd cc
allowance_is (b ∷ bs) ws m n h = rw h refl

each_is : (ws rest : List Text) (xs : List Float) (m : Text) → EachNumber ws xs → numbers (length xs) (left (ws ++ rest) m) ≡ Ok (xs, left rest m)
unfolding numbers
each_is [] rest [] m h = refl
each_is [] rest (x ∷ xs) m h = absurd h
each_is (w ∷ ws) rest [] m h = absurd h
each_is (w ∷ ws) rest (x ∷ xs) m h = rw (number_is w (ws ++ rest) m x h.0, each_is ws rest xs m h.1) refl

numbers_are : (n : ℕ) (ws rest : List Text) (xs : List Float) (m : Text) → Numbers n ws xs → numbers n (left (ws ++ rest) m) ≡ Ok (xs, left rest m)
numbers_are n ws rest xs m h = subst (λ k. numbers k (left (ws ++ rest) m) ≡ Ok (xs, left rest m)) h.long (each_is ws rest xs m h.each)

made_are : {A : Type 0} (f : List Float → A) (n : ℕ) (ws rest : List Text) (xs : List Float) (m : Text) → Numbers n ws xs → made_of n f (left (ws ++ rest) m) ≡ Ok (f xs, left rest m)
made_are f n ws rest xs m h = rw (numbers_are n ws rest xs m h) refl

-- the same, with nothing after them
made_all : {A : Type 0} (f : List Float → A) (n : ℕ) (ws : List Text) (xs : List Float) (m : Text) → Numbers n ws xs → made_of n f (left ws m) ≡ Ok (f xs, left [] m)
made_all f n ws xs m h = ap (λ v. made_of n f (left v m)) (sym (append-nil ws)) ∙ made_are f n ws [] xs m h

ended : (m : Text) → end (left [] m) ≡ Ok tt
unfolding end
ended m = refl

-- ---- shapes
-- what a kind of mark is read by reads the marks that are spelled so, with a run of its own
abbrev pub Marked : {M : Type 0} → (Left → Result (M × Left) Text) → (List Text → M → Type 0) → Type 0
Marked {M} reads IsMark = (ss rest : List Text) (m : Text) (v : M) → IsMark ss v → (k : Text) × (reads (left (ss ++ rest) m) ≡ Ok (v, left rest k))

shape_is : (k : Kind) (ws rest : List Text) (xs : List Float) (m : Text) → Numbers (count k) ws xs → shape k (left (ws ++ rest) m) ≡ Ok (shape_of k xs, left rest m)
unfolding shape count rectangle
shape_is kinds.Rect ws rest xs m h = rw (numbers_are 4 ws rest xs m h) refl
shape_is kinds.Circle ws rest xs m h = rw (numbers_are 3 ws rest xs m h) refl
shape_is kinds.Triangle ws rest xs m h = rw (numbers_are 6 ws rest xs m h) refl
shape_is kinds.RoundedRect ws rest xs m h = rw (numbers_are 8 ws rest xs m h) refl
shape_is kinds.Ellipse ws rest xs m h = rw (numbers_are 5 ws rest xs m h) refl

kind_is : (k : Kind) → kind_of (name k) ≡ Ok k
unfolding kind_of
kind_is kinds.Rect = refl
kind_is kinds.Circle = refl
kind_is kinds.Triangle = refl
kind_is kinds.RoundedRect = refl
kind_is kinds.Ellipse = refl

mark_is : Marked mark IsShape
unfolding mark
mark_is ss rest m v h =
    let miscount : Text = (run (count h.kind) (h.places ++ rest)).miscount in
    (miscount, rw (h.words, kind_is h.kind, shape_is h.kind h.places rest h.values miscount h.numbers) (ap (λ u. Ok (u, left rest miscount)) (sym h.shape)))

frame_is : Marked frame IsFrame
unfolding frame rectangle
frame_is ss rest m v h =
    let miscount : Text = (run 4 (h.places ++ rest)).miscount in
    (miscount, rw (h.words, numbers_are 4 h.places rest h.values miscount h.numbers) (ap (λ u. Ok (u, left rest miscount)) (sym h.shape)))

-- ---- placings
six_are : (ws rest : List Text) (xs : List Float) (m : Text) → Numbers 6 ws xs → six (left (ws ++ rest) m) ≡ Ok (map_of xs, left rest m)
unfolding six
six_are ws rest xs m h = made_are map_of 6 ws rest xs m h

two_are : (ws rest : List Text) (xs : List Float) (m : Text) → Numbers 2 ws xs → (k : Text) × (two (left (ws ++ rest) m) ≡ Ok (point_of xs, left rest k))
unfolding two
two_are ws rest xs m h = ((run 2 (ws ++ rest)).miscount, made_are point_of 2 ws rest xs _ h)

-- what follows a move, or else a mark, is not `by`
moved_is : {M : Type 0} (v : M) (bs rest : List Text) (m : Text) (b : Affine) → IsBy bs b → is (first_of rest) "by" ≡ false → (k : Text) × (moved v (left (bs ++ rest) m) ≡ Ok (placement v b (first_of rest), left (others_of rest) k))
unfolding moved
moved_is v bs rest m b (as_it_is e f) n = (m, rw (e, n) (ap (λ a. Ok (placement v a (first_of rest), left (others_of rest) m)) (sym f)))
moved_is v bs rest m b (moved_by ns xs e h f) n =
    let miscount : Text = (run 6 (ns ++ rest)).miscount in
    (miscount, rw (e, six_are ns rest xs miscount h) (ap (λ a. Ok (placement v a (first_of rest), left (others_of rest) miscount)) (sym f)))

placed_is : {M : Type 0} (reads : Left → Result (M × Left) Text) (IsMark : List Text → M → Type 0) → Marked reads IsMark → (ss bs rest : List Text) (m : Text) (v : M) (b : Affine)
    → IsMark ss v → IsBy bs b → is (first_of rest) "by" ≡ false → (k : Text) × (placed reads (left (ss ++ (bs ++ rest)) m) ≡ Ok (placement v b (first_of rest), left (others_of rest) k))
unfolding placed
placed_is reads IsMark marked ss bs rest m v b h g n =
    let a = marked ss (bs ++ rest) m v h in
    let c = moved_is v bs rest a.0 b g n in
    (c.0, rw (a.1, c.1) refl)

-- ---- orders to a sheet
point_ends : (ns : List Text) (xs : List Float) (m : Text) → Numbers 2 ns xs → last_point (left ns m) ≡ Ok (point_of xs)
unfolding last_point
point_ends ns xs m h =
    let a = two_are ns [] xs m h in
    let e : two (left ns m) ≡ Ok (point_of xs, left [] a.0) = ap (λ v. two (left v m)) (sym (append-nil ns)) ∙ a.1 in
    rw (e, ended a.0) refl

tolerance_ends : (w : Text) (t : Float) (m : Text) → IsNumber w t → last_tolerance (left (w ∷ []) m) ≡ Ok t
unfolding last_tolerance
tolerance_ends w t m h = rw (number_is w [] (run 1 (w ∷ [])).miscount t h, ended (run 1 (w ∷ [])).miscount) refl

position_ends : (w : Text) (n : ℕ) (m : Text) → IsPosition w n → last_position (left (w ∷ []) m) ≡ Ok n
unfolding last_position
position_ends w n m h = rw (position_is w [] (run 1 (w ∷ [])).miscount n h, ended (run 1 (w ∷ [])).miscount) refl

six_end : (ns : List Text) (xs : List Float) (m : Text) → Numbers 6 ns xs → six (left ns m) ≡ Ok (map_of xs, left [] m)
six_end ns xs m h = ap (λ v. six (left v m)) (sym (append-nil ns)) ∙ six_are ns [] xs m h

-- a call's first word, and the others
call_is : {M : Type 0} (reads : Left → Result (M × Left) Text) (IsMark : List Text → M → Type 0) → Marked reads IsMark → (ws : List Text) (m : Text) (c : Result (Order M) MoveFault) → IsCall IsMark ws c
    → (is (first_of ws) "set" ≡ false) × (call reads (first_of ws) (left (others_of ws) m) ≡ Ok c)
unfolding call put shift shift_all
call_is reads IsMark marked ws m o (put_call ss bs v b e h g f) =
    let a = placed_is reads IsMark marked ss bs [] m v b h g refl in
    let c : placed reads (left (ss ++ bs) m) ≡ Ok (placement v b [], left [] a.0) = ap (λ l. placed reads (left (ss ++ l) m)) (sym (append-nil bs)) ∙ a.1 in
    rw e (refl, rw c (ap Ok (sym f)))
call_is reads IsMark marked ws m o (shift_call w ns n xs e h g f) =
    let miscount : Text = (run 7 (w ∷ ns)).miscount in
    rw e (refl, rw (position_is w ns miscount n h, six_end ns xs miscount g, ended miscount) (ap Ok (sym f)))
call_is reads IsMark marked ws m o (shift_all_call ns xs e h f) =
    let miscount : Text = (run 6 ns).miscount in
    rw e (refl, rw (six_end ns xs miscount h, ended miscount) (ap Ok (sym f)))
call_is reads IsMark marked ws m o (lift_call w n e h f) = rw e (refl, rw (position_ends w n m h) (ap Ok (sym f)))
call_is reads IsMark marked ws m o (winding_call ns xs e h f) = rw e (refl, rw (point_ends ns xs m h) (ap Ok (sym f)))
call_is reads IsMark marked ws m o (top_call ns xs e h f) = rw e (refl, rw (point_ends ns xs m h) (ap Ok (sym f)))
call_is reads IsMark marked ws m o (box_call e f) = rw e (refl, rw (ended (run 0 []).miscount) (ap Ok (sym f)))
call_is reads IsMark marked ws m o (draw_call w t e h f) = rw e (refl, rw (tolerance_ends w t m h) (ap Ok (sym f)))

key_is : (ks : List Text) (m : Text) (k : Option ℕ) → IsKey ks k → (t : Left) × (key (left ks m) ≡ Ok (k, t)) × (first_of t.words ≡ [])
unfolding key within position_of
key_is ks m k (key_within w n e h f) = by w h e
  where
    by : (w : Text) → IsPosition w n → ks ≡ codes "within" ∷ w ∷ [] → (t : Left) × (key (left ks m) ≡ Ok (k, t)) × (first_of t.words ≡ [])
    by [] h e = absurd cc
    by (c ∷ cs) h e = (left [] m, rw (e, h) (ap (λ o. Ok (o, left [] m)) (sym f)), refl)
key_is ks m k (key_outside e f) = (left [] m, rw e (ap (λ o. Ok (o, left [] m)) (sym f)), refl)

set_is : (ps : List Text) (m : Text) (s : SetPoint) → IsSetPoint ps s → set_point (left ps m) ≡ Ok s
unfolding set_point
set_is ps m s h =
    let a = two_are h.places h.after h.values m h.numbers in
    let b = key_is h.after a.0 s.key h.key in
    rw (h.words, a.1, b.1, b.2) (ap (λ p. Ok (record { at = p; key = s.key })) (sym h.at))

order_is : {M : Type 0} (reads : Left → Result (M × Left) Text) (IsMark : List Text → M → Type 0) → Marked reads IsMark → (ws : List Text) (m : Text) (o : Result (SheetOrder M) MoveFault) → IsOrder IsMark ws o → order reads (left ws m) ≡ Ok o
unfolding order
order_is reads IsMark marked ws m o (call_order c h f) =
    let k = call_is reads IsMark marked ws m c h in
    rw (k.0, k.1) (ap Ok (sym f))
order_is reads IsMark marked ws m o (set_order ps s e h f) = rw (e, set_is ps m s h) (ap Ok (sym f))

-- ---- coverings
-- a question's first word, and the others
question_is : (ws : List Text) (m : Text) (q : Question) → IsQuestion ws q → (is (first_of ws) "by" ≡ false) × (question (first_of ws) (left (others_of ws) m) ≡ Ok q)
unfolding question
question_is ws m q (ask_winding ns xs e h f) = rw e (refl, rw (point_ends ns xs m h) (ap Ok (sym f)))
question_is ws m q (ask_box e f) = rw e (refl, rw (ended (run 0 []).miscount) (ap Ok (sym f)))
question_is ws m q (ask_draw w t e h f) = rw e (refl, rw (tolerance_ends w t m h) (ap Ok (sym f)))

cover_is : (us bs ls cs qs : List Text) (m : Text) (u v : Mark) (b c : Affine) (q : Question) → IsShape us u → IsBy bs b → IsShape ls v → IsBy cs c → IsQuestion qs q
    → cover (left (us ++ (bs ++ (codes "over" ∷ (ls ++ (cs ++ qs))))) m) ≡ Ok (query q (covering u b v c))
unfolding cover upper up_to_over
cover_is us bs ls cs qs m u v b c q hu hb hv hc hq =
    let x = placed_is mark IsShape mark_is us bs (codes "over" ∷ (ls ++ (cs ++ qs))) m u b hu hb refl in
    let k = question_is qs m q hq in
    let y = placed_is mark IsShape mark_is ls cs qs x.0 v c hv hc k.0 in
    rw (x.1, y.1, (question_is qs y.0 q hq).1) refl

-- ---- lines
effort_is : (es : List Text) (k : Kind) (m : Text) (a : Float) (n : ℕ) → IsEffort es k a n → effort k (left es m) ≡ Ok ((a, n), left [] m)
unfolding effort
effort_is es k m a n (of_ellipse v w e f h g) = rw (e, f, number_is v (w ∷ []) m a h, allowance_is w [] m n g) refl
effort_is es k m a n (of_others ne e f g) = by k ne
  where
    by : (k : Kind) → k ≢ kinds.Ellipse → effort k (left es m) ≡ Ok ((a, n), left [] m)
    by kinds.Rect ne = rw (e, f, g) refl
    by kinds.Circle ne = rw (e, f, g) refl
    by kinds.Triangle ne = rw (e, f, g) refl
    by kinds.RoundedRect ne = rw (e, f, g) refl
    by kinds.Ellipse ne = absurd (ne refl)

measured_is : (ns es : List Text) (k : Kind) (xs : List Float) (a : Float) (n : ℕ) (m : Text) → Numbers (count k) ns xs → IsEffort es k a n
    → measured (left (name k ∷ (ns ++ es)) m) ≡ Ok (record { mark = shape_of k xs; accuracy = a; allowance = n })
unfolding measured measured_as
measured_is ns es k xs a n m h g =
    let miscount : Text = (run (measured_count k) (ns ++ es)).miscount in
    rw (kind_is k, shape_is k ns es xs miscount h, effort_is es k miscount a n g, ended miscount) refl

pub spelled_is_read : (ws : List Text) (m : Text) (l : Line) → Says ws l → line (left ws m) ≡ Ok l
unfolding line page sizes size_or size_of
spelled_is_read ws m l (page_line [] ne e f) = absurd (ne refl)
spelled_is_read ws m l (page_line (c ∷ cs) ne e f) = rw e (ap Ok (sym f))
spelled_is_read ws m l (entries_line [] p n ne e h f) = absurd (ne refl)
spelled_is_read ws m l (entries_line (c ∷ cs) [] n ne e h f) = absurd cc
spelled_is_read ws m l (entries_line (c ∷ cs) (d ∷ ds) n ne e h f) = rw (e, h) (ap Ok (sym f))
spelled_is_read ws m l (places_line [] p q n k ne e h g f) = absurd (ne refl)
spelled_is_read ws m l (places_line (c ∷ cs) [] q n k ne e h g f) = absurd cc
spelled_is_read ws m l (places_line (c ∷ cs) (d ∷ ds) [] n k ne e h g f) = absurd cc
spelled_is_read ws m l (places_line (c ∷ cs) (d ∷ ds) (b ∷ bs) n k ne e h g f) = rw (e, h, g) (ap Ok (sym f))
spelled_is_read ws m l (marks_line os o e h f) = rw (e, order_is mark IsShape mark_is os m o h) (ap Ok (sym f))
spelled_is_read ws m l (frames_line os o e h f) = rw (e, order_is frame IsFrame frame_is os m o h) (ap Ok (sym f))
spelled_is_read ws m l (set_line ps s e h f) = rw (e, set_is ps m s h) (ap Ok (sym f))
spelled_is_read ws m l (measure_line ns es k xs a n e h g f) = rw (e, measured_is ns es k xs a n m h g) (ap Ok (sym f))
spelled_is_read ws m l (cover_line us bs ls cs qs u v b c q e hu hb hv hc hq f) = rw (e, cover_is us bs ls cs qs m u v b c q hu hb hv hc hq) (ap Ok (sym f))
