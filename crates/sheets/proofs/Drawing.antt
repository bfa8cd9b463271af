-- What is drawn row by row, and what is written of it. Assumes nothing.
use Rattle.std.proofs.Common.{◌≡◌, ℕ, suc, ◌+◌, ◌<◌, ◌≤◌, Bool, true, false, cond, List, [], ◌∷◌, ◌++◌, map, length, get_or, take, drop, set, IsErrAnd, Some, None, Ok, Err, Option, Result, sym, refl, ap, ◌∙◌, append_assoc, arith, length-append, take-append-drop, length-take, length-take-le, drop-set-lt, le-leb}
use lib.Ieee.{Float}
use lib.ListN.{length-map}
use borrow.Author.Tests.{lt-leb}
use Rattle.std.proofs.lemmas.List.{take_more, take_more_set, drop-drop, map-append}
use Rattle.plane.specs.declared.bezpath.PathEl.{PathEl}
use Rattle.plane.specs.declared.fault.ShapeFault.{ShapeFault}
use Rattle.plane.specs.Affines.{image_el}
use Rattle.plane.specs.Paths.{Drawn, tolerable}
use Rattle.layers.specs.Moves.{read_as}
use Rattle.layers.specs.Placings.{placed_drawn}
use Rattle.sheets.specs.declared.fault.SheetFault.{SheetFault}
use Rattle.sheets.specs.declared.fault.SheetFault.TheVariants.{Tolerance, TooSmall, Path}
use Rattle.sheets.specs.declared.sheet.Entry.{Entry}
use Rattle.sheets.specs.Book.{Marks, Row, Inked, row_drawn, then_drawn, drawn_from, all_drawn, draw_answer, draw_buffer}
use Rattle.sheets.specs.declared.sheet.Sheet.{Sheet}
use Rattle.sheets.specs.Tables.{row_of, used, rows, DrawnByBook}
use Rattle.sheets.proofs.Agree.{all_drawn_agree}
use Rattle.sheets.specs.Draws.{entries_drawn, left_of, spent, measured, Fitting}

-- one element more is written
pub pour_more : (buffer old : List PathEl) (k : ℕ) (y : PathEl) (ys whole : List PathEl) → k < length buffer → take k buffer ++ (y ∷ ys) ≡ whole → drop k buffer ≡ drop k old
    → (take (k + 1) (set buffer k y) ++ ys ≡ whole) × (drop (k + 1) (set buffer k y) ≡ drop (k + 1) old)
pour_more buffer old k y ys whole h e d =
    let l : k < k + 1 = omega arith in (
      ap (λ (f : List PathEl). f ++ ys) (take_more_set buffer k y h) ∙ append_assoc (take k buffer) (y ∷ []) ys ∙ e,
      drop-set-lt (k + 1) buffer k y l ∙ sym (drop-drop 1 k buffer) ∙ ap (drop 1) d ∙ drop-drop 1 k old,
    )

module _ {M : Type 0} (k : Marks M) (tol : Float) where
  from_append : (i : ℕ) (so : Inked) (bs cs : List (Row M)) → drawn_from k tol i so (bs ++ cs) ≡ drawn_from k tol (i + length bs) (drawn_from k tol i so bs) cs
  from_append i so [] cs = ap (λ (n : ℕ). drawn_from k tol n so cs) (let z : i ≡ i + 0 = omega arith in z)
  from_append i so (b ∷ bs) cs =
      from_append (i + 1) (then_drawn i so (row_drawn k tol b)) bs cs
      ∙ ap (λ (n : ℕ). drawn_from k tol n (drawn_from k tol (i + 1) (then_drawn i so (row_drawn k tol b)) bs) cs) (let z : (i + 1) + length bs ≡ i + suc (length bs) = omega arith in z)

  -- what the first n entries draw
  abbrev pub front : ℕ → List (Entry M) → Inked
  front n es = entries_drawn k tol (take n es)

  pub drawn_more : (t : List (Entry M)) (i : ℕ) (e : Entry M) → i < length t → e ≡ get_or t i e → front (i + 1) t ≡ then_drawn i (front i t) (row_drawn k tol (row_of e))
  drawn_more t i e h r =
      let l : i ≤ length t = omega arith in
      let n : 0 + length (map row_of (take i t)) ≡ i = simp (length-map, length-take) (omega arith) in
      ap (λ (es : List (Entry M)). drawn_from k tol 0 (Ok []) (map row_of es)) (take_more t i e h ∙ ap (λ (d : Entry M). take i t ++ (d ∷ [])) (sym r))
      ∙ ap (drawn_from k tol 0 (Ok [])) (map-append row_of (take i t) (e ∷ []))
      ∙ from_append 0 (Ok []) (map row_of (take i t)) (row_of e ∷ [])
      ∙ ap (λ (m : ℕ). then_drawn m (front i t) (row_drawn k tol (row_of e))) n

  from_err : (i : ℕ) (f : SheetFault) (bs : List (Row M)) → drawn_from k tol i (Err f) bs ≡ Err f
  from_err i f [] = refl
  from_err i f (b ∷ bs) = from_err (i + 1) f bs

  grown : (tot : List PathEl) (i : ℕ) (els : List PathEl) (bs : List (Row M)) → drawn_from k tol i (Ok els) bs ≡ Ok tot → length els ≤ length tot
  grown tot i els [] h = let e : els ≡ tot = cc in let l = ap length e in omega arith
  grown tot i els (b ∷ bs) h = by (λ more g. grown tot (i + 1) (els ++ more) bs g) (row_drawn k tol b) h
    where
      by : ((more : List PathEl) → drawn_from k tol (i + 1) (Ok (els ++ more)) bs ≡ Ok tot → length (els ++ more) ≤ length tot)
          → (r : Drawn) → drawn_from k tol (i + 1) (then_drawn i (Ok els) r) bs ≡ Ok tot → length els ≤ length tot
      by rec (Ok more) g = let l = rec more g in let m = length-append els more in omega arith
      by rec (Err f) g = let e = from_err (i + 1) (Path (record { position = i; fault = f })) bs in cc

  split : (es : List (Entry M)) (i : ℕ) → entries_drawn k tol es ≡ drawn_from k tol (0 + length (map row_of (take i es))) (front i es) (map row_of (drop i es))
  split es i =
      ap (entries_drawn k tol) (sym (take-append-drop i es))
      ∙ ap (drawn_from k tol 0 (Ok [])) (map-append row_of (take i es) (drop i es))
      ∙ from_append 0 (Ok []) (map row_of (take i es)) (map row_of (drop i es))

  -- a refusal stays
  pub refused : (es : List (Entry M)) (i : ℕ) (f : SheetFault) → front i es ≡ Err f → entries_drawn k tol es ≡ Err f
  refused es i f e =
      split es i
      ∙ ap (λ (s : Inked). drawn_from k tol (0 + length (map row_of (take i es))) s (map row_of (drop i es))) e
      ∙ from_err (0 + length (map row_of (take i es))) f (map row_of (drop i es))

  -- and what is drawn only grows
  pub fits : (es : List (Entry M)) (i : ℕ) (els tot : List PathEl) → front i es ≡ Ok els → entries_drawn k tol es ≡ Ok tot → length els ≤ length tot
  fits es i els tot e g =
      grown tot (0 + length (map row_of (take i es))) els (map row_of (drop i es))
      (sym (split es i ∙ ap (λ (s : Inked). drawn_from k tol (0 + length (map row_of (take i es))) s (map row_of (drop i es))) e) ∙ g)

  pub more_ok : (es : List (Entry M)) (i : ℕ) (e : Entry M) (so els : List PathEl) → i < length es → e ≡ get_or es i e → k.drawn e.mark tol ≡ Ok els → front i es ≡ Ok so
      → front (i + 1) es ≡ Ok (so ++ map (image_el (read_as e.numbers)) els)
  more_ok es i e so els h r d a = drawn_more es i e h r ∙ (λ j. then_drawn i (a j) (placed_drawn (read_as e.numbers) (d j)))

  pub more_err : (es : List (Entry M)) (i : ℕ) (e : Entry M) (so : List PathEl) (f : ShapeFault) → i < length es → e ≡ get_or es i e → k.drawn e.mark tol ≡ Err f → front i es ≡ Ok so
      → entries_drawn k tol es ≡ Err (Path (record { position = i; fault = f }))
  more_err es i e so f h r d a = refused es (i + 1) (Path (record { position = i; fault = f })) (drawn_more es i e h r ∙ (λ j. then_drawn i (a j) (placed_drawn (read_as e.numbers) (d j))))

  pub room_for : (es : List (Entry M)) (i : ℕ) (e : Entry M) (so els tot : List PathEl) → i < length es → e ≡ get_or es i e → k.drawn e.mark tol ≡ Ok els → front i es ≡ Ok so
      → entries_drawn k tol es ≡ Ok tot → length so + length els ≤ length tot
  room_for es i e so els tot h r d a b =
      let q = fits es (i + 1) (so ++ map (image_el (read_as e.numbers)) els) tot (more_ok es i e so els h r d a) b in
      let m : length (so ++ map (image_el (read_as e.numbers)) els) ≡ length so + length els = simp (length-append, length-map) in
      omega arith

left_some : (most n j : ℕ) → Some j ≡ left_of most n → n ≤ most
left_some most n j h = grind arith

left_none : (most n : ℕ) → None ≡ left_of most n → most < n
left_none most n h = grind arith

pub all_fit : (most j : ℕ) (so : Inked) → Ok (Some j) ≡ measured most so → Fitting most so
all_fit most j (Ok els) h = let e : Some j ≡ left_of most (length els) = cc in left_some most (length els) j e
all_fit most j (Err f) h = let z : ◌≡◌ {A = ℕ} 0 1 = cc in absurd (let w : 0 ≡ 1 = z in omega arith)

-- nothing is written where they do not fit
pub too_small : (old : List PathEl) (so : Inked) → Ok None ≡ measured (length old) so → (Err TooSmall ≡ draw_answer (length old) so) × (old ≡ draw_buffer old so)
too_small old (Ok els) h =
    let e : None ≡ left_of (length old) (length els) = cc in
    let l = left_none (length old) (length els) e in
    let b = lt-leb (length els) (length old) l in
    (sym (ap (λ (z : Bool). cond z (Ok (length els)) (Err TooSmall)) b), sym (ap (λ (z : Bool). cond z (els ++ drop (length els) old) old) b))
too_small old (Err f) h = let z : ◌≡◌ {A = ℕ} 0 1 = cc in absurd (let w : 0 ≡ 1 = z in omega arith)

pub stands_refused : (most : ℕ) (f : SheetFault) (old : List PathEl) (so : Inked) → Err f ≡ measured most so → (Err f ≡ draw_answer (length old) so) × (old ≡ draw_buffer old so)
stands_refused most f old (Ok els) h = let z : ◌≡◌ {A = ℕ} 0 1 = cc in absurd (let w : 0 ≡ 1 = z in omega arith)
stands_refused most f old (Err g) h = let e : f ≡ g = cc in (ap Err e, refl)

drawn_els : (els buffer old : List PathEl) → length els ≤ length old → buffer ≡ els ++ drop (length els) old → (Ok (length els) ≡ draw_answer (length old) (Ok els)) × (buffer ≡ draw_buffer old (Ok els))
drawn_els els buffer old h e = (
  sym (ap (λ (b : Bool). cond b (Ok (length els)) (Err TooSmall)) (le-leb (length els) (length old) h)),
  e ∙ sym (ap (λ (b : Bool). cond b (els ++ drop (length els) old) old) (le-leb (length els) (length old) h)),
)

pub drawn_whole : (buffer old : List PathEl) (at : ℕ) (so : Inked) → so ≡ Ok (take at buffer) → at ≤ length buffer → length buffer ≡ length old → drop at buffer ≡ drop at old → (Ok at ≡ draw_answer (length old) so) × (buffer ≡ draw_buffer old so)
drawn_whole buffer old at so e h n d =
    let m = length-take-le at buffer h in
    let l : length (take at buffer) ≤ length old = omega arith in
    let w : buffer ≡ take at buffer ++ drop (length (take at buffer)) old =
    sym (take-append-drop at buffer) ∙ ap (λ (r : List PathEl). take at buffer ++ r) d ∙ ap (λ (j : ℕ). take at buffer ++ drop j old) (sym m) in
    let p = drawn_els (take at buffer) buffer old l w in
    (ap Ok (sym m) ∙ p.0 ∙ ap (draw_answer (length old)) (sym e), p.1 ∙ ap (draw_buffer old) (sym e))

pub measured_ok : (most : ℕ) (so : Inked) (left : Option ℕ) → Ok left ≡ measured most so → (els : List PathEl) × (so ≡ Ok els) × (left ≡ left_of most (length els))
measured_ok most (Ok els) left h = (els, refl, cc)
measured_ok most (Err f) left h = cc

pub spent_more : (most a b : ℕ) → spent (left_of most a) b ≡ left_of most (a + b)
spent_more most a b = grind arith

pub fitting_ok : (most : ℕ) (so : Inked) → Fitting most so → (els : List PathEl) × (so ≡ Ok els) × (length els ≤ most)
fitting_ok most (Ok els) h = (els, refl, h)
fitting_ok most (Err f) h = absurd h

-- a fault that was handed on
pub handed_on : {X : Type 0} (r : Result X SheetFault) (f : SheetFault) → IsErrAnd r (λ e. e ≡ f) → r ≡ Err f
handed_on (Ok x) f h = absurd h
handed_on (Err e) f h = ap Err h

-- with the tolerance tested
pub tolerated : {M : Type 0} (k : Marks M) (tol : Float) (bs : List (Row M)) → true ≡ tolerable tol → drawn_from k tol 0 (Ok []) bs ≡ all_drawn k tol bs
tolerated k tol bs e = λ j. cond (e j) (drawn_from k tol 0 (Ok []) bs) (Err Tolerance)

pub not_tolerated : {M : Type 0} (k : Marks M) (tol : Float) (bs : List (Row M)) → false ≡ tolerable tol → Err Tolerance ≡ all_drawn k tol bs
not_tolerated k tol bs e = λ j. cond (e j) (drawn_from k tol 0 (Ok []) bs) (Err Tolerance)

pub drawn_book : {M : Type 0} (k : Marks M) (s : Sheet) (t : List (Entry M)) (tol : Float) (buffer buffer' : List PathEl) (r : Result ℕ SheetFault)
    → r ≡ draw_answer (length buffer) (all_drawn k tol (rows s t)) → buffer' ≡ draw_buffer buffer (all_drawn k tol (rows s t)) → DrawnByBook k s t tol buffer r buffer'
drawn_book k s t tol buffer buffer' r a w bs S =
    let e = all_drawn_agree k tol (used s t) bs S in
    (a ∙ ap (draw_answer (length buffer)) (sym e), w ∙ ap (draw_buffer buffer) (sym e))
