-- A lift: its answer over the rows, and what it leaves. Assumes nothing.
use Rattle.std.proofs.Common.{◌≡◌, ℕ, zero, suc, ◌+◌, ◌-◌, ◌<◌, ◌≤◌, min, Bool, true, false, cond, ltb, List, [], ◌∷◌, ◌++◌, length, get_or, take, drop, set, Ok, Err, Result, sym, refl, ap, ◌∙◌, subst, add-one, arith, ltb→lt, nltb→le, length-append, length-drop, take-append-drop, take-take, drop-set-lt}
use lib.Seq.{take-append_seam}
use Rattle.std.specs.Bool.{passes, fails}
use Rattle.std.specs.List.{copy_within}
use Rattle.std.proofs.lemmas.List.{drop-take, take_more, take_more_set, drop-drop}
use Rattle.std.proofs.lemmas.List.Edits.{take-paste, drop-paste}
use Rattle.std.proofs.lemmas.Bool.{cond_below, cond_above}
use Rattle.sheets.specs.declared.fault.SheetFault.{SheetFault}
use Rattle.sheets.specs.declared.fault.SheetFault.TheVariants.{NoMark}
use Rattle.sheets.specs.declared.sheet.Entry.{Entry}
use Rattle.sheets.specs.declared.sheet.Sheet.{Sheet}
use Rattle.sheets.specs.Book.{usable, without, lift_answer, lift_rows}
use Rattle.sheets.specs.Tables.{counting, held, used, rows, StandsFor, AllStand, where_granted, lift_table, LiftByBook}
use Rattle.sheets.proofs.Agree.{same_count, lift_agree}
use Rattle.sheets.proofs.Counts.{used_count, rows_count}
use Rattle.sheets.proofs.Kept.{without_stand}

-- ---- lists without one element
without_parts : {X : Type 0} (i : ℕ) (xs : List X) → without i xs ≡ take i xs ++ drop (suc i) xs
without_parts zero [] = refl
without_parts (suc i) [] = refl
without_parts zero (x ∷ xs) = refl
without_parts (suc i) (x ∷ xs) = ap (λ ys. x ∷ ys) (without_parts i xs)

pub front_without : {X : Type 0} (i : ℕ) (xs : List X) → take i xs ≡ take i (without i xs)
front_without zero xs = refl
front_without (suc i) [] = refl
front_without (suc i) (x ∷ xs) = ap (λ ys. x ∷ ys) (front_without i xs)

pub count_without : {X : Type 0} (i : ℕ) (xs : List X) → i < length xs → suc (length (without i xs)) ≡ length xs
count_without i [] h = absurd (omega arith)
count_without zero (x ∷ xs) h = refl
count_without (suc i) (x ∷ xs) h = ap suc (count_without i xs (omega arith))

next_without : {X : Type 0} (i k : ℕ) (xs : List X) (d : X) → i ≤ k → get_or (without i xs) k d ≡ get_or xs (suc k) d
next_without i k [] d h = refl
next_without zero k (x ∷ xs) d h = refl
next_without (suc i) zero (x ∷ xs) d h = absurd (let z : suc i ≤ 0 = h in omega arith)
next_without (suc i) (suc k) (x ∷ xs) d h = next_without i k xs d (let z : suc i ≤ suc k = h in omega arith)

second : {X : Type 0} (k : ℕ) (xs : List X) (d : X) → get_or (drop k xs) 1 d ≡ get_or xs (suc k) d
second zero xs d = refl
second (suc k) [] d = refl
second (suc k) (x ∷ xs) d = second k xs d

-- one entry more comes down
pub lift_more : {X : Type 0} (i k : ℕ) (old xs : List X) (x : X) → i ≤ k → k + 1 < length old → k < length xs → x ≡ get_or xs (k + 1) x
    → take k xs ≡ take k (without i old) → drop k xs ≡ drop k old
    → (take (k + 1) (set xs k x) ≡ take (k + 1) (without i old)) × (drop (k + 1) (set xs k x) ≡ drop (k + 1) old)
lift_more {X} i k old xs x h l m r a b =
    let u : i < length old = omega arith in
    let v = count_without i old u in
    let w : k < length (without i old) = omega arith in
    let n : k < k + 1 = omega arith in
    let e : x ≡ get_or (without i old) k x =
    r ∙ ap (λ (j : ℕ). get_or xs j x) (add-one k) ∙ sym (second k xs x) ∙ ap (λ (ys : List X). get_or ys 1 x) b ∙ second k old x ∙ sym (next_without i k old x h) in (
      take_more_set xs k x m ∙ ap (λ (ys : List X). ys ++ (x ∷ [])) a ∙ ap (λ (y : X). take k (without i old) ++ (y ∷ [])) e ∙ sym (take_more (without i old) k x w),
      drop-set-lt (k + 1) xs k x n ∙ sym (drop-drop 1 k xs) ∙ ap (drop 1) b ∙ drop-drop 1 k old,
    )

without_take : {X : Type 0} (i m : ℕ) (xs : List X) → i ≤ m → without i (take (suc m) xs) ≡ take m (without i xs)
without_take i zero [] h = refl
without_take i (suc m) [] h = refl
without_take zero m (x ∷ xs) h = refl
without_take (suc i) zero (x ∷ xs) h = absurd (let z : suc i ≤ 0 = h in omega arith)
without_take (suc i) (suc m) (x ∷ xs) h = ap (λ ys. x ∷ ys) (without_take i m xs (let z : suc i ≤ suc m = h in omega arith))

pub without_front : {X : Type 0} (i n : ℕ) (xs : List X) → i < n → without i (take n xs) ≡ take (n - 1) (without i xs)
without_front i zero xs h = absurd (let z : i < 0 = h in omega arith)
without_front {X} i (suc m) xs h =
    let k : i ≤ m = omega arith in
    let e : m ≡ suc m - 1 = omega arith in
    without_take i m xs k ∙ ap (λ (n : ℕ). take n (without i xs)) e

pub without_none : {X : Type 0} (i : ℕ) (xs : List X) → length xs ≤ i → without i xs ≡ xs
without_none i [] h = refl
without_none zero (x ∷ xs) h = absurd (omega arith)
without_none (suc i) (x ∷ xs) h = ap (λ ys. x ∷ ys) (without_none i xs (omega arith))

-- the table when those above i have come down
pub lifted : {X : Type 0} (i n : ℕ) (t : List X) → i < n → n ≤ length t → copy_within t (i + 1) n i ≡ without i (take n t) ++ drop (n - 1) t
lifted {X} i n t h l =
    let m = n - (i + 1) in
    let o : m ≤ length (drop (i + 1) t) = simp length-drop (omega arith) in
    let a : i ≤ length t = omega arith in
    let b : i ≤ n = omega arith in
    let e : i + m ≡ n - 1 = omega arith in
    let f : (i + 1) + m ≡ n = omega arith in
    let back : drop (suc i) (take n t) ≡ take m (drop (i + 1) t) = ap (λ (k : ℕ). drop (suc i) (take k t)) (sym f) ∙ ap (λ (k : ℕ). drop k (take ((i + 1) + m) t)) (sym (add-one i)) ∙ drop-take (i + 1) m t in
    sym (take-append-drop (i + m) (copy_within t (i + 1) n i))
    ∙ (λ j. take-paste t i (drop (i + 1) t) m a o j ++ drop-paste t i (drop (i + 1) t) m a o j)
    ∙ (λ j. (take i t ++ sym back j) ++ drop (e j) t)
    ∙ ap (λ (ys : List X). (ys ++ drop (suc i) (take n t)) ++ drop (n - 1) t) (sym (take-take i n t b))
    ∙ ap (λ (ys : List X). ys ++ drop (n - 1) t) (sym (without_parts i (take n t)))

-- the table when all have come down one by one
pub lifted_each : {X : Type 0} (i n k : ℕ) (old xs : List X) → i < n → n ≤ length old → k ≡ n - 1 → take k xs ≡ take k (without i old) → drop k xs ≡ drop k old → xs ≡ without i (take n old) ++ drop (n - 1) old
lifted_each {X} i n k old xs h l e a b =
    sym (take-append-drop k xs)
    ∙ (λ j. a j ++ b j)
    ∙ ap (λ (z : ℕ). take z (without i old) ++ drop z old) e
    ∙ ap (λ (ys : List X). ys ++ drop (n - 1) old) (sym (without_front i n old h))

module _ {M : Type 0} (s : Sheet) (t : List (Entry M)) (i : ℕ) where
  pub lift_none : held s t ≤ i → Err NoMark ≡ lift_answer (rows s t) i
  lift_none h =
      let e = rows_count s t in
      let l : length (rows s t) ≤ i = omega arith in
      cond_above i (length (rows s t)) _ (Err NoMark) (Err NoMark) l refl

  pub lift_one : i < held s t → Ok (held s t - 1) ≡ lift_answer (rows s t) i
  lift_one h =
      let e = rows_count s t in
      let l : i < length (rows s t) = omega arith in
      ap (λ (n : ℕ). Ok (n - 1)) (sym e) ∙ cond_below i (length (rows s t)) _ (Err NoMark) l

  lifted_front : i < held s t → used (counting (held s t - 1)) (lift_table s t i) ≡ without i (used s t)
  lifted_front h =
      let u = used_count s t in
      let g : i < length (used s t) = omega arith in
      let c = count_without i (used s t) g in
      let w : length (without i (used s t)) ≡ held s t - 1 = omega arith in
      let n : length (lift_table s t i) ≡ length t = simp (length-append, length-drop) (omega arith) in
      let m : min (held s t - 1) (usable (length (lift_table s t i))) ≡ length (without i (used s t)) = omega arith in
      ap (λ (j : ℕ). take j (lift_table s t i)) m ∙ take-append_seam (without i (used s t)) (drop (held s t - 1) t)

  pub lift_book : (s' : Sheet) (t' : List (Entry M)) (r : Result ℕ SheetFault) → r ≡ lift_answer (rows s t) i → s' ≡ where_granted r (counting (held s t - 1)) s → t' ≡ where_granted r (lift_table s t i) t → LiftByBook s t i r s' t'
  lift_book s' t' r a p q bs S = (answer, subst (λ (u : Sheet × List (Entry M)). StandsFor u.0 u.1 (lift_rows bs i)) (λ j. (sym p' j, sym q' j)) (go (ltb i (length bs)) refl))
    where
      answer : r ≡ lift_answer bs i
      answer = a ∙ sym (lift_agree i (used s t) bs S)

      p' : s' ≡ where_granted (lift_answer bs i) (counting (held s t - 1)) s
      p' = p ∙ ap (λ (z : Result ℕ SheetFault). where_granted z (counting (held s t - 1)) s) answer

      q' : t' ≡ where_granted (lift_answer bs i) (lift_table s t i) t
      q' = q ∙ ap (λ (z : Result ℕ SheetFault). where_granted z (lift_table s t i) t) answer

      go : (b : Bool) → ltb i (length bs) ≡ b
          → StandsFor (where_granted (cond b (Ok (length bs - 1)) (Err NoMark)) (counting (held s t - 1)) s) (where_granted (cond b (Ok (length bs - 1)) (Err NoMark)) (lift_table s t i) t) (lift_rows bs i)
      go true e =
          let n = same_count (used s t) bs S ∙ rows_count s t in
          let g : i < length bs = ltb→lt _ _ (passes _ e) in
          let l : i < held s t = omega arith in
          subst (λ (es : List (Entry M)). AllStand es (without i bs)) (sym (lifted_front l)) (without_stand i (used s t) bs S)
      go false e =
          let f = fails (ltb i (length bs)) e in
          let l : length bs ≤ i = nltb→le i (length bs) f in
          subst (AllStand (used s t)) (sym (without_none i bs l)) S
