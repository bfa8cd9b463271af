-- The words of two texts, taken two by two. Assumes nothing.
use Rattle.std.proofs.Common.{◌≡◌, ℕ, List, [], ◌∷◌, ◌++◌, Float, Some, None, Bor, inl, inr, refl, append_assoc}
use Rattle.std.specs.List.{AllZip}
use Rattle.std.specs.Str.Iter.{split_whitespace_steps, split_whitespace_rest}
use Rattle.std.specs.declared.str.SplitWhitespace.{SplitWhitespace}
use Rattle.std.proofs.lemmas.List.{append-nil}
use Rattle.comparison.specs.Words.{Left, HasWords}
use Rattle.comparison.specs.Agree.{AgreeBy, SameWord}

-- the words ws came, and what is left comes behind them
abbrev pub Came : SplitWhitespace → List (List ℕ) → SplitWhitespace → Type 0
Came start ws now = (us : List (List ℕ)) → Left now us → Left start (ws ++ us)

came_more : (start : SplitWhitespace) (ws : List (List ℕ)) (now next : SplitWhitespace) (r : Bor (List ℕ)) → Came start ws now → split_whitespace_steps now (Some r) next → Came start (ws ++ (r.now ∷ [])) next
unfolding Left
came_more start ws now next r h s = λ us left. rw append_assoc (h (r.now ∷ us) (r, next, s, refl, left))

came_all : (bs : List ℕ) (start : SplitWhitespace) (ws : List (List ℕ)) (now next : SplitWhitespace) → split_whitespace_rest start ≡ bs → Came start ws now → split_whitespace_steps now None next → HasWords bs ws
unfolding Left
came_all bs start ws now next e h s = (start, e, rw append-nil at (h [] (refl, s.1)))

all_zip_push : {A : Type 0} (R : A → A → Type 0) (xs ys : List A) (x y : A) → AllZip R xs ys → R x y → AllZip R (xs ++ (x ∷ [])) (ys ++ (y ∷ []))
all_zip_push R [] [] x y h r = (r, tt)
all_zip_push R [] (z ∷ ys) x y h r = absurd h
all_zip_push R (z ∷ xs) [] x y h r = absurd h
all_zip_push R (z ∷ xs) (w ∷ ys) x y h r = (h.0, all_zip_push R xs ys x y h.1 r)

-- as many words came of both, each like the other's
pub record AgreeSoFar (R : Float → Float → Type 0) (start now start' now' : SplitWhitespace) : Type 0 where
  pub ws : List (List ℕ)
  pub vs : List (List ℕ)
  pub came : Came start ws now
  pub came' : Came start' vs now'
  pub alike : AllZip (SameWord R) ws vs

pub none_came : (R : Float → Float → Type 0) (start start' : SplitWhitespace) → AgreeSoFar R start start start' start'
none_came R start start' = record { ws = []; vs = []; came = λ us h. h; came' = λ us h. h; alike = tt }

pub one_more : (R : Float → Float → Type 0) (start now next start' now' next' : SplitWhitespace) (w v : Bor (List ℕ)) → AgreeSoFar R start now start' now' → split_whitespace_steps now (Some w) next → split_whitespace_steps now' (Some v) next' → SameWord R w.now v.now → AgreeSoFar R start next start' next'
one_more R start now next start' now' next' w v h s s' same = record {
  ws = h.ws ++ (w.now ∷ []);
  vs = h.vs ++ (v.now ∷ []);
  came = came_more start h.ws now next w h.came s;
  came' = came_more start' h.vs now' next' v h.came' s';
  alike = all_zip_push (SameWord R) h.ws h.vs w.now v.now h.alike same;
}

pub agree_by : (R : Float → Float → Type 0) (a b : List ℕ) (start now next start' now' next' : SplitWhitespace) → split_whitespace_rest start ≡ a → split_whitespace_rest start' ≡ b → AgreeSoFar R start now start' now' → split_whitespace_steps now None next → split_whitespace_steps now' None next' → AgreeBy R a b
agree_by R a b start now next start' now' next' e e' h s s' = (h.ws, h.vs, came_all a start h.ws now next e h.came s, came_all b start' h.vs now' next' e' h.came' s', h.alike)

-- what R says of two numbers, S says too
all_zip_map : {A : Type 0} (R S : A → A → Type 0) → ((x y : A) → R x y → S x y) → (xs ys : List A) → AllZip R xs ys → AllZip S xs ys
all_zip_map R S f [] [] h = tt
all_zip_map R S f [] (y ∷ ys) h = absurd h
all_zip_map R S f (x ∷ xs) [] h = absurd h
all_zip_map R S f (x ∷ xs) (y ∷ ys) h = (f x y h.0, all_zip_map R S f xs ys h.1)

same_word_map : (R S : Float → Float → Type 0) → ((x y : Float) → R x y → S x y) → (w v : List ℕ) → SameWord R w v → SameWord S w v
same_word_map R S f w v (inl h) = inl (h.0, h.1, h.2, h.3, f h.0 h.1 h.4)
same_word_map R S f w v (inr e) = inr e

pub agree_by_map : (R S : Float → Float → Type 0) (a a' b : List ℕ) → a ≡ a' → ((x y : Float) → R x y → S x y) → AgreeBy R a b → AgreeBy S a' b
agree_by_map R S a a' b e f h = rw (← e) (h.0, h.1, h.2, h.3, all_zip_map (SameWord R) (SameWord S) (same_word_map R S f) h.0 h.1 h.4)
