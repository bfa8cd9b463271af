-- A reader that answers as the lines are read finds just the lines that are spelled.
use Rattle.std.proofs.Common.{◌≡◌, Result, Ok, Err, sym, ap, ◌∙◌}
use Rattle.std.specs.Prelude.{IfOk}
use Rattle.orders.specs.declared.line.Line.{Line}
use Rattle.orders.specs.declared.unreadable.Unreadable.{Unreadable}
use Rattle.orders.specs.Words.{Text, words_of}
use Rattle.orders.specs.Grammar.{Says}
use Rattle.orders.specs.Lines.{line_of}
use Rattle.orders.specs.Runs.{run}
use Rattle.orders.specs.Views.{Answers}
use Rattle.orders.proofs.Spelled.{spelled_is_read}
use Rattle.orders.proofs.Found.{words_real, read_is_spelled}

read_as : (t : Text) (l : Line) → Says (words_of t) l → line_of t ≡ Ok l
unfolding line_of
read_as t l h = spelled_is_read (words_of t) (run 0 (words_of t)).miscount l h

pub is_found : (t : Text) (r : Result Line Unreadable) → Answers (λ l. l) r (line_of t) → IfOk r (λ l. Says (words_of t) l)
unfolding line_of
is_found t (Ok l) h = read_is_spelled (run 0 (words_of t)) l (words_real t) h
is_found t (Err u) h = tt

pub is_only : (t : Text) (r : Result Line Unreadable) (l : Line) → Answers (λ l. l) r (line_of t) → Says (words_of t) l → r ≡ Ok l
is_only t (Ok x) l h s = let e = sym h ∙ read_as t l s in ap Ok cc
is_only t (Err u) l h s = absurd (let e = sym h ∙ read_as t l s in cc)
