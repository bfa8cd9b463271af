-- One line more: what the sitting stands for afterwards, and what is written. Assumes nothing.
use Rattle.std.proofs.Common.{◌≡◌, List, [], ◌∷◌, ◌++◌, Option, Ok, Result, codes, string_bytes, sym, refl, ap, ◌∙◌, subst}
use Rattle.exam.specs.Moments.{PageAfter}
use Rattle.exam.proofs.Pages.{marks_sound, frames_sound}
use Rattle.orders.specs.declared.unreadable.Intent.{Intent}
use Rattle.orders.specs.declared.unreadable.Intent.TheVariants.{Page, Change, Question}
use Rattle.orders.specs.Lines.{order_of, line_of}
use Rattle.orders.specs.Words.{Text}
use Rattle.sittings.specs.declared.progress.Standing.{Standing}
use Rattle.sittings.specs.declared.progress.Standing.TheVariants.{NoPage, Marked, Unmarked}
use Rattle.sittings.specs.declared.sitting.Sitting.{Sitting}
use Rattle.sittings.specs.declared.tally.Tally.{Tally}
use Rattle.sittings.specs.Moments.{StandsFor, SittingAfter, IsSound}
use Rattle.sittings.specs.Courses.{Course, Input, next_line, course, course_from, after_input, come, with_line_counted, without_byte_order_mark, taken_as, read_as, meant}
use Rattle.sittings.specs.Tallies.{page_sum}
use Rattle.sittings.specs.Transcripts.{sum_text, LineSays, TakenSays, ReadSays, fault_in, taken_fault, fault_of}

-- ---- the sum of a page
pub summed : (st : Standing) (name : Text) (t : Tally) → (st ≡ NoPage → ⊥) → page_sum name t ++ codes "\n" ≡ sum_text st name t
summed NoPage name t n = absurd (n refl)
summed Marked name t n = refl
summed Unmarked name t n = refl

-- ---- what is meant does not count lines
pub meant_lines : (i : Intent) (s : Course) → (meant i s).progress.lines ≡ s.progress.lines
meant_lines Page s = refl
meant_lines Change s = refl
meant_lines Question s = refl

-- ---- a list of lines, and one more
push_from : (s : Course) (past : List Input) (i : Input) → course_from s (past ++ (i ∷ [])) ≡ after_input i (course_from s past)
push_from s [] i = refl
push_from s (j ∷ past) i = push_from (after_input j s) past i

pub push : (past : List Input) (i : Input) → course (past ++ (i ∷ [])) ≡ after_input i (course past)
push past i = push_from _ past i

pub pushed : (past : List Input) (i : Input) (it : Sitting) → StandsFor (after_input i (course past)) it → SittingAfter (past ++ (i ∷ [])) it
pushed past i it K = subst (λ (s : Course). StandsFor s it) (sym (push past i)) K

-- ---- a text that is not empty
pub read_on : (bytes text : Text) (s : Course) → (text ≡ [] → ⊥) → taken_as bytes (Ok text) s ≡ read_as bytes text (line_of text) s
read_on bytes [] s some = absurd (some refl)
read_on bytes (b ∷ bs) s some = refl

pub read_says : (bytes text : Text) (s : Course) (said : Text) → (text ≡ [] → ⊥) → ReadSays bytes text (line_of text) s said → TakenSays bytes (Ok text) s said
read_says bytes [] s said some r = absurd (some refl)
read_says bytes (b ∷ bs) s said some r = r

pub read_fault : (text : Text) → (text ≡ [] → ⊥) → taken_fault (Ok text) ≡ fault_of (line_of text)
read_fault [] some = absurd (some refl)
read_fault (b ∷ bs) some = refl

-- ---- a line that comes
module _ (s : Course) (it it' : Sitting) (line bytes : Text) (K : StandsFor s it) (b : bytes ≡ without_byte_order_mark it.progress.lines line) (p : it'.progress ≡ with_line_counted it.progress)
    (same : (it'.page ≡ it.page) × (it'.name ≡ it.name)) where
  pub come_kept : StandsFor (come s) it'
  come_kept = record {
    progress = p ∙ ap with_line_counted K.progress;
    name = ap string_bytes same.1 ∙ K.name;
    page = subst (PageAfter s.sizes s.orders) (sym same.0) K.page;
  }

  pub bytes_are : bytes ≡ without_byte_order_mark s.progress.lines line
  bytes_are = b ∙ (λ i. without_byte_order_mark (K.progress i).lines line)

  module _ (o : Result Text Text) (e : order_of bytes ≡ o) where
    ordered : order_of (without_byte_order_mark s.progress.lines line) ≡ o
    ordered = sym (ap order_of bytes_are) ∙ e

    pub line_kept : (now : Sitting) → StandsFor (taken_as bytes o (come s)) now → StandsFor (after_input (next_line line) s) now
    line_kept now k = subst (λ (m : Course). StandsFor m now) (λ i. taken_as (bytes_are i) (sym ordered i) (come s)) k

    pub line_says : (said : Text) → TakenSays bytes o (come s) said → LineSays line s said
    line_says said k = subst (λ (x : Text × Result Text Text). TakenSays x.0 x.1 (come s) said) (λ i. (bytes_are i, sym ordered i)) k

    pub line_fault : (why : Option Text) → why ≡ taken_fault o → why ≡ fault_in line s
    line_fault why q = q ∙ sym (ap taken_fault ordered)

-- ---- the rows of both books
pub sound_now : (s : Course) → IsSound s
sound_now s = (marks_sound s.sizes.entries s.orders, frames_sound s.sizes.entries s.orders)
