-- Lines that were taken in turn, and one more. Assumes nothing.
use Rattle.std.proofs.lemmas.Grind.{flat_map-append}
use Rattle.std.proofs.Common.{◌≡◌, ℕ, ◌+◌, ◌≤◌, arith, length-append, ◌⊎◌, Bool, true, false, ◌&&◌, List, [], ◌∷◌, ◌++◌, map, Option, None, Some, sym, refl, ap, ◌∙◌, subst, inl, inr, not}
use Rattle.std.specs.Prelude.{IfSome, is_some}
use Rattle.std.specs.Option.{is_none}
use Rattle.std.specs.Io.KnownBytes.{IsAtEnd, Appends, Keeps}
use Rattle.std.proofs.KnownBytes.{Appends-nil, Appends-trans}
use Rattle.std.proofs.lemmas.List.{append_assoc, append-nil, map-append}
use Rattle.lines.specs.Lines.{LinesOf}
use Rattle.lines.proofs.Runs.{Begins, begins, begins_more, first_lines, all_lines}
use Rattle.orders.specs.Words.{Text}
use Rattle.sittings.specs.declared.files.Taken.{Taken}
use Rattle.sittings.specs.declared.sitting.Sitting.{Sitting}
use Rattle.sittings.specs.Files.{all_read, but_last, InputsSay, TakesLine, of_file, of_files, files_read, GoesOn, TakesLines, TakesFiles}
use Rattle.sittings.specs.Moments.{SittingAfter}
use Rattle.sittings.specs.Courses.{Course, Input, next_line, file_end, course, course_from, after_input, with_line}
use Rattle.sittings.specs.Transcripts.{Written, LineSays, end_text, fault_in}

-- ---- what is known after two lists
from_both : (s : Course) (is js : List Input) → course_from s (is ++ js) ≡ course_from (course_from s is) js
from_both s [] js = refl
from_both s (i ∷ is) js = from_both (after_input i s) is js

pub course_both : (past more : List Input) → course (past ++ more) ≡ course_from (course past) more
course_both past more = from_both _ past more

say_both : (s : Course) (is js : List Input) (said more : Text) → InputsSay s is said → InputsSay (course_from s is) js more → InputsSay s (is ++ js) (said ++ more)
say_both s [] js said more h m = subst (InputsSay s js) (sym (ap (λ (t : Text). t ++ more) h)) m
say_both s (next_line l ∷ is) js said more h m = (h.0, h.1 ++ more, h.2, say_both (with_line l s) is js h.1 more h.3 m, ap (λ (t : Text). t ++ more) h.4 ∙ append_assoc h.0 h.1 more)
say_both s (file_end ∷ is) js said more h m = (h.0 ++ more, say_both (after_input file_end s) is js h.0 more h.1 m, ap (λ (t : Text). t ++ more) h.2 ∙ append_assoc (end_text s) h.0 more)

-- ---- what came goes on
pub stays : (past : List Input) (it : Sitting) (old : Option Text) → SittingAfter past it → GoesOn past [] it old old
stays past it old h = record { stands = subst (λ (is : List Input). SittingAfter is it) (sym (append-nil past)) h; written = ([], refl, Appends-nil old) }

pub goes_on : (past more then : List Input) (it now : Sitting) (old mid new : Option Text) → GoesOn past more it old mid → GoesOn (past ++ more) then now mid new → GoesOn past (more ++ then) now old new
goes_on past more then it now old mid new G H =
    let said = G.written.0 in
    let rest = H.written.0 in
    record {
      stands = subst (λ (is : List Input). SittingAfter is now) (append_assoc past more then) H.stands;
      written = (
        said ++ rest,
        say_both (course past) more then said rest G.written.1 (subst (λ (s : Course). InputsSay s then rest) (course_both past more) H.written.1),
        Appends-trans old mid new said rest G.written.2 H.written.2,
      );
    }

pub appends_kept : (a b c : Option Text) (text : Text) → Appends a b text → Keeps b c → Appends a c text
appends_kept None b c text p k = tt
appends_kept (Some x) None c text p k = absurd p
appends_kept (Some x) (Some y) None text p k = absurd k
appends_kept (Some x) (Some y) (Some z) text p k = k ∙ p

pub kept : (past more : List Input) (it now : Sitting) (old mid new : Option Text) → GoesOn past more it old mid → now ≡ it → Keeps mid new → GoesOn past more now old new
kept past more it now old mid new G same quiet = record {
  stands = subst (SittingAfter (past ++ more)) (sym same) G.stands;
  written = (G.written.0, G.written.1, appends_kept old mid new G.written.0 G.written.2 quiet);
}

-- one line, or the end of a file
pub by_line : (past : List Input) (line : Text) (it : Sitting) (old new : Option Text) → SittingAfter (past ++ (next_line line ∷ [])) it → Written (LineSays line (course past)) old new
    → GoesOn past (next_line line ∷ []) it old new
by_line past line it old new h w = record { stands = h; written = (w.0, (w.0, [], w.1, refl, sym (append-nil w.0)), w.2) }

pub by_end : (past : List Input) (it : Sitting) (old new : Option Text) → SittingAfter (past ++ (file_end ∷ [])) it → Appends old new (end_text (course past)) → GoesOn past (file_end ∷ []) it old new
by_end past it old new h w = record { stands = h; written = (end_text (course past), ([], refl, sym (append-nil (end_text (course past)))), w) }

-- ---- which lines can be read
and_after : (a b c : Bool) → a && (b && c) ≡ (a && b) && c
and_after true b c = refl
and_after false b c = refl

and_true : (a : Bool) → a && true ≡ a
and_true true = refl
and_true false = refl

read_more : (s : Course) (ls : List Text) (l : Text) → all_read s (ls ++ (l ∷ [])) ≡ all_read s ls && is_none (fault_in l (course_from s (map next_line ls)))
read_more s [] l = and_true (is_none (fault_in l s))
read_more s (k ∷ ls) l = ap (λ (b : Bool). is_none (fault_in k s) && b) (read_more (with_line k s) ls l) ∙ and_after (is_none (fault_in k s)) (all_read (with_line k s) ls) _

-- ---- a strict sitting
but_last_push : (ls : List Text) (l : Text) → but_last (ls ++ (l ∷ [])) ≡ ls
but_last_push [] l = refl
but_last_push (j ∷ []) l = refl
but_last_push (j ∷ (k ∷ ls)) l = ap (λ (ms : List Text). j ∷ ms) (but_last_push (k ∷ ls) l)

both_true : (a b : Bool) → a && b ≡ true → b ≡ true
both_true true b h = h
both_true false b h = absurd (let f : false ≡ true = h in cc)

first_true : (a b : Bool) → a && b ≡ true → a ≡ true
first_true true b h = refl
first_true false b h = absurd (let f : false ≡ true = h in cc)

read_but_last : (s : Course) (ls : List Text) → all_read s ls ≡ true → all_read s (but_last ls) ≡ true
read_but_last s [] h = refl
read_but_last s (l ∷ []) h = refl
read_but_last s (l ∷ (k ∷ ls)) h =
    let a = first_true (is_none (fault_in l s)) (all_read (with_line l s) (k ∷ ls)) h in
    let b = read_but_last (with_line l s) (k ∷ ls) (both_true (is_none (fault_in l s)) (all_read (with_line l s) (k ∷ ls)) h) in
    (λ i. a i && b i)

-- ---- lines that were taken so far
pub record SoFar (past : List Input) (taken : List Text) (known left : Option Text) (read : Bool) (it : Sitting) (old new : Option Text) : Type 0 where
  pub lines : GoesOn past (map next_line taken) it old new
  pub begins : Begins known left taken
  pub is_read : read ≡ all_read (course past) taken

pub none_yet : (past : List Input) (known : Option Text) (it : Sitting) (old : Option Text) → SittingAfter past it → SoFar past [] known known true it old old
none_yet past known it old h = record { lines = stays past it old h; begins = begins known; is_read = refl }

pub line_more : (past : List Input) (taken : List Text) (known left later : Option Text) (read r : Bool) (it now : Sitting) (old mid new : Option Text) → SoFar past taken known left read it old mid
    → (T : TakesLine (past ++ map next_line taken) left later r now mid new) → SoFar past (taken ++ (T.line ∷ [])) known later (read && r) now old new
line_more past taken known left later read r it now old mid new S T =
    let e = course_both past (map next_line taken) in
    let one = by_line (past ++ map next_line taken) T.line now mid new T.stands T.written in
    record {
      lines = subst (λ (is : List Input). GoesOn past is now old new) (sym (map-append next_line taken (T.line ∷ [])))
          (goes_on past (map next_line taken) (next_line T.line ∷ []) it now old mid new S.lines one);
      begins = begins_more known left later taken T.line S.begins T.given;
      is_read = (λ i. S.is_read i && (T.is_read ∙ ap (λ (s : Course). is_none (fault_in T.line s)) e) i) ∙ sym (read_more (course past) taken T.line);
    }

-- ---- at the end of the input, all of its lines
lines_alone : (known later : Option Text) (lines : List Text) → IfSome known (λ bs. LinesOf bs lines × (later ≡ Some [])) → IfSome known (λ bs. LinesOf bs lines)
lines_alone None later lines h = tt
lines_alone (Some bs) later lines h = h.0

module _ (past : List Input) (taken : List Text) (known left : Option Text) (strict read : Bool) (it now : Sitting) (old mid new : Option Text) (t : Taken) (e : t.all_read ≡ read)
    (S : SoFar past taken known left read it old mid) where
  taken_by : (strict ≡ true → all_read (course past) (but_last taken) ≡ true) → ((is_none t.broken ≡ true) → (strict ≡ false) ⊎ (t.all_read ≡ true) → IfSome known (λ bs. LinesOf bs taken)) → now ≡ it → Keeps mid new → TakesLines past taken known strict t now old new
  taken_by last all same quiet = record {
    lines = kept past (map next_line taken) it now old mid new S.lines same quiet;
    is_read = e ∙ S.is_read;
    last = last;
    first = first_lines known left taken S.begins;
    all = all;
  }

  each_read : (strict ≡ true → read ≡ true) → strict ≡ true → all_read (course past) (but_last taken) ≡ true
  each_read reads s = read_but_last (course past) taken (sym S.is_read ∙ reads s)

  pub at_end : (strict ≡ true → read ≡ true) → (later : Option Text) → IsAtEnd left → Keeps left later → now ≡ it → Keeps mid new → TakesLines past taken known strict t now old new
  at_end reads later end there same quiet = taken_by (each_read reads) (λ _ _. lines_alone known later taken (all_lines known left later taken S.begins end there)) same quiet

  -- an input that broke off
  pub broken_off : (strict ≡ true → read ≡ true) → is_some t.broken ≡ true → now ≡ it → Keeps mid new → TakesLines past taken known strict t now old new
  broken_off reads b same quiet = taken_by (each_read reads) (λ n _. absurd (let f : true ≡ false = sym n ∙ ap (λ (x : Bool). not x) b in cc)) same quiet

  -- a strict sitting that ended
  pub cut_short : (strict ≡ true → all_read (course past) (but_last taken) ≡ true) → strict ≡ true → read ≡ false → now ≡ it → Keeps mid new → TakesLines past taken known strict t now old new
  cut_short last s r same quiet =
      taken_by last (λ _ h. elim h [ inl f ↦ absurd (let g : true ≡ false = sym s ∙ f in cc) | inr f ↦ absurd (let g : false ≡ true = sym (e ∙ r) ∙ f in cc) ]) same quiet

-- the lines before the one that ended it
pub read_before : (past : List Input) (taken : List Text) (line : Text) (known left : Option Text) (strict read : Bool) (it : Sitting) (old new : Option Text) → SoFar past taken known left read it old new
    → (strict ≡ true → read ≡ true) → strict ≡ true → all_read (course past) (but_last (taken ++ (line ∷ []))) ≡ true
read_before past taken line known left strict read it old new S reads s = ap (all_read (course past)) (but_last_push taken line) ∙ sym S.is_read ∙ reads s

-- ---- files
read_both : (s : Course) (files more : List (List Text)) → files_read s (files ++ more) ≡ files_read s files && files_read (course_from s (of_files files)) more
read_both s [] more = refl
read_both s (f ∷ fs) more =
    ap (λ (b : Bool). all_read s f && b) (read_both (course_from s (of_file f)) fs more)
    ∙ and_after (all_read s f) (files_read (course_from s (of_file f)) fs) _
    ∙ ap (λ (m : Course). (all_read s f && files_read (course_from s (of_file f)) fs) && files_read m more) (sym (from_both s (of_file f) (of_files fs)))

pub one_file : (past : List Input) (lines : List Text) (whole read : Bool) (it : Sitting) (old new : Option Text) → GoesOn past (of_file lines) it old new → read ≡ all_read (course past) lines
    → TakesFiles past 1 (whole && read) (lines ∷ []) it old new
one_file past lines whole read it old new G e = record {
  lines = subst (λ (is : List Input). GoesOn past is it old new) (sym (append-nil (of_file lines))) G;
  few = (omega arith);
  all = λ h. refl;
  is_read = λ h. and_true (all_read (course past) lines) ∙ sym e ∙ both_true whole read h;
}

pub none_opened : (past : List Input) (count : ℕ) (it : Sitting) (old new : Option Text) → SittingAfter past it → Keeps old new → TakesFiles past count false [] it old new
none_opened past count it old new h quiet = record {
  lines = kept past [] it it old old new (stays past it old h) refl quiet;
  few = (omega arith);
  all = λ e. absurd (let f : false ≡ true = e in cc);
  is_read = λ e. refl;
}

pub no_files_yet : (past : List Input) (it : Sitting) (old : Option Text) → SittingAfter past it → TakesFiles past 0 true [] it old old
no_files_yet past it old h = record { lines = stays past it old h; few = (omega arith); all = λ e. refl; is_read = λ e. refl }

-- a strict sitting that ended before the last file
pub some_left : (past : List Input) (i count : ℕ) (read : Bool) (files : List (List Text)) (it : Sitting) (old new : Option Text) → i ≤ count → read ≡ false → TakesFiles past i read files it old new
    → TakesFiles past count read files it old new
some_left past i count read files it old new h r F =
    let few = F.few in
    record { lines = F.lines; few = (omega arith); all = λ e. absurd (let f : false ≡ true = sym r ∙ e in cc); is_read = F.is_read }

pub files_more : (past : List Input) (i j : ℕ) (read r : Bool) (files more : List (List Text)) (it now : Sitting) (old mid new : Option Text) → TakesFiles past i read files it old mid
    → TakesFiles (past ++ of_files files) j r more now mid new → TakesFiles past (i + j) (read && r) (files ++ more) now old new
files_more past i j read r files more it now old mid new F G =
    let l = length-append files more in
    let few = F.few in
    let fewer = G.few in
    let then : r ≡ true → files_read (course_from (course past) (of_files files)) more ≡ true
    = λ e. ap (λ (s : Course). files_read s more) (sym (course_both past (of_files files))) ∙ G.is_read e in
    record {
      lines = subst (λ (is : List Input). GoesOn past is now old new) (sym (flat_map-append of_file files more)) (goes_on past (of_files files) (of_files more) it now old mid new F.lines G.lines);
      few = (omega arith);
      all = λ e. l ∙ (λ k. F.all (first_true read r e) k + G.all (both_true read r e) k);
      is_read = λ e. read_both (course past) files more ∙ (λ k. F.is_read (first_true read r e) k && then (both_true read r e) k);
    }
