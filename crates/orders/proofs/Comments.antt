-- What is text, and what stands before a '#'.
use Rattle.std.proofs.Common.{◌≡◌, ◌≢◌, ℕ, ◌<◌, true, false, length, get_or, take, All, sym, ap, arith}
use Rattle.std.specs.Prelude.{IsUtf8, ◌==◌}
use Rattle.std.specs.List.{position_or_len}
use Rattle.std.specs.Str.{is_utf8}
use Rattle.std.proofs.lemmas.Bool.{false_from_ne_true, eq-eqb, ne_eqb}
use Rattle.std.proofs.lemmas.List.{take_all}
use Rattle.std.proofs.lemmas.List.Sums.{position_or_len_is}
use Rattle.std.proofs.lemmas.Str.{is_utf8-from_IsUtf8, IsUtf8-from_is_utf8}
use Rattle.orders.specs.Words.{Text}
use Rattle.orders.specs.Lines.{before_comment}

pub is_text : (bs : Text) → IsUtf8 bs → is_utf8 bs ≡ true
is_text = is_utf8-from_IsUtf8

pub is_no_text : (bs : Text) → ¬ (IsUtf8 bs) → is_utf8 bs ≡ false
is_no_text bs h = false_from_ne_true (is_utf8 bs) (λ e. h (IsUtf8-from_is_utf8 bs e))

pub cut_at : (bs : Text) (i : ℕ) → i < length bs → get_or bs i 0 ≡ 35 → ((k : ℕ) → k < i → get_or bs k 0 ≢ 35) → take i bs ≡ before_comment bs
cut_at bs i inside here before =
    let first : position_or_len (λ b. b == 35) bs ≡ i = position_or_len_is (λ b. b == 35) bs i 0 (omega arith) (λ k l. ne_eqb _ 35 (before k l)) (λ l. eq-eqb _ 35 here) in
    ap (λ n. take n bs) (sym first)

pub cut_nowhere : (bs : Text) → All (λ b. b ≢ 35) bs → bs ≡ before_comment bs
cut_nowhere bs none =
    let first : position_or_len (λ b. b == 35) bs ≡ length bs = position_or_len_is (λ b. b == 35) bs (length bs) 0 (omega arith) (λ k l. ne_eqb _ 35 (none k 0 l)) (λ l. absurd (omega arith)) in
    sym (take_all _ bs (omega arith))
