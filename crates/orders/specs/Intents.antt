-- What a line that cannot be read may have been meant to do. Assumes nothing.
use Rattle.std.specs.Prelude.{take, if◌then◌else◌, ◌||◌}
use Rattle.std.specs.Str.Lossy.{utf8_valid_len}
use Rattle.orders.specs.declared.unreadable.Intent.{Intent}
use Rattle.orders.specs.declared.unreadable.Intent.TheVariants.{Page, Change, Question}
use Rattle.orders.specs.Words.{Text, words_of}
use Rattle.orders.specs.Kinds.{is}
use Rattle.orders.specs.Lines.{before_comment}
use Rattle.orders.specs.Runs.{first_of, second_of}

-- what stands before the first byte that is no text
abbrev pub text_at_front : Text → Text
text_at_front bytes = take (utf8_valid_len bytes) bytes

-- by the word after `marks` or `frames`
unfoldable pub sheet_intent : Text → Intent
sheet_intent w =
    if is w "winding" || (is w "top" || (is w "bounding_box" || (is w "draw" || is w "set"))) then Question
    else Change

-- by the first two words
unfoldable pub intent_of_words : Text → Text → Intent
intent_of_words w v =
    if is w "page" then Page
    else (if is w "set" || (is w "measure" || is w "cover") then Question
    else (if is w "marks" || is w "frames" then sheet_intent v
    else Change))

abbrev pub intent_of : Text → Intent
intent_of bytes = let ws = words_of (text_at_front (before_comment bytes)) in intent_of_words (first_of ws) (second_of ws)
