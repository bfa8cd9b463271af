-- The text of each reason for which a line cannot be read. Assumes nothing.
use Rattle.std.specs.Prelude.{ℕ, ◌++◌, ◌==◌, if◌then◌else◌, codes, decimal}
use Rattle.orders.specs.Words.{Text}
use Rattle.orders.specs.Escapes.{escaped}
use Rattle.orders.specs.declared.unreadable.Unreadable.{Unreadable}
use Rattle.orders.specs.declared.unreadable.Unreadable.TheVariants.{NoText, NoOrder, NoShape, Count, NoOver, NoNumber, NoPosition, NoAllowance, NoQuestion, NoKey, NoPage, NoSize}

abbrev pub no_text : Text
no_text = codes "not UTF-8 text"

abbrev pub no_order : Text → Text
no_order w = codes "'" ++ (escaped w ++ codes "' is no order")

abbrev pub no_shape : Text → Text
no_shape w = codes "'" ++ (escaped w ++ codes "' is no shape")

abbrev pub miscounted : ℕ → ℕ → Text
miscounted wanted given =
    if wanted == 1 then codes "1 number wanted, " ++ (decimal given ++ codes " there")
    else decimal wanted ++ (codes " numbers wanted, " ++ (decimal given ++ codes " there"))

abbrev pub no_over : Text
no_over = codes "'over' is wanted"

abbrev pub no_number : Text → Text
no_number w = codes "'" ++ (escaped w ++ codes "' is no number")

abbrev pub no_position : Text → Text
no_position w = codes "'" ++ (escaped w ++ codes "' is no position")

abbrev pub no_allowance : Text → Text
no_allowance w = codes "'" ++ (escaped w ++ codes "' is no allowance")

abbrev pub no_question : Text → Text
no_question w = codes "'" ++ (escaped w ++ codes "' is no question")

abbrev pub no_key : Text
no_key = codes "a key is 'within POSITION' or 'outside'"

abbrev pub no_page : Text
no_page = codes "a page has a name, and then at most two sizes"

abbrev pub no_size : Text → ℕ → Text
no_size w most = codes "'" ++ (escaped w ++ (codes "' is no size up to " ++ decimal most))

-- the text of each
abbrev pub reason_of : Unreadable → Text
reason_of NoText = no_text
reason_of (NoOrder w) = no_order w.now
reason_of (NoShape w) = no_shape w.now
reason_of (Count wanted given) = miscounted wanted given
reason_of NoOver = no_over
reason_of (NoNumber w) = no_number w.now
reason_of (NoPosition w) = no_position w.now
reason_of (NoAllowance w) = no_allowance w.now
reason_of (NoQuestion w) = no_question w.now
reason_of NoKey = no_key
reason_of NoPage = no_page
reason_of (NoSize w most) = no_size w.now most
