-- A text with its control characters written as escapes. Assumes nothing.
use Rattle.std.specs.Prelude.{ℕ, false, ◌++◌, ◌==◌, if◌then◌else◌, codes, chars, encode_utf8}
use Rattle.std.specs.Char.{is_control}
use Rattle.std.specs.Fmt.{digits}
use Rattle.std.specs.List.{flat_map}
use Rattle.orders.specs.Words.{Text}

-- a tab as \t, another control character by its number in hexadecimal digits, and any other character as it is
abbrev pub escape : ℕ → Text
escape c =
    if c == 9 then codes "\\t"
    else (if is_control c then codes "\\u{" ++ (digits 16 false c ++ codes "}")
    else encode_utf8 c)

unfoldable pub escaped : Text → Text
escaped t = flat_map escape (chars t)
