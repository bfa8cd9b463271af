-- The text of a number. Assumes nothing.
use Rattle.std.specs.Prelude.{◌≡◌, ◌≢◌, ℕ, List, ◌++◌, codes, Some, ◌⊎◌, Float}
use Rattle.std.specs.Float.{binary64}
use Rattle.std.specs.Float.Ieee.{nan, inf, fin}
use Rattle.std.specs.Fmt.{sign_text}
use Rattle.ryu.specs.Parse.{parse_float}
use Rattle.ryu.specs.Plain.{IsLaidOutNumber}

-- a text, by its bytes
abbrev pub Text : Type 0
Text = List ℕ

-- Perhaps a minus, then digits with no needless 0 in front, and a point only before a fraction, which ends in no 0.
-- An exponent stands just where more than 16 digits would stand before the point, or more than four zeros
-- right behind `0.`, and then one digit stands before the point.
pub record InDigits (text : Text) : Type 0 where
  -- as it is, or with `.0` behind it
  pub layout : IsLaidOutNumber 16 4 text ⊎ IsLaidOutNumber 16 4 (text ++ codes ".0")
  -- it does not end in `.0`
  pub bare : (front : Text) → text ≢ front ++ codes ".0"

-- A finite number is in digits, and any other has its word.
abbrev pub HasLook : Float → Text → Type 0
HasLook nan text = text ≡ codes "nan"
HasLook (inf negative) text = text ≡ sign_text negative ++ codes "inf"
HasLook (fin negative m e) text = InDigits text

-- The text reads back as that very number, a zero with its sign.
abbrev pub IsNumeral : Float → Text → Type 0
IsNumeral x text = (parse_float binary64 text ≡ Some x) × HasLook x text
