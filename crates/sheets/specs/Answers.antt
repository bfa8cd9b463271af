-- How many elements an answer counts. Assumes nothing.
use Rattle.std.specs.Prelude.{ℕ}
use Rattle.sheets.specs.declared.order.Answer.{Answer}
use Rattle.sheets.specs.declared.order.Answer.TheVariants.{Position, Marks, Winding, Top, Box, Elements, Refused}

-- those that were drawn; no other answer counts any
abbrev pub elements_of : Answer → ℕ
elements_of (Position i) = 0
elements_of (Marks n) = 0
elements_of (Winding w) = 0
elements_of (Top i) = 0
elements_of (Box b) = 0
elements_of (Elements n) = n
elements_of (Refused f) = 0
