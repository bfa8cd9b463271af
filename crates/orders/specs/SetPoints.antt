-- How a set point and its key are read from left to right, up to the first fault, of which it is said what is wrong. Assumes nothing.
use Rattle.std.specs.Prelude.{ℕ, if◌then◌else◌, Option, Some, None, Result, Ok, Err}
use Rattle.orders.specs.declared.order.SetPoint.{SetPoint}
use Rattle.orders.specs.Words.{Text}
use Rattle.orders.specs.Reasons.{no_key}
use Rattle.orders.specs.Kinds.{is}
use Rattle.orders.specs.Runs.{◌>>=◌, Left, word, after, no_word, two, position_of}

-- the position after `within`
unfoldable pub within : Left → Result (ℕ × Left) Text
within s = if is (word s) "" then Err no_key else (position_of (word s) >>= λ n. Ok (n, after s))

-- `within` and a position, or `outside`
unfoldable pub key : Left → Result (Option ℕ × Left) Text
key s =
    if is (word s) "within" then (within (after s) >>= λ n. Ok (Some n.0, n.1))
    else (if is (word s) "outside" then Ok (None, after s) else Err no_key)

-- a point, and its key
unfoldable pub set_point : Left → Result SetPoint Text
set_point s = do
  p ← two s
  k ← key p.1
  _ ← no_word (word k.1) no_key
  Ok (record { at = p.0; key = k.0 })
