-- Counts of cases. Assumes nothing.
use Rattle.std.specs.Prelude.{ℕ, ◌+◌, ◌-◌, ◌^◌, min, Bool, true, false, ◌==◌}
use Rattle.cases.specs.declared.tally.Tally.{Tally}

abbrev pub none_yet : Tally
none_yet = record { agree = 0; differ = 0 }

-- no case differs
abbrev pub all_agree : Tally → Bool
all_agree t = t.differ == 0

-- as long as it fits
abbrev pub at_most : ℕ → ℕ
at_most n = min n (2 ^ 64 - 1)

-- one more that agrees, or that differs
abbrev pub counted : Tally → Bool → Tally
counted t true = record { agree = at_most (t.agree + 1); differ = t.differ }
counted t false = record { agree = t.agree; differ = at_most (t.differ + 1) }
