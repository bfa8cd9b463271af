-- How far a sitting has come. Assumes nothing.
use Rattle.std.specs.Prelude.{false}
use Rattle.sittings.specs.declared.progress.Progress.{Progress}
use Rattle.sittings.specs.declared.progress.Standing.TheVariants.{NoPage}
use Rattle.sittings.specs.Tallies.{none_yet, joined}

abbrev pub start : Progress
start = record { lines = 0; standing = NoPage; in_doubt = false; page = none_yet; total = none_yet }

-- the page is over, if there was one
abbrev pub over : Progress → Progress
over p = record { lines = p.lines; standing = NoPage; in_doubt = false; page = none_yet; total = joined p.total p.page }
