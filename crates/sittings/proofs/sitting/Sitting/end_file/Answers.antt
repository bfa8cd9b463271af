-- The end of a file is one input more. Assumes nothing.
use Rattle.sittings.specs.Courses.{course, file_end}
use Rattle.std.proofs.Common.{ap}
use Rattle.sittings.specs.declared.progress.Progress.{Progress}
use Rattle.sittings.proofs.Moments.{pushed}
use Rattle.sittings.proofs.sitting.Sitting.end_file.Goals as goal

pub returns-clause-history : goal.returns-clause-history
returns-clause-history g c past K =
    let E = c.in_ok-end_page.ensures.kept (course past) K in
    pushed past file_end _ (record { progress = ap (λ (p : Progress). record p { lines = 0 }) E.progress; name = E.name; page = E.page })
