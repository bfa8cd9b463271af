-- A file that cannot be opened leaves the sitting as it is. Assumes nothing.
use Rattle.std.proofs.Common.{[]}
use Rattle.sittings.proofs.Taken.{none_opened}
use Rattle.sittings.proofs.files.take_file.Goals as goal

pub returns-in_ok-tell-in-Err : goal.returns-in_ok-tell-in-Err
returns-in_ok-tell-in-Err g c past h = ([], none_opened past 1 c.args.sitting.now _ _ h c.in_ok-tell-in-Err.ensures)
