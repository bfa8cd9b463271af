-- Each entry of the table passes the test.
use Rattle.std.proofs.Common.{◌-◌, ◌<◌, arith, rules}
use Rattle.elementary.proofs.RootGuesses.{guess_at}
use Rattle.elementary.proofs.sqrt.first_root.Goals as goal

pub returns : goal.returns
returns c = let l : c.args.high - 32 < 96 = omega arith in search (rules, guess_at)
