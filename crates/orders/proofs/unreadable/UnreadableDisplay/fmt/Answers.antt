-- Each arm writes the reason of its variant.
use Rattle.std.proofs.Common.{◌≡◌, false}
use Rattle.std.specs.Prelude.{◌==◌}
use Rattle.std.proofs.lemmas.Bool.{ne_eqb}
use Rattle.orders.proofs.unreadable.UnreadableDisplay.fmt.Goals as goal

pub returns-in-Count-clause-writes : goal.returns-in-Count-clause-writes
returns-in-Count-clause-writes g c =
    let other = rw c.in-Count.is at c.in-Count.wanted-test in
    let more : (c.in-Count.wanted == 1) ≡ false = ne_eqb c.in-Count.wanted 1 other.1 in
    rw (c.in-Count.is, more) c.write-in-Count.ensures.writes

pub returns-in-NoNumber-clause-writes : goal.returns-in-NoNumber-clause-writes
returns-in-NoNumber-clause-writes g c = rw c.in-NoNumber.is c.write-in-NoNumber.ensures.writes

pub returns-in-NoSize-clause-writes : goal.returns-in-NoSize-clause-writes
returns-in-NoSize-clause-writes g c = rw c.in-NoSize.is c.write-in-NoSize.ensures.writes
