-- Every entry stands for a row with one move.
use Rattle.sheets.specs.Tables.{used}
use Rattle.sheets.proofs.Agree.{all_stand_self}
use Rattle.sheets.proofs.sheet.Sheet.count.Goals as goal

pub returns-clause-stands : goal.returns-clause-stands
returns-clause-stands g c = all_stand_self (used c.args.self.now c.args.table.now)
