use Rattle.std.proofs.Common.{rules}
use Rattle.ellipses.specs.Oval.{ellipse_lawful}
use Rattle.ellipses.proofs.ellipse.Ellipse.winding.Goals as goal

pub returns : goal.returns
returns c = record { value = search rules; lawful = ellipse_lawful _ _ }
