-- What is made of the rectangle with these corners.
use Rattle.rounded.proofs.rounded_rect.RoundedRect.new.Goals as goal

pub returns-clause-grid : goal.returns-clause-grid
returns-clause-grid c = rw c.new.ensures at c.from_rect.ensures.grid
