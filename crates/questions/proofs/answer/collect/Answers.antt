-- What is collected is what the cursor means.
use Rattle.std.proofs.lemmas.Iterator.{items_from_collect}
use Rattle.plane.specs.Cursors.{whole_path}
use Rattle.questions.proofs.answer.collect.Goals as goal

pub returns : goal.returns
returns g c = items_from_collect _ c.collect.ensures.ran (whole_path g.C.Iterator.next_gives g.C.Cursor.rest g.met.C.Cursor.steps c.args.cursor)
