-- At the end all characters were written.
use Rattle.std.proofs.Common.{flat_map, sym, ap, subst, ◌∙◌, map-id}
use Rattle.std.specs.Fmt.{HasWritten}
use Rattle.std.proofs.lemmas.Iterator.{YieldsList-from_chars}
use Rattle.std.proofs.lemmas.Iterator.Consumers.{YieldsList-end}
use Rattle.orders.specs.Escapes.{escape, escaped}
use Rattle.orders.proofs.escaped.write_escaped.Goals as goal

pub returns : goal.returns
unfolding escaped
returns g c = λ plain ok.
    let end = YieldsList-end (YieldsList-from_chars c.args.text.now c.utf8.text cc) c.loop-c.yielded _ c.loop-c.yielded_by _ _ c.in-None.is c.next.ensures.steps in
    subst (λ bs. HasWritten g.W.Write.write_str_gives c.args.f.now bs c.loop-c.f) (ap (flat_map escape) (sym (map-id c.loop-c.yielded) ∙ end.0)) (c.loop-c.invariant plain)
