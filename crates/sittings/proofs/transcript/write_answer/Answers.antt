-- The pieces, one behind the other. Assumes nothing.
use Rattle.std.proofs.Common.{◌++◌, codes, decimal, append_assoc}
use Rattle.std.proofs.KnownBytes.{Appends-trans}
use Rattle.std.proofs.lemmas.Result.{on_ok_weaker}
use Rattle.orders.specs.Escapes.{escaped}
use Rattle.sittings.proofs.transcript.write_answer.Goals as goal

pub returns : goal.returns
returns g c =
    let head = decimal c.args.number ++ (codes " " ++ (escaped c.args.order.now ++ codes " -> ")) in
    let reply = c.in_ok-write_reply.ensures in
    let line = Appends-trans _ _ _ (head ++ reply.0) (codes "\n") (Appends-trans _ _ _ head reply.0 c.in_ok-write.ensures.bytes reply.2) c.in_ok-write_all.ensures.bytes in
    on_ok_weaker c.write_elements.result (λ els. (
      ((head ++ reply.0) ++ codes "\n") ++ els.0,
      (reply.0, els.0, reply.1, els.1, simp append_assoc),
      Appends-trans _ _ _ ((head ++ reply.0) ++ codes "\n") els.0 line els.2,
    )) c.write_elements.ensures
