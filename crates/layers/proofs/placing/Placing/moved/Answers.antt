-- The product is by the move that the placing is read as.
use Rattle.std.proofs.Common.{◌≡◌, Err, rules}
use Rattle.layers.specs.declared.fault.MoveFault.TheVariants.{OffPage}
use Rattle.layers.proofs.Onward.{onto_page, off_page}
use Rattle.layers.proofs.placing.Placing.moved.Goals as goal

pub returns-in_err-mul : goal.returns-in_err-mul
returns-in_err-mul g c =
    let h = c.in_err-mul.ensures.denied in
    let e : c.from_residual.result ≡ Err OffPage = search rules in
    off_page c.args.by.map c.place.result.map c.args.self.now c.place.ensures c.from_residual.result e h.1

pub returns : goal.returns
returns g c =
    let h = c.in_ok-mul.ensures.granted in
    onto_page c.args.by.map c.place.result.map c.args.self.now c.place.ensures c.in_ok-mul.field-0.map c.new.result h.0 h.1 c.new.ensures.0 c.new.ensures.1
