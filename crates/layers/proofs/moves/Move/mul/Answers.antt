-- A product with its offset on the page is a move, and products compose.
use Rattle.std.proofs.Common.{T, sym, subst}
use Rattle.std.specs.Bool.{passes}
use Rattle.plane.specs.declared.affine.Affine.{Affine}
use Rattle.layers.specs.Moves.{is_move, page_offset}
use Rattle.layers.specs.Composed.{composes, product_move}
use Rattle.layers.proofs.moves.Move.mul.Goals as goal

pub invariant_of-result : goal.invariant_of-result
invariant_of-result c =
    let n = c.args.self in
    let m = c.args.other in
    let on = subst (λ (a : Affine). T (page_offset a)) c.mul-map.ensures (passes _ (sym c.if-has_page_offset.ensures)) in
    record { lawful = subst (λ (a : Affine). T (is_move a)) (sym c.mul-map.ensures) (product_move n.map m.map n.lawful m.lawful on) }

pub returns-then-has_page_offset-clause-composes : goal.returns-then-has_page_offset-clause-composes
returns-then-has_page_offset-clause-composes c = composes c.args.self.map c.args.other.map c.args.self.lawful c.args.other.lawful

pub returns-else-has_page_offset-clause-composes : goal.returns-else-has_page_offset-clause-composes
returns-else-has_page_offset-clause-composes c = composes c.args.self.map c.args.other.map c.args.self.lawful c.args.other.lawful
