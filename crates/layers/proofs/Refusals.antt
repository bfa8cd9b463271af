-- Which numbers make a move: those that nothing refuses. Assumes nothing.
use Rattle.std.proofs.Common.{◌≡◌, Bool, true, false, cond, ◌&&◌, Some, None, Option, Ok, Err, Result, IfOk, IfErr, MatchResult, sym, refl, ap, ◌∙◌}
use Rattle.plane.specs.declared.affine.Affine.{Affine}
use Rattle.layers.specs.declared.fault.MoveFault.{MoveFault}
use Rattle.layers.specs.declared.fault.MoveFault.TheVariants.{NotATurn, OffGrid, OffPage}
use Rattle.layers.specs.declared.moves.Move.{Move}
use Rattle.layers.specs.Moves.{is_turn, grid_offset, page_offset, is_move, refusal, unmoved, read_as}

abbrev why : Bool → Bool → Bool → Option MoveFault
why t g p = cond t (cond g (cond p None (Some OffPage)) (Some OffGrid)) (Some NotATurn)

granted : (t g p : Bool) → why t g p ≡ None → t && (g && p) ≡ true
granted true true true e = refl
granted true true false e = cc
granted true false p e = cc
granted false g p e = cc

denied : (t g p : Bool) (f : MoveFault) → why t g p ≡ Some f → t && (g && p) ≡ false
denied true true true f e = cc
denied true true false f e = refl
denied true false p f e = refl
denied false g p f e = refl

pub move_granted : (m : Affine) → refusal m ≡ None → is_move m ≡ true
move_granted m = granted (is_turn m) (grid_offset m) (page_offset m)

pub move_denied : (m : Affine) (f : MoveFault) → refusal m ≡ Some f → is_move m ≡ false
move_denied m = denied (is_turn m) (grid_offset m) (page_offset m)

pub read_granted : (m : Affine) → refusal m ≡ None → read_as m ≡ m
read_granted m e = ap (λ (b : Bool). cond b m unmoved) (move_granted m e)

pub read_refused : (m : Affine) (f : MoveFault) → refusal m ≡ Some f → read_as m ≡ unmoved
read_refused m f e = ap (λ (b : Bool). cond b m unmoved) (move_denied m f e)

-- what is granted is read as it stands, and what is refused as unmoved
pub read_by : (m : Affine) (r : Result Move MoveFault) (n : Move) → IfOk r (λ k. (k.map ≡ m) × (refusal m ≡ None)) → IfErr r (λ f. refusal m ≡ Some f)
    → MatchResult r (λ k. n ≡ k) (λ f. n.map ≡ unmoved) → n.map ≡ read_as m
read_by m (Ok k) n g d h = ap (λ (l : Move). l.map) h ∙ g.0 ∙ sym (read_granted m g.1)
read_by m (Err f) n g d h = h ∙ sym (read_refused m f d)
