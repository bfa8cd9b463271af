-- A placing moved on is placed by the product, where the page has room for it. Assumes nothing.
use Rattle.std.proofs.Common.{◌≡◌, Bool, true, false, cond, T, Ok, Err, Result, refl, ap, ◌∙◌}
use Rattle.plane.specs.declared.affine.Affine.{Affine}
use Rattle.plane.specs.Affines.{product}
use Rattle.layers.specs.declared.fault.MoveFault.{MoveFault}
use Rattle.layers.specs.declared.fault.MoveFault.TheVariants.{OffPage}
use Rattle.layers.specs.declared.placing.Placing.{Placing}
use Rattle.layers.specs.Moves.{read_as, page_offset}
use Rattle.layers.specs.Onward.{placed_by, moved_on}

taken : {A : Type 0} (b : Bool) (x y : A) → T b → x ≡ cond b x y
taken true x y h = refl
taken false x y h = absurd h

left : {A : Type 0} (b : Bool) (x y : A) → (T b → ⊥) → y ≡ cond b x y
left true x y h = absurd (h tt)
left false x y h = refl

module _ {S : Type 0} (by old : Affine) (s : Placing S) (was : old ≡ read_as s.numbers) where
  pub onto_page : (m : Affine) (r : Placing S) → m ≡ product by old → T (page_offset (product by old)) → r.numbers ≡ m → r.below ≡ s.below → Ok r ≡ moved_on by s
  onto_page m r e h n b =
      let made : ◌≡◌ {A = Result (Placing S) MoveFault} (Ok r) (Ok (record { numbers = product by old; below = s.below })) = λ i. Ok (record { numbers = (n ∙ e) i; below = b i }) in
      made ∙ taken (page_offset (product by old)) _ _ h ∙ ap (λ (o : Affine). placed_by (product by o) s.below) was

  pub off_page : (r : Result (Placing S) MoveFault) → r ≡ Err OffPage → (T (page_offset (product by old)) → ⊥) → r ≡ moved_on by s
  off_page r e h = e ∙ left (page_offset (product by old)) _ _ h ∙ ap (λ (o : Affine). placed_by (product by o) s.below) was
