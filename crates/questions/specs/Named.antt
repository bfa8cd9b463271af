-- No two kinds, and no two of what is asked, have one name; and a kind's place is below six. Assumes nothing.
use Rattle.std.proofs.Common.{◌<◌, refl, lit<}
use Rattle.cases.specs.Names.{NamesEach}
use Rattle.cases.proofs.Searches.{names_each}
use Rattle.questions.specs.declared.question.Kind.{Kind}
use Rattle.questions.specs.declared.question.Kind.TheVariants as Kinds
use Rattle.questions.specs.declared.question.What.TheVariants as Whats
use Rattle.questions.specs.Names.{name_of, word_of, all_kinds, all_whats, place_of}

pub kinds_named : NamesEach name_of all_kinds
kinds_named = names_each name_of all_kinds
    (elim [ Kinds.Rect ↦ refl | Kinds.Circle ↦ refl | Kinds.Triangle ↦ refl | Kinds.Rounded ↦ refl | Kinds.Ellipse ↦ refl | Kinds.Affine ↦ refl ])

pub whats_named : NamesEach word_of all_whats
whats_named = names_each word_of all_whats
    (elim [
      | Whats.Area ↦ refl
      | Whats.Perimeter ↦ refl
      | Whats.Box ↦ refl
      | Whats.Winding ↦ refl
      | Whats.Contains ↦ refl
      | Whats.Path ↦ refl
      | Whats.Radii ↦ refl
      | Whats.New ↦ refl
      | Whats.Point ↦ refl
      | Whats.Mul ↦ refl
      | Whats.Inverse ↦ refl
      | Whats.Determinant ↦ refl
      | Whats.Bbox ↦ refl
    ])

pub kinds_placed : (k : Kind) → place_of k < 6
kinds_placed Kinds.Rect = lit< tt
kinds_placed Kinds.Circle = lit< tt
kinds_placed Kinds.Triangle = lit< tt
kinds_placed Kinds.Rounded = lit< tt
kinds_placed Kinds.Ellipse = lit< tt
kinds_placed Kinds.Affine = lit< tt
