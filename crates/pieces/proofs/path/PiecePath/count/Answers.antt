-- Each element adds one, up to the limit of the count.
use Rattle.std.proofs.Common.{◌≡◌, min, length, rules, arith, refl}
use Rattle.std.proofs.lemmas.Fn.{fold_over}
use Rattle.std.proofs.lemmas.List.{length_push}
use Rattle.std.proofs.lemmas.Iterator.Consumers.{YieldsList-from_first}
use Rattle.std.specs.Iterator.{YieldsFirst}
use Rattle.pieces.specs.Traced.{rest}
use Rattle.pieces.proofs.path.PiecePath.count.Goals as goal

pub returns : goal.returns
returns c =
    fold_over (YieldsFirst rest) (λ el. el) _ (λ els n. n ≡ min (length els) 18446744073709551615) _
    (λ els n el m f k r. let more = length_push els el in search rules)
    c.args.self (rest c.args.self) 0 c.fold.result (YieldsList-from_first (λ el. el) rest {s = c.args.self} (rest c.args.self) refl).runs (omega arith) c.fold.ensures.ran
