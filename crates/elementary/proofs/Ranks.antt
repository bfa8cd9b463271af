-- The least sixteenth whose sixth power is enough is one number, and keeps the order. Assumes nothing.
use Rattle.std.proofs.Common.{ℕ, ◌*◌, ◌^◌, ◌<◌, ◌≤◌, inl, inr, mul-le-mul_right, le_antisymm, mul-lt-mul_of_pos_right, arith, lit≤}
use Rattle.floats.proofs.Rounded.{order}
use Rattle.elementary.specs.SixthRoots.{LeastSixth}
use Rattle.elementary.specs.Laws.{SixthRoots}
use Rattle.elementary.proofs.Sixths.{sixth_mono}

keeps_order : (n c m d j k : ℕ) → n * d ≤ m * c → LeastSixth n c j → LeastSixth m d k → 0 < c → 0 < d → j ≤ k
keeps_order n c m d j k h p q C D = elim (order k j) [
  | inl l ↦
      absurd (omega (arith, mul-lt-mul_of_pos_right (p.least k q.from_one l) D, mul-le-mul_right c q.enough, h))
  | inr o ↦ elim o [ inl e ↦ omega arith | inr l ↦ omega arith ]
]

at_64 : (j : ℕ) → j < 64 → j ^ 6 * 1 < 4096 * 2 ^ 24
at_64 j h = let g : j ≤ 63 = omega arith in omega (arith, sixth_mono j 63 g)

at_65 : (j : ℕ) → j < 65 → j ^ 6 * 1 < 4097 * 2 ^ 24
at_65 j h = let g : j ≤ 64 = omega arith in omega (arith, sixth_mono j 64 g)

pub sixth_roots : SixthRoots
sixth_roots = record {
  keeps_order = keeps_order;
  unique = λ n c j k C p q. le_antisymm (keeps_order n c n c j k (omega arith) p q C C) (keeps_order n c n c k j (omega arith) q p C C);
  of_4096 = record { from_one = lit≤ tt; to_most = lit≤ tt; enough = lit≤ tt; least = λ j o h. at_64 j h };
  of_4097 = record { from_one = lit≤ tt; to_most = lit≤ tt; enough = lit≤ tt; least = λ j o h. at_65 j h };
}
