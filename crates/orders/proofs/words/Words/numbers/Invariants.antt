-- The numbers that were read, and those still to be read, are all of the run's next ones.
use Rattle.std.proofs.Common.{◌≡◌, ◌-◌, length, take}
use Rattle.orders.specs.Runs.{numbers}
use Rattle.orders.specs.Views.{left_of}
use Rattle.orders.proofs.Loop.{with_front}
use Rattle.orders.proofs.words.Words.numbers.Given as goal

abbrev pub invariant-loop-value : goal.invariant-loop-value
invariant-loop-value g l = record {
  long : length l.value-items ≡ l.value-index-end;
  read : with_front (take l.value-index l.value-items) (numbers (l.value-index-end - l.value-index) (left_of l.self)) ≡ numbers l.value-index-end (left_of l.fn.self);
}
