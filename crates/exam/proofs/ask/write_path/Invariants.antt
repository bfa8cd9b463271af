-- What is written so far, and what is left of the path, make the whole; the places beyond are as they were.
use Rattle.std.proofs.Common.{◌≡◌, ◌+◌, ◌++◌, length, take, drop}
use Rattle.pieces.specs.Traced.{rest}
use Rattle.exam.proofs.ask.write_path.Given as goal

abbrev pub invariant-loop-el : goal.invariant-loop-el
invariant-loop-el l = record {
  open_end : goal.iterator-loop-el.can_next l.el-iterator × goal.iterator-loop-el.is_finite l.el-iterator;
  count : l.count + length (rest l.el-iterator) ≡ length (rest l.fn.path);
  front : take l.count l.buffer ++ rest l.el-iterator ≡ rest l.fn.path;
  back : drop l.count l.buffer ≡ drop l.count l.initial.buffer;
}
