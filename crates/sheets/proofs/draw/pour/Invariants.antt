-- What is written so far, and what is left of the path, make the whole; the places beyond are as they were.
use Rattle.std.proofs.Common.{◌≡◌, ◌+◌, ◌++◌, map, length, take, drop}
use Rattle.plane.specs.Affines.{image_el}
use Rattle.sheets.proofs.draw.pour.Given as goal

abbrev pub invariant-loop-el : goal.invariant-loop-el
invariant-loop-el g l =
    let rest = g.C.Cursor.rest in
    record {
      open_end : (goal.iterator-loop-el g).can_next l.el-iterator × (goal.iterator-loop-el g).is_finite l.el-iterator;
      count : l.k + length (rest l.el-iterator) ≡ l.at + length (rest l.fn.path);
      front : take l.k l.buffer ++ map (image_el l.place) (rest l.el-iterator) ≡ take l.at l.initial.buffer ++ map (image_el l.place) (rest l.fn.path);
      back : drop l.k l.buffer ≡ drop l.k l.initial.buffer;
    }
