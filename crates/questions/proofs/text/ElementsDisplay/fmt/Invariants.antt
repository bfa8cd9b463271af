use Rattle.std.proofs.Common.{◌++◌, codes, take}
use Rattle.std.specs.Fmt.{HasWritten, IsPlainFormatter}
use Rattle.std.specs.List.{flat_map}
use Rattle.questions.specs.Texts.{element_text}
use Rattle.questions.proofs.text.ElementsDisplay.fmt.Given as goal

-- the elements so far are written
abbrev pub invariant-loop-el : goal.invariant-loop-el
invariant-loop-el g l =
    IsPlainFormatter l.initial.f
    → HasWritten g.W.Write.write_str_gives l.initial.f (flat_map (λ e. codes " " ++ element_text e) (take l.el-index l.path)) l.f
