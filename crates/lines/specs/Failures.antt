-- What failed. Assumes nothing.
use Rattle.std.specs.Prelude.{◌≡◌}
use Rattle.std.specs.IoError.{error_kind}
use Rattle.std.specs.declared.io.ErrorKind.TheVariants.{OutOfMemory}
use Rattle.lines.specs.declared.failure.Failure.{Failure}
use Rattle.lines.specs.declared.failure.Failure.TheVariants.{Input, Output}

-- there is no memory for the line
abbrev pub LacksMemory : Failure → Type 0
LacksMemory (Input e) = error_kind e ≡ OutOfMemory
LacksMemory (Output e) = ⊥
