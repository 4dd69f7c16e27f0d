-- The exit codes.
use Rattle.std.specs.Prelude.{ℕ}
use Rattle.sfm_due.specs.declared.status.Status.{Status}
use Rattle.sfm_due.specs.declared.status.Status.TheVariants.{Done, Invalid, Refused, ReadFault, WriteFault, Memory, Usage}

abbrev pub code_of : Status → ℕ
code_of Done = 0
code_of Invalid = 1
code_of Refused = 2
code_of ReadFault = 3
code_of WriteFault = 4
code_of Memory = 5
code_of Usage = 64
