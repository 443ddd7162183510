-- The numbers of statuses.
use Rattle.std.specs.Prelude.{ℕ}
use Rattle.eleos_base.specs.declared.status.Status.{Status}
use Rattle.eleos_base.specs.declared.status.Status.TheVariants.{Done, NotLegal, Usage, Refused, ReadFault, WriteFault, Memory}

-- the number with which the program ends
abbrev pub code_of : Status → ℕ
code_of Done = 0
code_of NotLegal = 1
code_of Usage = 2
code_of Refused = 3
code_of ReadFault = 4
code_of WriteFault = 5
code_of Memory = 6
