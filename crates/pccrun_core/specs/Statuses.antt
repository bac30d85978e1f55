-- The exit statuses.
use Rattle.std.specs.Prelude.{ℕ}
use Rattle.pccrun_core.specs.declared.top.Status.{Status}
use Rattle.pccrun_core.specs.declared.top.Status.TheVariants as status

abbrev pub code_of : Status → ℕ
code_of status.Done = 0
code_of status.Flawed = 1
code_of status.Usage = 2
code_of status.Refused = 3
code_of status.ReadFault = 4
code_of status.WriteFault = 5
code_of status.NoMemory = 6
