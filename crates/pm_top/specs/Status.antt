-- The exit status and the line on standard error of each end of a run.
use Rattle.std.specs.Prelude.{ℕ, List, [], codes}
use Rattle.pm_top.specs.declared.status.Status.{Status}
use Rattle.pm_top.specs.declared.status.Status.TheVariants.{Done, DepthReached, Budget, BadInput, CertRefused, BadWords, Missing, ReadFault, WriteFault, NoMemory}

abbrev pub code_of : Status → ℕ
code_of Done = 0
code_of DepthReached = 10
code_of Budget = 11
code_of BadInput = 20
code_of CertRefused = 21
code_of BadWords = 22
code_of Missing = 30
code_of ReadFault = 31
code_of WriteFault = 32
code_of NoMemory = 33

abbrev pub line_of : Status → List ℕ
line_of Missing = codes "parmel: missing file"
line_of ReadFault = codes "parmel: read fault"
line_of WriteFault = codes "parmel: write fault"
line_of NoMemory = codes "parmel: out of memory"
line_of status = []
