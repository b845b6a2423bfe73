-- What the lines that are left come to.
use Rattle.pm_logic.specs.Problem.{Problem}
use Rattle.pm_certread.specs.declared.error.CertError.{CertError}
use Rattle.pm_certread.specs.declared.error.CertError.TheVariants.{At, Memory}
use Rattle.pm_certread.specs.declared.lines.Lines.{Lines}
use Rattle.pm_certread.specs.Lines.{cut_lines}
use Rattle.pm_certread.specs.Reading.{Stage, Outcome, refused, ReadsFrom}

abbrev pub Comes : Problem → Stage → Lines → Outcome → Type 0
Comes over stage lines outcome =
    ReadsFrom over stage lines.taken (cut_lines lines.rest.now) outcome

-- the lines come to what those that are left come to
abbrev pub Continues : Problem → Stage → Lines → Stage → Lines → Type 0
Continues over stage old next new =
    (outcome : Outcome) → Comes over next new outcome → Comes over stage old outcome

-- the lines are refused with this error
abbrev pub RefusesFrom : Problem → Stage → Lines → CertError → Type 0
RefusesFrom over stage lines (At line kind) = Comes over stage lines (refused line kind)
RefusesFrom over stage lines Memory = Unit {0}
