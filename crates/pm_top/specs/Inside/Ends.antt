-- How a run ends when its words are answered.
use Rattle.std.specs.Prelude.{Result, IfSome, IsErrOf}
use Rattle.pm_outside.specs.Outside.{LibraryView}
use Rattle.pm_args.specs.Words.{Text}
use Rattle.pm_args.specs.Jobs.{job_of}
use Rattle.std.specs.Prelude.{List}
use Rattle.pm_top.specs.declared.answer.Answer.{Answer}
use Rattle.pm_top.specs.declared.answer.Stop.{Stop}
use Rattle.pm_top.specs.declared.answer.Stop.TheVariants.{ReadFault}
use Rattle.pm_top.specs.declared.status.Status.{Status}
use Rattle.pm_top.specs.Run.{SinkView, IsRun}
use Rattle.pm_top.specs.Inside.Stops.{CountsStops, IsAnswered, answered}

-- It ends with this status, whatever words and library the answer is for.
abbrev pub EndsAs : Result Answer Stop → SinkView → SinkView → Status → Type 0
EndsAs outcome old new status =
    (words : List Text) (before after : LibraryView)
    → IfSome (answered outcome) (IsAnswered (job_of words) before.told (before.longs, after.longs))
    → CountsStops before after (answered outcome) (IsErrOf outcome ReadFault)
    → IsRun words before after old new status
