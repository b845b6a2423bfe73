use Rattle.pm_run.proofs.WorkedExamples.{extension_example}
use Rattle.pm_run.proofs.examples.extension_example.Goals as goal

pub returns : goal.returns
returns c = extension_example
