use Rattle.pm_calculus.proofs.WorkedExamples.{closed_branch}
use Rattle.pm_calculus.proofs.examples.closed_branch_example.Goals as goal

pub returns : goal.returns
returns c = closed_branch
