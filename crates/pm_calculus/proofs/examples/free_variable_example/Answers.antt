use Rattle.pm_calculus.proofs.WorkedExamples.{free_variable}
use Rattle.pm_calculus.proofs.examples.free_variable_example.Goals as goal

pub returns : goal.returns
returns c = free_variable
