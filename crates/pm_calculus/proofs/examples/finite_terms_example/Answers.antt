use Rattle.pm_calculus.proofs.WorkedExamples.{finite_terms}
use Rattle.pm_calculus.proofs.examples.finite_terms_example.Goals as goal

pub returns : goal.returns
returns c = finite_terms
