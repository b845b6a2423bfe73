use Rattle.pm_store.proofs.SolutionLemmas.{later_solutions}
use Rattle.pm_store.proofs.laws.later_solutions_solve.Goals as goal

pub returns : goal.returns
returns c = later_solutions
