use Rattle.pm_cnf.proofs.meaning.Determined.{problem_is_determined}
use Rattle.pm_cnf.proofs.laws.problem_is_determined.Goals as goal

pub returns : goal.returns
returns c = problem_is_determined
