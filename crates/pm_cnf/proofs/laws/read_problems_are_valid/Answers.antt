use Rattle.pm_cnf.proofs.meaning.ReadValid.{read_valid}
use Rattle.pm_cnf.proofs.laws.read_problems_are_valid.Goals as goal

pub returns : goal.returns
returns c = read_valid
