use Rattle.pm_calculus.proofs.TreesToLists.{tableau_follows}
use Rattle.pm_calculus.proofs.laws.tableaux_follow_complete_lists.Goals as goal

pub returns : goal.returns
returns c = tableau_follows
