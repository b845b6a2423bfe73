use Rattle.pm_calculus.proofs.TreesToLists.{lists_and_tableaux}
use Rattle.pm_calculus.proofs.laws.lists_and_tableaux_agree.Goals as goal

pub returns : goal.returns
returns c = lists_and_tableaux
