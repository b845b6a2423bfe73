use Rattle.pm_calculus.proofs.ListsToTrees.{complete_gives}
use Rattle.pm_calculus.proofs.laws.complete_lists_give_tableaux.Goals as goal

pub returns : goal.returns
returns c = complete_gives
