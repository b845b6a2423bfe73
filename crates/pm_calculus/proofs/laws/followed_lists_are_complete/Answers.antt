use Rattle.pm_calculus.proofs.Levels.{followed_complete}
use Rattle.pm_calculus.proofs.laws.followed_lists_are_complete.Goals as goal

pub returns : goal.returns
returns c = followed_complete
