use Rattle.pm_choice.proofs.EntryLemmas.{closed_list}
use Rattle.pm_choice.proofs.laws.closed_list_is_counted.Goals as goal

pub returns : goal.returns
returns c = closed_list
