use Rattle.pm_tab.proofs.Generals.{regularity_is_general}
use Rattle.pm_tab.proofs.laws.regularity_is_general.Goals as goal

pub returns : goal.returns
returns c = regularity_is_general
