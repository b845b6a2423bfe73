use Rattle.pm_tab.proofs.Generals.{general_tableaux_label}
use Rattle.pm_tab.proofs.laws.general_tableaux_label.Goals as goal

pub returns : goal.returns
returns c = general_tableaux_label
