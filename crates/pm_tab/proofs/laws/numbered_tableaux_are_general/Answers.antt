use Rattle.pm_tab.proofs.Numbered.{numbered_general}
use Rattle.pm_tab.proofs.laws.numbered_tableaux_are_general.Goals as goal

pub returns : goal.returns
returns c = λ level choices m root below has state. numbered_general level choices m root below has.always has.built state
