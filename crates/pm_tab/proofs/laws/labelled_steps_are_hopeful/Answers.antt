use Rattle.pm_tab.proofs.Hopeless.{labelled_hopeful}
use Rattle.pm_tab.proofs.laws.labelled_steps_are_hopeful.Goals as goal

pub returns : goal.returns
returns c = λ problem m step tableau valid is may labelling. labelled_hopeful problem m valid is step may tableau labelling
