use Rattle.pm_book.proofs.Fronts as lemmas
use Rattle.pm_book.proofs.laws.fronts_stop.Goals as goal

pub returns : goal.returns
returns c = lemmas.fronts_stop
