use Rattle.pm_calculus.proofs.Refutation.{refuted}
use Rattle.pm_calculus.proofs.laws.closed_tableaux_are_refuted.Goals as goal

pub returns : goal.returns
returns c = refuted
