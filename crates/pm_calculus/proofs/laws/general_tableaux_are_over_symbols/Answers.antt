use Rattle.pm_calculus.proofs.OverSymbols.{general_over_symbols}
use Rattle.pm_calculus.proofs.laws.general_tableaux_are_over_symbols.Goals as goal

pub returns : goal.returns
returns c = general_over_symbols
