use Rattle.pm_calculus.proofs.Prefixes.{choice_below_width}
use Rattle.pm_calculus.proofs.laws.choices_are_below_widths.Goals as goal

pub returns : goal.returns
returns c = choice_below_width
