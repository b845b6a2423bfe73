use Rattle.pm_deepen.proofs.Determined.{answer_determined}
use Rattle.pm_deepen.proofs.answer_is_determined.Goals as goal

pub returns : goal.returns
returns c = answer_determined
