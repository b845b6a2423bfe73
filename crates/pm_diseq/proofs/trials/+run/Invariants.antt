use Rattle.std.proofs.Common.{length}
use Rattle.pm_diseq.proofs.trials.+run.Given as goal

abbrev pub decreases-run : goal.decreases-run
decreases-run l = length l.steps.now
