use Rattle.pm_run.proofs.UniteLemmas.{IsUniting}
use Rattle.pm_run.proofs.uniting.unite_each.Given as goal

abbrev pub invariant-pairs : goal.invariant-pairs
invariant-pairs l = IsUniting l.fn.store l.left l.right l.i l.store
