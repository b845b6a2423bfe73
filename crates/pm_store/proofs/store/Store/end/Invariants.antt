use Rattle.std.proofs.Common.{◌≡◌, ◌<◌, length}
use Rattle.pm_store.specs.Equations.{end_of}
use Rattle.pm_store.proofs.BindingLemmas.{steps}
use Rattle.pm_store.proofs.store.Store.end.Given as goal

abbrev pub invariant-loop-target : goal.invariant-loop-target
invariant-loop-target l = record {
  within : l.at < length l.self.cells;
  same_end : end_of l.self.bindings l.at ≡ end_of l.self.bindings l.fn.a;
}

abbrev pub decreases-loop-target : goal.decreases-loop-target
decreases-loop-target l = steps l.self.bindings l.at
