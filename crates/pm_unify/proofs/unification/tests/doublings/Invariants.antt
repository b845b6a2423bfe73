use Rattle.std.proofs.Common.{◌<◌, length}
use Rattle.std.specs.Prelude.{All}
use Rattle.pm_unify.proofs.unification.tests.doublings.Given as goal

abbrev pub invariant-doublings : goal.invariant-doublings
invariant-doublings l = record {
  variables : All (λ a. a < length l.store.cells) l.variables.items;
  doubles : All (λ a. a < length l.store.cells) l.doubles.items;
  last : l.last < length l.store.cells;
}
