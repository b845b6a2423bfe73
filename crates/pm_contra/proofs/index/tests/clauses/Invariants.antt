use Rattle.std.proofs.Common.{◌≡◌, length}
use Rattle.std.specs.List.{All}
use Rattle.pm_contra.specs.Inside.Example.{IsExampleClause}
use Rattle.pm_contra.proofs.index.tests.clauses.Given as goal

abbrev pub invariant-lists : goal.invariant-lists
invariant-lists g l =
    All (IsExampleClause (length l.terms)) l.all.items × (length l.all.items ≡ l.literals-index)
