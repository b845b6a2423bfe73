use Rattle.std.proofs.Common.{◌≡◌, length}
use Rattle.std.specs.List.{All}
use Rattle.pm_contra.specs.Inside.Example.{IsExampleLiteral}
use Rattle.pm_contra.proofs.index.tests.clause.Given as goal

abbrev pub invariant-literals : goal.invariant-literals
invariant-literals g l =
    All (IsExampleLiteral (length l.terms)) l.all.items × (length l.all.items ≡ l.positive-index)
