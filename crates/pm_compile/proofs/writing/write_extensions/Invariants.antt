use Rattle.std.proofs.Common.{◌≡◌, ◌++◌, Some, slice_get, take}
use Rattle.pm_logic.specs.Problem.{Clause}
use Rattle.pm_compile.specs.Listing.{extensions_listing}
use Rattle.pm_compile.proofs.writing.write_extensions.Given as goal

-- the extensions so far are listed
abbrev pub invariant-literals : goal.invariant-literals
invariant-literals l =
    (clause : Clause) → slice_get l.problem.clauses l.c ≡ Some clause
    → l.into.items ≡ l.fn.into.items ++ extensions_listing l.problem.symbols l.c 0 (take l.j clause.literals)
