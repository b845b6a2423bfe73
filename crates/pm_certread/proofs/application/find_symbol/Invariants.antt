use Rattle.std.proofs.Common.{◌≡◌, ◌<◌, ◌≤◌, ℕ, Some}
use Rattle.std.specs.Prelude.{slice_get}
use Rattle.pm_logic.specs.Problem.{Symbol}
use Rattle.pm_certread.proofs.application.find_symbol.Given as goal

abbrev pub invariant-loop-number : goal.invariant-loop-number
invariant-loop-number l =
    (k : ℕ) (symbol : Symbol) → k < l.number → slice_get l.symbols k ≡ Some symbol → symbol.arity ≤ 255
