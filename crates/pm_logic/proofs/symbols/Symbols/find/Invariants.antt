use Rattle.std.proofs.Common.{◌≡◌, ℕ, ◌<◌, Some, get_or, slice_get}
use Rattle.pm_logic.proofs.symbols.Symbols.find.Given as goal

-- none of the numbers so far is the symbol's
abbrev pub invariant-loop-number : goal.invariant-loop-number
invariant-loop-number l =
    (k : ℕ) → k < l.number-index → slice_get l.self (get_or l.number-items k 0) ≡ Some (record { text = l.text; arity = l.arity; kind = l.kind }) → ⊥
