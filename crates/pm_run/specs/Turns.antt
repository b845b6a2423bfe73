-- Instructions one after another.
use Rattle.std.specs.Prelude.{◌≡◌, List, [], ◌∷◌}
use Rattle.pm_compile.specs.Instructions.{Instruction}

-- the instructions in turn, each of which does this, lead from the first state to the last
abbrev pub InTurn :
    {S : Type 0} → (Instruction → S → S → Type 0) → List Instruction → S → S → Type 0
InTurn {S = S} does [] first last = last ≡ first
InTurn {S = S} does (i ∷ is) first last = (next : S) × does i first next × InTurn does is next last
