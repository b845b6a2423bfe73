-- When an instruction can't be done.
use Rattle.std.specs.Prelude.{◌≡◌, ◌≢◌, ℕ, ◌⊎◌, not, List, [], ◌∷◌, ◌++◌, Some, length, map, slice_get}
use Rattle.pm_logic.specs.Term.{Term}
use Rattle.pm_store.specs.Entries.{Application}
use Rattle.pm_store.specs.Equations.{Equations, end_of}
use Rattle.pm_store.specs.Solutions.{Solves}
use Rattle.pm_unify.specs.Unified.{CannotUnify}
use Rattle.pm_compile.specs.Instructions.{Instruction, AGAIN, MEET, GROUND, BODY, REDUCE}
use Rattle.pm_run.specs.State.{CellLiteral, RunState, IsAncestor}
use Rattle.pm_run.specs.Turns.{InTurn}
use Rattle.pm_run.specs.Meaning.{IsSetTo, IsCellOf, HasOnTop, Does, NoBody, RunsBody}

-- no solution makes the cells of both lists equal
abbrev pub CannotUnite : Equations → List ℕ → List ℕ → Type 0
CannotUnite s cs ds = (trees : ℕ → Term) → Solves s trees → map trees cs ≢ map trees ds

-- the cell leads to an application of another symbol, or to another number of arguments
abbrev pub IsOtherApplication : Equations → ℕ → ℕ → ℕ → Type 0
IsOtherApplication s c f n = (g : ℕ) × (args : List ℕ)
    × (slice_get s.cells (end_of s.bindings c) ≡ Some (Application g args))
    × ¬ ((g ≡ f) × (length args ≡ n))

-- the literals have the same sign or other predicates, or their arguments can't be unified
abbrev pub CannotClose : Equations → CellLiteral → CellLiteral → Type 0
CannotClose s leaf ancestor =
    (leaf.positive ≢ not ancestor.positive) ⊎ (leaf.predicate ≢ ancestor.predicate)
    ⊎ CannotUnite s leaf.args ancestor.args

-- the instruction can't be done; of a body's, the argument says it
abbrev pub Fails : (ℕ → RunState → Type 0) → Instruction → RunState → Type 0
Fails body (AGAIN x) m = (c d : ℕ) × (rest : List ℕ) × HasOnTop (c ∷ []) rest m × IsSetTo m x d
    × CannotUnify m.equations c d
Fails body (MEET f n) m =
    (c : ℕ) × (rest : List ℕ) × HasOnTop (c ∷ []) rest m × IsOtherApplication m.equations c f n
Fails body (GROUND t) m = (c d : ℕ) × (rest : List ℕ) × HasOnTop (c ∷ []) rest m
    × IsCellOf m.equations t d × CannotUnify m.equations c d
Fails body (BODY c) m = body c m
Fails body (REDUCE k) m = (ancestor leaf : CellLiteral) → IsAncestor m.branch k ancestor leaf
    → CannotClose m.equations leaf ancestor
Fails body i m = ⊥

-- the code, whose instructions do this, comes to one that fails so
pub record ComesToFail (does : Instruction → RunState → RunState → Type 0)
    (fails : Instruction → RunState → Type 0) (code : List Instruction)
    (m : RunState) : Type 0 where
  pub before : List Instruction
  pub instruction : Instruction
  pub after : List Instruction
  pub reached : RunState
  pub whole : code ≡ before ++ instruction ∷ after
  pub runs : InTurn does before m reached
  pub failed : fails instruction reached

-- a body performs no other body
abbrev pub NoBodyFails : ℕ → RunState → Type 0
NoBodyFails c m = ⊥

-- a run of the body of a clause comes to an instruction that can't be done
abbrev pub BodyFails : (ℕ → List Instruction) → ℕ → RunState → Type 0
BodyFails bodies c m = ComesToFail (Does NoBody) (Fails NoBodyFails) (bodies c) m

-- a run of the code comes to an instruction that can't be done
abbrev pub RunFails : (ℕ → List Instruction) → List Instruction → RunState → Type 0
RunFails bodies code m = ComesToFail (Does (RunsBody bodies)) (Fails (BodyFails bodies)) code m
