-- What each instruction does.
use Rattle.std.specs.Prelude.{◌≡◌, ℕ, suc, ◌+◌, ◌<◌, ◌⊎◌, Bool, false, not, List, [], ◌∷◌, ◌++◌, Option, Some, None, length, reverse, set, slice_get}
use Rattle.std.specs.List.{range_with_len}
use Rattle.pm_logic.specs.Term.{Term}
use Rattle.pm_store.specs.Entries.{Application}
use Rattle.pm_store.specs.Equations.{Equations, with_cell, with_new_variables, with_binding, end_of, IsFree}
use Rattle.pm_store.specs.Solutions.{Solves}
use Rattle.pm_unify.specs.Unified.{IsUnified}
use Rattle.pm_compile.specs.Instructions.{Instruction, FIRST, AGAIN, MEET, GROUND, NEW, PUSH, MAKE, CONST, GOAL, BODY, RETURN, CLOSE, REDUCE, DONE}
use Rattle.pm_run.specs.State.{CellLiteral, Child, RunState, with_changed, closed_child, IsAncestor}
use Rattle.pm_run.specs.Turns.{InTurn}

-- the local of a variable is there, and isn't set
abbrev pub IsUnset : RunState → ℕ → Type 0
IsUnset m x = slice_get m.locals x ≡ Some None

-- the local of a variable is set to this cell
abbrev pub IsSetTo : RunState → ℕ → ℕ → Type 0
IsSetTo m x c = slice_get m.locals x ≡ Some (Some c)

-- the cell has this tree in each solution
pub record IsCellOf (s : Equations) (t : Term) (c : ℕ) : Type 0 where
  pub within : c < length s.cells
  pub tree : (trees : ℕ → Term) → Solves s trees → trees c ≡ t

-- the cell leads to an application of the symbol to these arguments, so many
pub record IsApplication (s : Equations) (c f n : ℕ) (args : List ℕ) : Type 0 where
  pub stands : slice_get s.cells (end_of s.bindings c) ≡ Some (Application f args)
  pub count : length args ≡ n

-- so many new cells, from the first that isn't there
abbrev pub new_cells : Equations → ℕ → List ℕ
new_cells s n = range_with_len (length s.cells) n

-- the store with so many new variables, and a variable bound to the symbol's application to them
abbrev pub with_application : Equations → ℕ → ℕ → ℕ → Equations
with_application s v f n =
    with_binding
    (with_cell (with_new_variables s n) (Application f (new_cells s n)))
    v (length (with_new_variables s n).cells)

-- a cell is met by an application of the symbol to so many arguments
abbrev pub Meets : Equations → ℕ → ℕ → ℕ → List ℕ → Equations → Type 0
Meets s c f n args new =
    (IsApplication s c f n args × (new ≡ s))
    ⊎ (IsFree s (end_of s.bindings c) × (args ≡ new_cells s n)
    × (new ≡ with_application s (end_of s.bindings c) f n))

-- the cells of two lists are unified one after another
abbrev pub Unites : Equations → List ℕ → List ℕ → Equations → Type 0
Unites s [] [] new = new ≡ s
Unites s (c ∷ cs) (d ∷ ds) new = (next : Equations) × IsUnified s next c d × Unites next cs ds new
Unites s cs ds new = ⊥

-- the locals that weren't set are set to new cells, of which the first is this
abbrev pub all_set : ℕ → List (Option ℕ) → List (Option ℕ)
all_set next [] = []
all_set next (Some c ∷ locals) = Some c ∷ all_set next locals
all_set next (None ∷ locals) = Some next ∷ all_set (next + 1) locals

-- how many locals aren't set
abbrev pub unset_count : List (Option ℕ) → ℕ
unset_count [] = 0
unset_count (Some c ∷ locals) = unset_count locals
unset_count (None ∷ locals) = suc (unset_count locals)

-- these cells are popped, the top first
abbrev pub HasOnTop : List ℕ → List ℕ → RunState → Type 0
HasOnTop cells rest m = m.stack ≡ cells ++ rest

-- the first occurrence of a variable in a head
abbrev pub SetsLocal : ℕ → RunState → RunState → Type 0
SetsLocal x m new = (c : ℕ) × (rest : List ℕ) × HasOnTop (c ∷ []) rest m × IsUnset m x
    × (new ≡ record m { locals = set m.locals x (Some c); stack = rest })

-- a further occurrence of a variable in a head
abbrev pub UnifiesLocal : ℕ → RunState → RunState → Type 0
UnifiesLocal x m new = (c d : ℕ) × (rest : List ℕ) × (s : Equations) × HasOnTop (c ∷ []) rest m
    × IsSetTo m x d × IsUnified m.equations s c d × (new ≡ record m { equations = s; stack = rest })

-- a ground term in a head
abbrev pub UnifiesGround : Term → RunState → RunState → Type 0
UnifiesGround t m new = (c d : ℕ) × (rest : List ℕ) × (s : Equations) × HasOnTop (c ∷ []) rest m
    × IsCellOf m.equations t d × IsUnified m.equations s c d
    × (new ≡ record m { equations = s; stack = rest })

-- an application in a head: the cells of its arguments come on top, the first as the top
abbrev pub MeetsTop : ℕ → ℕ → RunState → RunState → Type 0
MeetsTop f n m new = (c : ℕ) × (rest args : List ℕ) × (s : Equations) × HasOnTop (c ∷ []) rest m
    × Meets m.equations c f n args s × (new ≡ record m { equations = s; stack = args ++ rest })

-- each local that isn't set becomes a new variable, in the order of the numbers
abbrev pub SetsRest : RunState → RunState → Type 0
SetsRest m new = new
    ≡ record m {
      locals = all_set (length m.equations.cells) m.locals;
      equations = with_new_variables m.equations (unset_count m.locals);
    }

-- a variable that is built
abbrev pub PushesLocal : ℕ → RunState → RunState → Type 0
PushesLocal x m new = (c : ℕ) × IsSetTo m x c × (new ≡ record m { stack = c ∷ m.stack })

-- a ground term that is built
abbrev pub PushesGround : Term → RunState → RunState → Type 0
PushesGround t m new =
    (c : ℕ) × IsCellOf m.equations t c × (new ≡ record m { stack = c ∷ m.stack })

-- an application that is built: its last argument is popped first
abbrev pub MakesCell : ℕ → ℕ → RunState → RunState → Type 0
MakesCell f n m new = (args rest : List ℕ) × (length args ≡ n) × HasOnTop (reverse args) rest m
    × (new
    ≡ record m {
      equations = with_cell m.equations (Application f args);
      stack = length m.equations.cells ∷ rest;
    })

-- a child whose parent doesn't close it
abbrev pub new_child : Bool → ℕ → List ℕ → Child
new_child positive p args = record {
  literal = record { positive = positive; predicate = p; args = args };
  closed = false;
}

-- a literal of the clause: its last argument is popped first
abbrev pub AddsChild : Bool → ℕ → ℕ → RunState → RunState → Type 0
AddsChild positive p n m new = (args rest : List ℕ) × (length args ≡ n)
    × HasOnTop (reverse args) rest m
    × (new
    ≡ record m {
      stack = rest;
      children = m.children ++ new_child positive p args ∷ [];
    })

-- the leaf has the opposite sign and the same predicate as its ancestor at this depth, and their
-- arguments are unified
abbrev pub ClosesLeaf : ℕ → RunState → RunState → Type 0
ClosesLeaf k m new = (ancestor leaf : CellLiteral) × (s : Equations)
    × IsAncestor m.branch k ancestor leaf
    × (leaf.positive ≡ not ancestor.positive) × (leaf.predicate ≡ ancestor.predicate)
    × Unites m.equations leaf.args ancestor.args s
    × (new ≡ record m { equations = s; closed_by = Some k })

-- what an instruction does, where a body does this
abbrev pub Does : (ℕ → RunState → RunState → Type 0) → Instruction → RunState → RunState → Type 0
Does body (FIRST x) m new = SetsLocal x m new
Does body (AGAIN x) m new = UnifiesLocal x m new
Does body (MEET f n) m new = MeetsTop f n m new
Does body (GROUND t) m new = UnifiesGround t m new
Does body NEW m new = SetsRest m new
Does body (PUSH x) m new = PushesLocal x m new
Does body (MAKE f n) m new = MakesCell f n m new
Does body (CONST t) m new = PushesGround t m new
Does body (GOAL positive p n) m new = AddsChild positive p n m new
Does body (BODY c) m new = body c m new
Does body RETURN m new = new ≡ m
Does body (CLOSE j) m new = new ≡ record m { children = with_changed j closed_child m.children }
Does body (REDUCE k) m new = ClosesLeaf k m new
Does body DONE m new = new ≡ m

-- a body performs no other body
abbrev pub NoBody : ℕ → RunState → RunState → Type 0
NoBody c m new = ⊥

-- a run of the body of a clause, up to its end
abbrev pub RunsBody : (ℕ → List Instruction) → ℕ → RunState → RunState → Type 0
RunsBody bodies c m new = InTurn (Does NoBody) (bodies c) m new

-- a run of code, with this code for the bodies of clauses
abbrev pub Runs : (ℕ → List Instruction) → List Instruction → RunState → RunState → Type 0
Runs bodies code m new = InTurn (Does (RunsBody bodies)) code m new
