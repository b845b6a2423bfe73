-- When a step is taken, and when it fails: by the runs of its code.
use Rattle.std.specs.Prelude.{◌≡◌, ℕ, List, [], ◌∷◌, ◌++◌, Some, map, slice_get}
use Rattle.pm_logic.specs.Problem.{Literal, Clause}
use Rattle.pm_compile.specs.Scheme.{start_code, extension_code}
use Rattle.pm_run.specs.State.{CellLiteral, RunState}
use Rattle.pm_run.specs.Meaning.{Runs}
use Rattle.pm_run.specs.Failure.{RunFails}
use Rattle.pm_run.specs.Steps.{reduction_code, before_step}
use Rattle.pm_run.specs.Bodies.{bodies_of, variables_at}
use Rattle.pm_calculus.specs.Skeleton.{Step, start, extend, reduce, literals_at}
use Rattle.pm_machine.specs.State.{CellNode, MachineState, IsSelected, IsBranchTo, child_at}

-- the selected leaf, and the branch to it
pub record LeafOf (m : MachineState) : Type 0 where
  pub before : List CellNode
  pub leaf : CellNode
  pub after : List CellNode
  pub branch : List CellLiteral
  pub selected : IsSelected m.nodes before leaf after
  pub leads : IsBranchTo before leaf branch

-- before a step's code is run, with so many locals, at this branch, and with these cells pushed
abbrev pub begun : MachineState → ℕ → List CellLiteral → List ℕ → RunState
begun m locals branch cells = before_step locals m.equations branch cells

-- before the code of an extension by a clause is run: the leaf's arguments are pushed
abbrev pub begun_at : List Clause → ℕ → (m : MachineState) → LeafOf m → RunState
begun_at clauses c m at =
    begun m (variables_at clauses c) at.branch at.leaf.literal.args

-- a start's code is run, and its children are the nodes
pub record Starts (clauses : List Clause) (c : ℕ) (m new : MachineState) : Type 0 where
  pub last : RunState
  pub runs :
      Runs (bodies_of clauses) (start_code c) (begun m (variables_at clauses c) [] []) last
  pub steps : new.steps ≡ m.steps ++ start c ∷ []
  pub equations : new.equations ≡ last.equations
  pub nodes : new.nodes ≡ map (child_at 0) last.children

-- an extension's code is run at the selected leaf, which gets the clause and the children
pub record Extends (clauses : List Clause) (c j : ℕ) (m new : MachineState) : Type 0 where
  pub at : LeafOf m
  pub literal : Literal
  pub stands : slice_get (literals_at clauses c) j ≡ Some literal
  pub last : RunState
  pub runs : Runs (bodies_of clauses) (extension_code c j literal) (begun_at clauses c m at) last
  pub steps : new.steps ≡ m.steps ++ extend c j ∷ []
  pub equations : new.equations ≡ last.equations
  pub nodes :
      new.nodes
      ≡ at.before
      ++ record at.leaf { clause = Some c }
      ∷ (map (child_at at.leaf.depth) last.children ++ at.after)

-- a reduction's code is run at the selected leaf, which is closed
pub record Reduces (clauses : List Clause) (k : ℕ) (m new : MachineState) : Type 0 where
  pub at : LeafOf m
  pub last : RunState
  pub runs : Runs (bodies_of clauses) (reduction_code k) (begun m 0 at.branch []) last
  pub steps : new.steps ≡ m.steps ++ reduce k ∷ []
  pub equations : new.equations ≡ last.equations
  pub nodes :
      new.nodes ≡ at.before ++ record at.leaf { closed_by = last.closed_by } ∷ at.after

-- the step is taken
abbrev pub Takes : List Clause → Step → MachineState → MachineState → Type 0
Takes clauses (start c) m new = Starts clauses c m new
Takes clauses (extend c j) m new = Extends clauses c j m new
Takes clauses (reduce k) m new = Reduces clauses k m new

-- the run of an extension's code fails
pub record ExtensionFails (clauses : List Clause) (c j : ℕ) (m : MachineState) : Type 0 where
  pub at : LeafOf m
  pub literal : Literal
  pub stands : slice_get (literals_at clauses c) j ≡ Some literal
  pub fails :
      RunFails (bodies_of clauses) (extension_code c j literal) (begun_at clauses c m at)

-- the run of a reduction's code fails
pub record ReductionFails (clauses : List Clause) (k : ℕ) (m : MachineState) : Type 0 where
  pub at : LeafOf m
  pub fails : RunFails (bodies_of clauses) (reduction_code k) (begun m 0 at.branch [])

-- the step can't be taken; a start always can
abbrev pub StepFails : List Clause → Step → MachineState → Type 0
StepFails clauses (start c) m = ⊥
StepFails clauses (extend c j) m = ExtensionFails clauses c j m
StepFails clauses (reduce k) m = ReductionFails clauses k m
