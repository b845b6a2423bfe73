-- What a step does to the store and to the tree, before it is seen as a machine's.
use Rattle.std.specs.Prelude.{◌≡◌, ℕ, ◌+◌, ◌<◌, not, List, Some, slice_get}
use Rattle.pm_logic.specs.Problem.{Clause, Problem}
use Rattle.pm_store.specs.Equations.{Equations}
use Rattle.pm_store.specs.Marks.{counts_of}
use Rattle.pm_run.specs.State.{Child}
use Rattle.pm_run.specs.Meaning.{Unites}
use Rattle.pm_run.specs.Failure.{CannotClose}
use Rattle.pm_run.specs.Runner.{StartComesTo, ExtensionComesTo, ExtensionFails}
use Rattle.pm_calculus.specs.Skeleton as calculus
use Rattle.pm_calculus.specs.Skeleton.{built}
use Rattle.pm_calculus.specs.Alternatives.{MayTake}
use Rattle.pm_machine.specs.State.{CellNode}
use Rattle.pm_machine.specs.Inside.Frames.{TreeValue, deepest, IsStarted, IsExtended, IsReduced}
use Rattle.pm_machine.specs.Inside.History.{steps_of, HasPlace}

-- the code of a start came to its end, and its children are the nodes
pub record RunsStart (clauses : List Clause) (c : ℕ) (s later : Equations)
    (old new : TreeValue) : Type 0 where
  pub children : List Child
  pub comes : StartComesTo clauses c s later children
  pub started : IsStarted c (counts_of s) children old new

-- the code of an extension came to its end, and the leaf has its children
pub record RunsExtension (clauses : List Clause) (c j : ℕ) (s later : Equations)
    (old new : TreeValue) : Type 0 where
  pub children : List Child
  pub extended : IsExtended c j (counts_of s) children old new
  pub comes : ExtensionComesTo clauses c j extended.node.literal.args s later children

-- the code of an extension failed
abbrev pub FailsExtension : List Clause → ℕ → ℕ → Equations → TreeValue → Type 0
FailsExtension clauses c j s tree =
    (node : CellNode) → slice_get tree.nodes tree.leaf ≡ Some node
    → ExtensionFails clauses c j node.literal.args s

-- a place on the branch has an ancestor of the leaf, which is this node
pub record HasAncestor (tree : TreeValue) (k : ℕ) (ancestor : CellNode) : Type 0 where
  pub level : ℕ
  pub depth : k ≡ level + 1
  pub has : HasPlace tree level
  pub same : has.ancestor ≡ ancestor

-- the leaf was unified with its ancestor, and is closed by it
pub record RunsReduction (k : ℕ) (s later : Equations) (old new : TreeValue) : Type 0 where
  pub reduced : IsReduced k (counts_of s) old new
  pub ancestor : CellNode
  pub is_ancestor : HasAncestor old k ancestor
  pub sign : reduced.node.literal.positive ≡ not ancestor.literal.positive
  pub predicate : reduced.node.literal.predicate ≡ ancestor.literal.predicate
  pub unites : Unites s reduced.node.literal.args ancestor.literal.args later

-- the leaf can't be closed by its ancestor
pub record FailsReduction (k : ℕ) (s : Equations) (tree : TreeValue) : Type 0 where
  pub node : CellNode
  pub stands : slice_get tree.nodes tree.leaf ≡ Some node
  pub ancestor : CellNode
  pub is_ancestor : HasAncestor tree k ancestor
  pub cannot : CannotClose s node.literal ancestor.literal

-- the step may be taken at what the tree's steps have built
abbrev pub MayTakeAt : Problem → TreeValue → calculus.Step → Type 0
MayTakeAt problem tree step =
    MayTake problem.clauses (built problem.clauses (steps_of tree.taken)) step

-- the selected leaf isn't too deep to be extended
abbrev pub IsShallow : TreeValue → Type 0
IsShallow tree =
    (node : CellNode) → slice_get tree.nodes tree.leaf ≡ Some node → node.depth < deepest
