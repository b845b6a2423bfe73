-- Pairs that are added to what is watched.
use Rattle.std.specs.Prelude.{◌≡◌, ◌≢◌, ◌↔◌, ℕ, ◌+◌, ◌-◌, ◌<◌, ◌≤◌, List, [], ◌++◌, All, length}
use Rattle.pm_logic.specs.Term.{Term}
use Rattle.pm_store.specs.Equations.{Equations}
use Rattle.pm_store.specs.Solutions.{Solves}
use Rattle.pm_run.specs.State.{CellLiteral}
use Rattle.pm_run.specs.InStore.{HasArgsBelow}
use Rattle.pm_diseq.specs.Notes.{Pair, Note, pairs_of}
use Rattle.pm_diseq.specs.Standing.{AreIdentical, StandsAt}
use Rattle.pm_machine.specs.declared.node.MachineNode.{MachineNode}
use Rattle.pm_machine.specs.State.{CellNode, MachineState}
use Rattle.pm_machine.specs.Node.{node_of}
use Rattle.pm_tab.specs.Repeats.{AreApart, last_of, new_pairs}

abbrev pub literal_on : MachineNode → CellLiteral
literal_on node = (node_of node).literal

-- the literal's cells are the store's, and it has as many arguments as the nodes' literals of its
-- predicate
pub record IsChildOf (s : Equations) (nodes : List CellNode) (child : CellNode) : Type 0 where
  pub below : HasArgsBelow (length s.cells) child.literal
  pub counts :
      All (λ node. node.literal.predicate ≡ child.literal.predicate
      → length node.literal.args ≡ length child.literal.args) nodes

abbrev pub AreChildrenOf : Equations → List CellNode → List CellNode → Type 0
AreChildrenOf s nodes children = All (IsChildOf s nodes) children

-- the nodes' cells are the store's, and these are places of nodes
pub record AreNodesOf (s : Equations) (nodes : List CellNode) (places : List ℕ) : Type 0 where
  pub below : All (λ node. HasArgsBelow (length s.cells) node.literal) nodes
  pub within : All (λ place. place < length nodes) places

-- two of these are the same terms
abbrev pub HasIdentical : Equations → List Pair → Type 0
HasIdentical s pairs = ¬ All (λ pair. ¬ AreIdentical s pair) pairs

-- The pool stands, and has pairs more. With others, which are apart in whatever solution, they tell
-- whether these pairs are apart.
pub record AddsPairs (s : Equations) (pool grown : List Note) (pairs : List Pair) : Type 0 where
  pub stands : StandsAt s grown
  pub more : List Pair
  pub added : pairs_of grown ≡ pairs_of pool ++ more
  pub settled : List Pair
  pub apart : (trees : ℕ → Term) → Solves s trees → AreApart trees settled
  pub tells : (trees : ℕ → Term) → AreApart trees pairs ↔ AreApart trees (more ++ settled)

-- the nodes that came to the first so many stand after the branch's end
pub record HasFamilyAfter (nodes : List CellNode) (branch : List ℕ) (before : ℕ) : Type 0 where
  pub more : before ≤ length nodes
  pub within : All (λ place. place < length nodes) branch
  pub room : branch ≢ [] → last_of branch + 1 + (length nodes - before) ≤ length nodes

-- so many nodes after the branch's end are watched, too
abbrev pub WatchesMore : MachineState → List Note → List Note → List ℕ → ℕ → Type 0
WatchesMore m pool grown branch count =
    AddsPairs m.equations pool grown (new_pairs m.nodes branch count)

-- what was watched, or these nodes, repeat
abbrev pub RepeatsSome : MachineState → List Note → List ℕ → ℕ → Type 0
RepeatsSome m pool branch count =
    HasIdentical m.equations (pairs_of pool ++ new_pairs m.nodes branch count)
