-- What the solutions of the machine's store say of its nodes.
use Rattle.std.specs.Prelude.{◌≡◌, ◌↔◌, ℕ, ◌⊎◌, List, All, Option, Some, None, length, map}
use Rattle.pm_logic.specs.declared.tableau.NodeKind.{NodeKind}
use Rattle.pm_logic.specs.declared.tableau.NodeKind.TheVariants.{Leaf, Inner}
use Rattle.pm_logic.specs.declared.symbols.Kind.TheVariants.{Predicate, Equality}
use Rattle.pm_logic.specs.Term.{Term}
use Rattle.pm_logic.specs.Problem.{Symbol, Clause, Problem, HasShape}
use Rattle.pm_logic.specs.Tableau.{Tableau, Entry, forest_of}
use Rattle.pm_store.specs.Solutions.{Solves}
use Rattle.pm_store.specs.Sound.{IsSound}
use Rattle.pm_run.specs.State.{CellLiteral, literal_under}
use Rattle.pm_run.specs.InStore.{HasArgsBelow}
use Rattle.pm_calculus.specs.Skeleton.{Skeletons, rooted, built, nodes_of}
use Rattle.pm_calculus.specs.Choices.{IsLabelling}
use Rattle.pm_machine.specs.State.{CellNode, MachineState, shape_of}

-- the kind of a node of a tableau, by its clause
abbrev pub kind_of : Option ℕ → NodeKind
kind_of None = Leaf
kind_of (Some clause) = Inner clause

-- a node over the trees of its cells
abbrev pub entry_under : (ℕ → Term) → CellNode → Entry
entry_under trees node = record {
  depth = node.depth;
  literal = literal_under trees node.literal;
  kind = kind_of node.clause;
}

-- the tableau of a root's clause and of nodes in pre-order, over the trees of cells
abbrev pub tableau_under : (ℕ → Term) → ℕ → List CellNode → Tableau
tableau_under trees root nodes =
    record { root = root; children = forest_of (map (entry_under trees) nodes) }

-- the tableau is the machine's over a solution of its store
pub record IsShownBySolution (m : MachineState) (root : ℕ) (tableau : Tableau) : Type 0 where
  pub trees : ℕ → Term
  pub solves : Solves m.equations trees
  pub shown : tableau ≡ tableau_under trees root m.nodes

-- the labellings of what the steps built are exactly those that the solutions of the store give to
-- the nodes
abbrev pub SolutionsAreLabellings : List Clause → MachineState → Type 0
SolutionsAreLabellings clauses m =
    (root : ℕ) (below : Skeletons) → built clauses m.steps ≡ rooted root below
    → (tableau : Tableau)
    → IsLabelling clauses (rooted root below) tableau ↔ IsShownBySolution m root tableau

-- a literal has as many arguments as its predicate has
abbrev pub HasItsCount : List Symbol → CellLiteral → Type 0
HasItsCount symbols literal =
    HasShape symbols literal.predicate Predicate (length literal.args)
    ⊎ HasShape symbols literal.predicate Equality (length literal.args)

-- what always holds of a machine: its store is sound, its nodes' cells are the store's, the nodes
-- are those of what the steps built, and the solutions are its labellings
pub record IsBuilt (problem : Problem) (m : MachineState) : Type 0 where
  pub sound : IsSound m.equations
  pub cells : All (λ node. HasArgsBelow (length m.equations.cells) node.literal) m.nodes
  pub counts : All (λ node. HasItsCount problem.symbols node.literal) m.nodes
  pub shapes : map shape_of m.nodes ≡ nodes_of (built problem.clauses m.steps)
  pub labels : SolutionsAreLabellings problem.clauses m
