-- Labellings, and what they say of a list of choices: reached, complete, width, the general
-- tableau.
use Rattle.std.specs.Prelude.{◌≡◌, ℕ, zero, suc, ◌<◌, true, List, [], ◌∷◌, ◌++◌, length, Option, Some, None, IsSomeAnd, ⊤, slice_get}
use Rattle.std.specs.Option.{option_map_or}
use Rattle.pm_logic.specs.declared.problem.Class.TheVariants.{Plain}
use Rattle.pm_logic.specs.declared.problem.Start.{Start}
use Rattle.pm_logic.specs.declared.tableau.BoundKind.{BoundKind}
use Rattle.pm_logic.specs.declared.tableau.NodeKind.{NodeKind}
use Rattle.pm_logic.specs.declared.tableau.NodeKind.TheVariants.{Leaf, Inner}
use Rattle.pm_logic.specs.Problem.{Literal, Clause, Problem}
use Rattle.pm_logic.specs.Tableau.{Node, leaf, inner, Nodes, no_nodes, more_nodes, Tableau, Entry}
use Rattle.pm_logic.specs.Variables.{IsNumberedInOrder}
use Rattle.pm_calculus.specs.Substitution.{AreComplementary, IsInstanceOf}
use Rattle.pm_calculus.specs.Connection.{IsOver, IsRegularFor, IsWithinBound, Level}
use Rattle.pm_calculus.specs.Skeleton.{face_of, SkeletonNode, Skeleton, unclosed, closed, extended, Skeletons, no_skeletons, more_skeletons, State, empty, rooted, is_closed}
use Rattle.pm_calculus.specs.Alternatives.{alternatives, state_after}

-- the one at this depth; the first has depth 1
abbrev pub at_depth : List Literal → ℕ → Option Literal
at_depth above zero = None
at_depth above (suc n) = slice_get above n

-- The node has the tree and the clause indices of the skeleton, and each leaf that the skeleton
-- closes is complementary to the ancestor that closes it.
abbrev mutual
  pub FitsBelow : List Literal → Skeleton → Node → Type 0
  FitsBelow above (unclosed face) (leaf literal) = ⊤
  FitsBelow above (closed face ancestor) (leaf literal) =
      IsSomeAnd (at_depth above ancestor) (AreComplementary literal)
  FitsBelow above (extended face c trees) (inner literal clause children) =
      (c ≡ clause) × FitAmong (above ++ literal ∷ []) trees children
  FitsBelow above tree node = ⊥

  pub FitAmong : List Literal → Skeletons → Nodes → Type 0
  FitAmong above no_skeletons no_nodes = ⊤
  FitAmong above (more_skeletons tree trees) (more_nodes node nodes) =
      FitsBelow above tree node × FitAmong above trees nodes
  FitAmong above trees nodes = ⊥

-- the same of a whole tableau
abbrev pub Fits : State → Tableau → Type 0
Fits empty tableau = ⊥
Fits (rooted root trees) tableau = (root ≡ tableau.root) × FitAmong [] trees tableau.children

-- a labelling of what was built: literals for its nodes, with which each family is an instance of
-- its clause and each closed leaf is complementary to the ancestor that closes it
pub record IsLabelling (clauses : List Clause) (state : State) (tableau : Tableau) : Type 0 where
  pub fits : Fits state tableau
  pub over : IsOver clauses tableau

-- a level in the class in which nothing is asked of branches
abbrev pub plain_level : Problem → Start → BoundKind → ℕ → Level
plain_level problem rule kind bound =
    record { problem = problem; class = Plain; start = rule; kind = kind; bound = bound }

-- the clause of an inner node
abbrev pub clause_in : NodeKind → Option ℕ
clause_in Leaf = None
clause_in (Inner clause) = Some clause

-- a node of a skeleton is what a node of a tableau shows without its terms
pub record IsShownBy (node : SkeletonNode) (entry : Entry) : Type 0 where
  pub depth : node.depth ≡ entry.depth
  pub face : node.face ≡ face_of entry.literal
  pub clause : node.clause ≡ clause_in entry.kind

-- some labelling is within the level's bound and, where the class is regular, has no literal twice
-- on a branch, a closed branch included
pub record HasLabelling (level : Level) (state : State) : Type 0 where
  pub tableau : Tableau
  pub labelling : IsLabelling level.problem.clauses state tableau
  pub regular : IsRegularFor level.class tableau
  pub within : IsWithinBound level.kind level.bound tableau

-- before the first choice there is nothing to label
abbrev pub IsReachedState : Level → State → Type 0
IsReachedState level empty = ⊤
IsReachedState level (rooted root trees) = HasLabelling level (rooted root trees)

-- each number is an alternative of its place, and what they build has a labelling
abbrev pub IsReached : Level → List ℕ → Type 0
IsReached level choices = IsSomeAnd (state_after level choices) (IsReachedState level)

-- reached, not empty, and with no leaf unclosed
pub record IsComplete (level : Level) (choices : List ℕ) : Type 0 where
  pub reached : IsReached level choices
  pub begun : 0 < length choices
  pub closed : IsSomeAnd (state_after level choices) (λ state. is_closed state ≡ true)

-- the number of alternatives after these choices
abbrev pub width : Level → List ℕ → ℕ
width level choices =
    option_map_or (λ state. length (alternatives level state)) (state_after level choices) 0

-- a labelling of what the choices build
abbrev pub IsLabellingOf : Level → List ℕ → Tableau → Type 0
IsLabellingOf level choices tableau =
    IsSomeAnd (state_after level choices) (λ state. IsLabelling level.problem.clauses state tableau)

-- At some level the choices build the tableau's tree with its clause indices, leave no leaf
-- unclosed, and close each leaf by an ancestor that is complementary to it in the tableau. The
-- class plays no part.
pub record Follows (problem : Problem) (rule : Start) (choices : List ℕ)
    (tableau : Tableau) : Type 0 where
  pub kind : BoundKind
  pub bound : ℕ
  pub state : State
  pub built : state_after (plain_level problem rule kind bound) choices ≡ Some state
  pub closed : is_closed state ≡ true
  pub fits : Fits state tableau

-- the labelling of which each labelling is an instance, its variables numbered by first occurrence
pub record IsGeneral (level : Level) (choices : List ℕ) (tableau : Tableau) : Type 0 where
  pub labelling : IsLabellingOf level choices tableau
  pub most : (other : Tableau) → IsLabellingOf level choices other → IsInstanceOf other tableau
  pub numbered : IsNumberedInOrder tableau
