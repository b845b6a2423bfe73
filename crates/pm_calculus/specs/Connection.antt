-- Closed, connected and regular tableaux, and the class of a level. Nothing here knows of steps or
-- of a search.
use Rattle.std.specs.Prelude.{ℕ, ◌≤◌, ◌⊎◌, List, [], ◌∷◌, ◌++◌, All, Any, Contains, IsSomeAnd, ⊤, slice_get}
use Rattle.pm_logic.specs.declared.problem.Class.{Class}
use Rattle.pm_logic.specs.declared.problem.Class.TheVariants.{Plain, Regular}
use Rattle.pm_logic.specs.declared.problem.Start.{Start}
use Rattle.pm_logic.specs.declared.tableau.BoundKind.{BoundKind}
use Rattle.pm_logic.specs.Problem.{Symbol, Literal, Clause, Problem, IsLiteralOver, start_clauses}
use Rattle.pm_logic.specs.Tableau.{Node, leaf, inner, Nodes, no_nodes, more_nodes, Tableau, size, preorder}
use Rattle.pm_calculus.specs.Substitution.{IsInstance, AreComplementary}

abbrev pub literal_on : Node → Literal
literal_on (leaf literal) = literal
literal_on (inner literal clause children) = literal

-- the literals of a family: of the children of one node, in order
abbrev pub literals_on : Nodes → List Literal
literals_on no_nodes = []
literals_on (more_nodes node nodes) = literal_on node ∷ literals_on nodes

-- the children are an instance of the clause of this index
abbrev pub IsFamily : List Clause → ℕ → Nodes → Type 0
IsFamily clauses clause children =
    IsSomeAnd (slice_get clauses clause) (λ c. IsInstance c (literals_on children))

-- each inner node's children are an instance of its clause
abbrev mutual
  pub HasFamilies : List Clause → Node → Type 0
  HasFamilies clauses (leaf literal) = ⊤
  HasFamilies clauses (inner literal clause children) =
      IsFamily clauses clause children × HaveFamilies clauses children

  pub HaveFamilies : List Clause → Nodes → Type 0
  HaveFamilies clauses no_nodes = ⊤
  HaveFamilies clauses (more_nodes node nodes) =
      HasFamilies clauses node × HaveFamilies clauses nodes

-- a tableau over these clauses: each family, the root's too, is an instance of its clause
abbrev pub IsOver : List Clause → Tableau → Type 0
IsOver clauses tableau =
    IsFamily clauses tableau.root tableau.children × HaveFamilies clauses tableau.children

-- Each leaf has a complementary ancestor. The literals above a node are those of its ancestors, the
-- one at depth 1 first.
abbrev mutual
  pub IsClosedBelow : List Literal → Node → Type 0
  IsClosedBelow above (leaf literal) = Any (AreComplementary literal) above
  IsClosedBelow above (inner literal clause children) =
      AreClosedBelow (above ++ literal ∷ []) children

  pub AreClosedBelow : List Literal → Nodes → Type 0
  AreClosedBelow above no_nodes = ⊤
  AreClosedBelow above (more_nodes node nodes) =
      IsClosedBelow above node × AreClosedBelow above nodes

abbrev pub IsClosed : Tableau → Type 0
IsClosed tableau = AreClosedBelow [] tableau.children

-- one of the nodes is a leaf that is complementary to the literal
abbrev pub HasComplementaryLeaf : Literal → Nodes → Type 0
HasComplementaryLeaf literal no_nodes = ⊥
HasComplementaryLeaf literal (more_nodes (leaf other) nodes) =
    AreComplementary other literal ⊎ HasComplementaryLeaf literal nodes
HasComplementaryLeaf literal (more_nodes (inner other clause children) nodes) =
    HasComplementaryLeaf literal nodes

-- each inner node has a child that is a leaf and is complementary to it
abbrev mutual
  pub IsConnectedBelow : Node → Type 0
  IsConnectedBelow (leaf literal) = ⊤
  IsConnectedBelow (inner literal clause children) =
      HasComplementaryLeaf literal children × AreConnectedBelow children

  pub AreConnectedBelow : Nodes → Type 0
  AreConnectedBelow no_nodes = ⊤
  AreConnectedBelow (more_nodes node nodes) = IsConnectedBelow node × AreConnectedBelow nodes

-- of the root nothing is asked
abbrev pub IsConnected : Tableau → Type 0
IsConnected tableau = AreConnectedBelow tableau.children

-- No branch has the same literal twice, leaves included: no node has a literal that is above it.
-- Literals are compared as written, variables included.
abbrev mutual
  pub IsRegularBelow : List Literal → Node → Type 0
  IsRegularBelow above (leaf literal) = ¬ Contains above literal
  IsRegularBelow above (inner literal clause children) =
      (¬ Contains above literal) × AreRegularBelow (above ++ literal ∷ []) children

  pub AreRegularBelow : List Literal → Nodes → Type 0
  AreRegularBelow above no_nodes = ⊤
  AreRegularBelow above (more_nodes node nodes) =
      IsRegularBelow above node × AreRegularBelow above nodes

abbrev pub IsRegular : Tableau → Type 0
IsRegular tableau = AreRegularBelow [] tableau.children

-- regular, where the class asks for it
abbrev pub IsRegularFor : Class → Tableau → Type 0
IsRegularFor Plain tableau = ⊤
IsRegularFor Regular tableau = IsRegular tableau

-- the size of a tableau under a kind of bound is within the bound
abbrev pub IsWithinBound : BoundKind → ℕ → Tableau → Type 0
IsWithinBound kind bound tableau = size kind tableau ≤ bound

-- a level of the search: what it is about, and the bound on the size of its tableaux
pub record Level : Type 0 where
  pub problem : Problem
  pub class : Class
  pub start : Start
  pub kind : BoundKind
  pub bound : ℕ

-- the tableau is in the class of the level
pub record IsInClass (level : Level) (tableau : Tableau) : Type 0 where
  pub start : Contains (start_clauses level.start level.problem.clauses) tableau.root
  pub over : IsOver level.problem.clauses tableau
  pub closed : IsClosed tableau
  pub connected : IsConnected tableau
  pub regular : IsRegularFor level.class tableau
  pub within : IsWithinBound level.kind level.bound tableau

-- The tableau is over these symbols: each predicate and each symbol of its terms is one of them, of
-- the right kind and with the right number of arguments. Its variables are below some number.
pub record IsOverSymbols (symbols : List Symbol) (tableau : Tableau) : Type 0 where
  pub vars : ℕ
  pub literals : All (λ entry. IsLiteralOver symbols vars entry.literal) (preorder tableau)
