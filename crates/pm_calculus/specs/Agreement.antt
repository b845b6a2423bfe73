-- How a tableau's tree picks the alternatives of a list.
use Rattle.std.specs.Prelude.{◌≡◌, ℕ, ◌<◌, true, List, [], ◌∷◌, ◌++◌, length, Option, Some, None, IsSomeAnd, slice_get}
use Rattle.pm_logic.specs.Problem.{Literal}
use Rattle.pm_logic.specs.Tableau.{Node, leaf, inner, Nodes, no_nodes, more_nodes, Tableau}
use Rattle.pm_calculus.specs.Substitution.{AreComplementary}
use Rattle.pm_calculus.specs.Connection.{literal_on, Level}
use Rattle.pm_calculus.specs.Skeleton.{face_of, Skeleton, unclosed, closed, extended, Skeletons, no_skeletons, more_skeletons, State, empty, rooted, is_closed, after_step}
use Rattle.pm_calculus.specs.Alternatives.{alternatives, after_choice}
use Rattle.pm_calculus.specs.Choices.{at_depth}

-- The skeleton is part of the tree. An unclosed leaf may be any node with its face, a closed one is
-- a leaf that is complementary to the ancestor that closes it, and what was extended is an inner
-- node with the same clause.
abbrev mutual
  pub AgreesBelow : List Literal → Skeleton → Node → Type 0
  AgreesBelow above (unclosed face) node = face ≡ face_of (literal_on node)
  AgreesBelow above (closed face ancestor) (leaf literal) =
      (face ≡ face_of literal) × IsSomeAnd (at_depth above ancestor) (AreComplementary literal)
  AgreesBelow above (extended face c trees) (inner literal clause children) =
      (face ≡ face_of literal) × (c ≡ clause) × AgreeAmong (above ++ literal ∷ []) trees children
  AgreesBelow above tree node = ⊥

  pub AgreeAmong : List Literal → Skeletons → Nodes → Type 0
  AgreeAmong above no_skeletons no_nodes = Unit {0}
  AgreeAmong above (more_skeletons tree trees) (more_nodes node nodes) =
      AgreesBelow above tree node × AgreeAmong above trees nodes
  AgreeAmong above trees nodes = ⊥

-- what was built is part of the tableau's tree
abbrev pub Agrees : State → Tableau → Type 0
Agrees empty tableau = Unit {0}
Agrees (rooted root trees) tableau = (root ≡ tableau.root) × AgreeAmong [] trees tableau.children

-- the alternative of this number agrees with the tree: after its step what is built is still part
-- of it
abbrev pub AlternativeAgrees : Level → Tableau → State → ℕ → Type 0
AlternativeAgrees level tableau state choice =
    IsSomeAnd (slice_get (alternatives level state) choice)
    (λ step. Agrees (after_step level.problem.clauses state step) tableau)

-- the least alternative that agrees with the tree
pub record IsLeastAlternative (level : Level) (tableau : Tableau) (state : State)
    (choice : ℕ) : Type 0 where
  pub agrees : AlternativeAgrees level tableau state choice
  pub least : (other : ℕ) → other < choice → ¬ AlternativeAgrees level tableau state other

-- From a state on each choice is the least alternative that agrees with the tree, up to where no
-- leaf is unclosed.
abbrev pub AreLeast : Level → Tableau → Option State → List ℕ → Type 0
AreLeast level tableau None choices = ⊥
AreLeast level tableau (Some state) [] = is_closed state ≡ true
AreLeast level tableau (Some state) (choice ∷ choices) =
    IsLeastAlternative level tableau state choice
    × AreLeast level tableau (after_choice level (Some state) choice) choices

-- The least list that the tableau follows: at each place the least alternative that agrees with its
-- tree. Only extensions agree with an inner node, and a leaf that no extension closed is closed by
-- the least reduction that agrees.
abbrev pub IsLeastList : Level → Tableau → List ℕ → Type 0
IsLeastList level tableau choices =
    (0 < length choices) × AreLeast level tableau (Some empty) choices
