-- The tree that steps build, with no terms: its nodes, the selected leaf, and what a step makes of
-- it.
use Rattle.std.specs.Prelude.{ℕ, zero, suc, ◌+◌, Bool, true, false, cond, ◌&&◌, List, [], ◌∷◌, ◌++◌, length, fold, Option, Some, None, slice_get}
use Rattle.std.specs.Option.{option_map_or}
use Rattle.pm_logic.specs.Problem.{Literal, Clause}

-- what a node shows before any terms are known: a sign and a predicate
pub record Face : Type 0 where
  pub positive : Bool
  pub predicate : ℕ

abbrev pub face_of : Literal → Face
face_of literal = record { positive = literal.positive; predicate = literal.predicate }

-- Each node has the face of its literal. A leaf is unclosed, or closed by the ancestor at a depth.
-- A node that was extended has a clause, and children.
mutual
  pub data Skeleton : Type 0 where
    unclosed : Face → Skeleton
    closed : Face → ℕ → Skeleton
    extended : Face → ℕ → Skeletons → Skeleton

  pub data Skeletons : Type 0 where
    no_skeletons : Skeletons
    more_skeletons : Skeleton → Skeletons → Skeletons

-- what steps have built so far: nothing, or a root's clause and the trees below it
pub data State : Type 0 where
  empty : State
  rooted : ℕ → Skeletons → State

-- no leaf is unclosed
abbrev mutual
  pub is_closed_below : Skeleton → Bool
  is_closed_below (unclosed face) = false
  is_closed_below (closed face ancestor) = true
  is_closed_below (extended face clause children) = are_closed_below children

  pub are_closed_below : Skeletons → Bool
  are_closed_below no_skeletons = true
  are_closed_below (more_skeletons first others) = is_closed_below first && are_closed_below others

-- the same of a state; where nothing is built there is no leaf
abbrev pub is_closed : State → Bool
is_closed empty = true
is_closed (rooted root children) = are_closed_below children

-- how many nodes were extended
abbrev mutual
  pub extended_below : Skeleton → ℕ
  extended_below (unclosed face) = 0
  extended_below (closed face ancestor) = 0
  extended_below (extended face clause children) = 1 + extended_among children

  pub extended_among : Skeletons → ℕ
  extended_among no_skeletons = 0
  extended_among (more_skeletons first others) = extended_below first + extended_among others

-- the number of clause instances that were built, the root's among them
abbrev pub instances_built : State → ℕ
instances_built empty = 0
instances_built (rooted root children) = 1 + extended_among children

-- a leaf that is to be closed: its face, and the faces of its ancestors, the one at depth 1 first
pub record Subgoal : Type 0 where
  pub above : List Face
  pub face : Face

-- how deep the leaf lies
abbrev pub depth_of : Subgoal → ℕ
depth_of leaf = length leaf.above + 1

-- the selected leaf: the first unclosed one, in pre-order
abbrev mutual
  pub selected_below : List Face → Skeleton → Option Subgoal
  selected_below above (unclosed face) = Some (record { above = above; face = face })
  selected_below above (closed face ancestor) = None
  selected_below above (extended face clause children) =
      selected_among (above ++ face ∷ []) children

  pub selected_among : List Face → Skeletons → Option Subgoal
  selected_among above no_skeletons = None
  selected_among above (more_skeletons first others) =
      cond (is_closed_below first) (selected_among above others) (selected_below above first)

abbrev pub selected : State → Option Subgoal
selected empty = None
selected (rooted root children) = selected_among [] children

-- the same tree, with something else in the place of the selected leaf
abbrev mutual
  pub filled_below : (Subgoal → Skeleton) → List Face → Skeleton → Skeleton
  filled_below made above (unclosed face) = made (record { above = above; face = face })
  filled_below made above (closed face ancestor) = closed face ancestor
  filled_below made above (extended face clause children) =
      extended face clause (filled_among made (above ++ face ∷ []) children)

  pub filled_among : (Subgoal → Skeleton) → List Face → Skeletons → Skeletons
  filled_among made above no_skeletons = no_skeletons
  filled_among made above (more_skeletons first others) =
      cond (is_closed_below first)
      (more_skeletons first (filled_among made above others))
      (more_skeletons (filled_below made above first) others)

-- a clause's literals as leaves
abbrev pub leaves : List Literal → Skeletons
leaves [] = no_skeletons
leaves (l ∷ ls) = more_skeletons (unclosed (face_of l)) (leaves ls)

-- the same, with the leaf of one literal closed by its parent
abbrev pub leaves_but : ℕ → ℕ → List Literal → Skeletons
leaves_but literal parent [] = no_skeletons
leaves_but zero parent (l ∷ ls) = more_skeletons (closed (face_of l) parent) (leaves ls)
leaves_but (suc literal) parent (l ∷ ls) =
    more_skeletons (unclosed (face_of l)) (leaves_but literal parent ls)

-- the literals of the clause of this index
abbrev pub literals_at : List Clause → ℕ → List Literal
literals_at clauses clause = option_map_or (λ c. c.literals) (slice_get clauses clause) []

-- the start with a clause, the extension by a literal of a clause, the reduction with the ancestor
-- at a depth
pub data Step : Type 0 where
  start : ℕ → Step
  extend : ℕ → ℕ → Step
  reduce : ℕ → Step

-- what an extension makes of a leaf
abbrev pub extension : List Clause → ℕ → ℕ → Subgoal → Skeleton
extension clauses clause literal leaf =
    extended leaf.face clause (leaves_but literal (depth_of leaf) (literals_at clauses clause))

-- what a reduction makes of a leaf
abbrev pub reduction : ℕ → Subgoal → Skeleton
reduction ancestor leaf = closed leaf.face ancestor

-- what a step builds; elsewhere than at its place it changes nothing
abbrev pub after_step : List Clause → State → Step → State
after_step clauses empty (start clause) = rooted clause (leaves (literals_at clauses clause))
after_step clauses (rooted root children) (extend clause literal) =
    rooted root (filled_among (extension clauses clause literal) [] children)
after_step clauses (rooted root children) (reduce ancestor) =
    rooted root (filled_among (reduction ancestor) [] children)
after_step clauses state step = state

-- what steps build, one after another
abbrev pub built : List Clause → List Step → State
built clauses steps = fold (after_step clauses) empty steps

-- A node by itself: how deep it lies, its face, its clause where it was extended, and where it is a
-- closed leaf the depth of the ancestor that closes it.
pub record SkeletonNode : Type 0 where
  pub depth : ℕ
  pub face : Face
  pub clause : Option ℕ
  pub closed_by : Option ℕ

-- the nodes in pre-order, the first of them at this depth
abbrev mutual
  pub nodes_below : ℕ → Skeleton → List SkeletonNode
  nodes_below at_depth (unclosed face) =
      record { depth = at_depth; face = face; clause = None; closed_by = None } ∷ []
  nodes_below at_depth (closed face ancestor) =
      record { depth = at_depth; face = face; clause = None; closed_by = Some ancestor } ∷ []
  nodes_below at_depth (extended face clause children) =
      record { depth = at_depth; face = face; clause = Some clause; closed_by = None }
      ∷ nodes_among (at_depth + 1) children

  pub nodes_among : ℕ → Skeletons → List SkeletonNode
  nodes_among at_depth no_skeletons = []
  nodes_among at_depth (more_skeletons first others) =
      nodes_below at_depth first ++ nodes_among at_depth others

-- the nodes of a state in pre-order, the root's children at depth 1
abbrev pub nodes_of : State → List SkeletonNode
nodes_of empty = []
nodes_of (rooted root children) = nodes_among 1 children
