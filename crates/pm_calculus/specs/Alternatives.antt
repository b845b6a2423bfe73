-- The numbered alternatives of a state, and the steps and states that a list of choices names.
use Rattle.std.specs.Prelude.{◌≡◌, ℕ, ◌+◌, ◌-◌, ◌<◌, ◌≤◌, Bool, true, cond, not, ◌&&◌, ◌==◌, nat_lt, List, [], ◌∷◌, ◌++◌, length, map, fold, Option, Some, None, IsSomeAnd, option_map, slice_get}
use Rattle.std.specs.List.{range_with_len}
use Rattle.pm_logic.specs.declared.tableau.BoundKind.{BoundKind}
use Rattle.pm_logic.specs.declared.tableau.BoundKind.TheVariants.{Depth, Inferences}
use Rattle.pm_logic.specs.Lists.{places}
use Rattle.pm_logic.specs.Problem.{Literal, Clause, start_clauses}
use Rattle.pm_calculus.specs.Connection.{Level}
use Rattle.pm_calculus.specs.Skeleton.{Face, State, empty, rooted, Step, start, extend, reduce, Subgoal, depth_of, instances_built, selected, after_step, built}

-- the reductions of a leaf: one for each ancestor, whatever its literal is
abbrev pub reductions : Subgoal → List Step
reductions leaf = map reduce (range_with_len 1 (depth_of leaf - 1))

-- the literal has this face
abbrev pub has_face : Face → Literal → Bool
has_face face literal =
    cond face.positive literal.positive (not literal.positive)
    && (face.predicate == literal.predicate)

-- the other sign, the same predicate
abbrev pub opposite : Face → Face
opposite face = record { positive = not face.positive; predicate = face.predicate }

-- a literal of a clause, by their indices
pub record Head : Type 0 where
  pub clause : ℕ
  pub literal : ℕ

-- The literals with a face in the clauses from this index on, by clause and then by literal.
abbrev pub heads_from : Face → ℕ → List Clause → List Head
heads_from face from [] = []
heads_from face from (c ∷ cs) =
    map (λ j. record { clause = from; literal = j }) (places (has_face face) 0 c.literals)
    ++ heads_from face (from + 1) cs

abbrev pub heads : Face → List Clause → List Head
heads face clauses = heads_from face 0 clauses

abbrev pub extension_by : Head → Step
extension_by head = extend head.clause head.literal

-- the extensions of a leaf with this face: one by each literal with the opposite face
abbrev pub extensions : Face → List Clause → List Step
extensions face clauses = map extension_by (heads (opposite face) clauses)

-- What has to be below the bound for an extension of a leaf: the leaf's depth, or the number of
-- clause instances so far.
abbrev pub used : BoundKind → State → Subgoal → ℕ
used Depth state leaf = depth_of leaf
used Inferences state leaf = instances_built state

-- there is room for an extension of the leaf
abbrev pub has_room : Level → State → Subgoal → Bool
has_room level state leaf = nat_lt (used level.kind state leaf) level.bound

-- the alternatives for the selected leaf: its reductions and, where there is room, its extensions
abbrev pub alternatives_for : Level → State → Option Subgoal → List Step
alternatives_for level state None = []
alternatives_for level state (Some leaf) =
    reductions leaf
    ++ cond (has_room level state leaf) (extensions leaf.face level.problem.clauses) []

-- the alternatives, numbered from 0
abbrev pub alternatives : Level → State → List Step
alternatives level empty = map start (start_clauses level.start level.problem.clauses)
alternatives level (rooted root children) =
    alternatives_for level (rooted root children) (selected (rooted root children))

-- the state after one more choice; none, where the number is no alternative
abbrev pub after_choice : Level → Option State → ℕ → Option State
after_choice level None choice = None
after_choice level (Some state) choice =
    option_map (after_step level.problem.clauses state)
    (slice_get (alternatives level state) choice)

-- the state after these choices, if each number is an alternative of its place
abbrev pub state_after : Level → List ℕ → Option State
state_after level choices = fold (after_choice level) (Some empty) choices

-- the steps with the one that a choice names after them
abbrev pub with_choice : Level → Option (List Step) → ℕ → Option (List Step)
with_choice level None choice = None
with_choice level (Some steps) choice =
    option_map (λ step. steps ++ step ∷ [])
    (slice_get (alternatives level (built level.problem.clauses steps)) choice)

-- the steps that these choices name, if each number is an alternative of its place
abbrev pub steps_of : Level → List ℕ → Option (List Step)
steps_of level choices = fold (with_choice level) (Some []) choices

-- the clause and the literal of these indices are there, and the literal has the face
pub record IsHead (clauses : List Clause) (face : Face) (clause literal : ℕ) : Type 0 where
  pub its_clause : Clause
  pub stands : slice_get clauses clause ≡ Some its_clause
  pub its_literal : Literal
  pub has : slice_get its_clause.literals literal ≡ Some its_literal
  pub shows : has_face face its_literal ≡ true

-- A step may be taken at the selected leaf: an extension by a literal with the opposite face, or a
-- reduction with an ancestor.
abbrev pub IsStepAt : List Clause → Subgoal → Step → Type 0
IsStepAt clauses leaf (start clause) = ⊥
IsStepAt clauses leaf (extend clause literal) = IsHead clauses (opposite leaf.face) clause literal
IsStepAt clauses leaf (reduce ancestor) = (1 ≤ ancestor) × (ancestor < depth_of leaf)

-- a step may be taken at a state: a start with a clause at the beginning, and any other at the
-- selected leaf
abbrev pub MayTake : List Clause → State → Step → Type 0
MayTake clauses empty (start clause) = clause < length clauses
MayTake clauses empty step = ⊥
MayTake clauses (rooted root children) step =
    IsSomeAnd (selected (rooted root children)) (λ leaf. IsStepAt clauses leaf step)

-- each of the steps may be taken at what those before it build, the first of them at this state
abbrev pub MayTakeAll : List Clause → State → List Step → Type 0
MayTakeAll clauses state [] = Unit {0}
MayTakeAll clauses state (step ∷ steps) =
    MayTake clauses state step × MayTakeAll clauses (after_step clauses state step) steps
