-- The least list of a tableau, read off its tree.
use Rattle.std.specs.Prelude.{ℕ, zero, suc, ◌+◌, Bool, false, cond, ◌&&◌, ◌||◌, ◌==◌, nat_lt, List, [], ◌∷◌, ◌++◌, length, Option, Some, None}
use Rattle.std.specs.List.{prefix_len, position_or_len}
use Rattle.pm_logic.specs.declared.problem.Start.{Start}
use Rattle.pm_logic.specs.Problem.{Literal, Clause, start_clauses}
use Rattle.pm_logic.specs.Tableau.{Node, leaf, inner, Nodes, no_nodes, more_nodes, Tableau}
use Rattle.pm_calculus.specs.Skeleton.{face_of}
use Rattle.pm_calculus.specs.Alternatives.{opposite, Head, heads}
use Rattle.pm_lift.specs.Inside.Complements.{complements}

-- The node is a leaf that the parent's extension closes. The parent is there as long as none of its
-- children was such a leaf.
abbrev pub is_closing : Option Literal → Node → Bool
is_closing None node = false
is_closing (Some parent) (leaf literal) = complements literal parent
is_closing (Some parent) (inner literal clause children) = false

-- the place among the children of the first leaf that is complementary to their parent
abbrev pub closing_place : Literal → Nodes → ℕ
closing_place parent no_nodes = zero
closing_place parent (more_nodes node nodes) =
    cond (is_closing (Some parent) node) zero (suc (closing_place parent nodes))

-- the place of the first ancestor that is complementary to a leaf
abbrev pub reduction_choice : List Literal → Literal → ℕ
reduction_choice above literal = position_or_len (complements literal) above

-- a head comes before another: by clause, and then by literal
abbrev pub is_before : Head → Head → Bool
is_before other head =
    nat_lt other.clause head.clause
    || ((other.clause == head.clause) && nat_lt other.literal head.literal)

-- how many heads come before this one
abbrev pub place_of_head : Head → List Head → ℕ
place_of_head head heads = prefix_len (λ other. is_before other head) heads

-- The number of the extension of a node of this literal by a clause and its literal: the reductions
-- come first.
abbrev pub extension_choice : List Clause → List Literal → Literal → ℕ → ℕ → ℕ
extension_choice clauses above literal clause place =
    length above
    + place_of_head
    (record { clause = clause; literal = place })
    (heads (opposite (face_of literal)) clauses)

-- the choices for the nodes in pre-order; a leaf that its parent's extension closes has none
abbrev mutual
  pub choices_below : List Clause → List Literal → Node → List ℕ
  choices_below clauses above (leaf literal) = reduction_choice above literal ∷ []
  choices_below clauses above (inner literal clause children) =
      extension_choice clauses above literal clause (closing_place literal children)
      ∷ choices_among clauses (above ++ literal ∷ []) (Some literal) children

  pub choices_among : List Clause → List Literal → Option Literal → Nodes → List ℕ
  choices_among clauses above parent no_nodes = []
  choices_among clauses above parent (more_nodes node nodes) =
      cond (is_closing parent node)
      (choices_among clauses above None nodes)
      (choices_below clauses above node ++ choices_among clauses above parent nodes)

-- the root's place among the start clauses
abbrev pub start_choice : List Clause → Start → ℕ → ℕ
start_choice clauses rule root =
    position_or_len (λ clause. clause == root) (start_clauses rule clauses)

-- the choices for the whole tableau
abbrev pub least_choices : List Clause → Start → Tableau → List ℕ
least_choices clauses rule tableau =
    start_choice clauses rule tableau.root ∷ choices_among clauses [] None tableau.children
