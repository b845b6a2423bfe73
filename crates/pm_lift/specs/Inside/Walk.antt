-- The same list, read off the nodes in pre-order.
use Rattle.std.specs.Prelude.{ℕ, zero, suc, ◌+◌, ◌-◌, Bool, true, false, cond, ◌==◌, List, [], ◌∷◌, ◌++◌, map, take, Option, Some, None}
use Rattle.pm_logic.specs.declared.tableau.NodeKind.{NodeKind}
use Rattle.pm_logic.specs.declared.tableau.NodeKind.TheVariants.{Leaf, Inner}
use Rattle.pm_logic.specs.Problem.{Literal, Clause}
use Rattle.pm_logic.specs.Tableau.{Entry, childless}
use Rattle.pm_lift.specs.Inside.Tree.{is_closing, reduction_choice, extension_choice}

-- an inner node of the branch, and whether the leaf that its extension closes is still to come
pub record Ancestor : Type 0 where
  pub literal : Literal
  pub waits : Bool

abbrev pub literals_of : List Ancestor → List Literal
literals_of branch = map (λ a. a.literal) branch

-- the last node of the branch, if it waits
abbrev pub waiting : List Ancestor → Option Literal
waiting [] = None
waiting (a ∷ []) = cond a.waits (Some a.literal) None
waiting (a ∷ b ∷ bs) = waiting (b ∷ bs)

-- the branch whose last node no longer waits
abbrev pub answered : List Ancestor → List Ancestor
answered [] = []
answered (a ∷ []) = record { literal = a.literal; waits = false } ∷ []
answered (a ∷ b ∷ bs) = a ∷ answered (b ∷ bs)

-- how many nodes at this depth come before the first leaf there that is complementary to the parent
abbrev pub closing_at : Literal → ℕ → List Entry → ℕ
closing_at parent at_depth [] = zero
closing_at parent at_depth (e ∷ es) =
    cond (e.depth == at_depth)
    (cond (is_closing (Some parent) (childless e.literal e.kind))
    zero
    (suc (closing_at parent at_depth es)))
    (closing_at parent at_depth es)

-- what a leaf adds below a branch
abbrev pub leaf_choices : List Ancestor → Literal → List ℕ
leaf_choices above literal =
    cond (is_closing (waiting above) (childless literal Leaf))
    []
    (reduction_choice (literals_of above) literal ∷ [])

-- the branch after it
abbrev pub after_leaf : List Ancestor → Literal → List Ancestor
after_leaf above literal =
    cond (is_closing (waiting above) (childless literal Leaf)) (answered above) above

-- the branch after an inner node
abbrev pub after_inner : List Ancestor → Literal → List Ancestor
after_inner above literal = above ++ record { literal = literal; waits = true } ∷ []

-- what a node at a depth adds below a branch, when these nodes come after it
abbrev pub added_by : List Clause → List Ancestor → ℕ → Literal → NodeKind → List Entry → List ℕ
added_by clauses above at_depth literal Leaf later = leaf_choices above literal
added_by clauses above at_depth literal (Inner clause) later =
    extension_choice clauses (literals_of above) literal clause
    (closing_at literal (at_depth + 1) later)
    ∷ []

-- the branch after a node
abbrev pub branch_after : List Ancestor → Literal → NodeKind → List Ancestor
branch_after above literal Leaf = after_leaf above literal
branch_after above literal (Inner clause) = after_inner above literal

-- the choices for nodes in pre-order, the first of them below the last node of a branch or below
-- one above that
abbrev pub walk : List Clause → List Ancestor → List Entry → List ℕ
walk clauses branch [] = []
walk clauses branch (e ∷ es) =
    let above : List Ancestor = take (e.depth - 1) branch in
    added_by clauses above e.depth e.literal e.kind es
    ++ walk clauses (branch_after above e.literal e.kind) es
