-- What the machine has while it runs the code of a step, and what it has over trees.
use Rattle.std.specs.Prelude.{◌≡◌, ℕ, zero, suc, ◌+◌, Bool, true, List, [], ◌∷◌, ◌++◌, Option, Some, map, slice_get}
use Rattle.pm_logic.specs.Term.{Term}
use Rattle.pm_logic.specs.Problem.{Literal}
use Rattle.pm_store.specs.Equations.{Equations}

-- a literal whose arguments are cells
pub record CellLiteral : Type 0 where
  pub positive : Bool
  pub predicate : ℕ
  pub args : List ℕ

-- a child of the selected leaf, and whether its parent closes it
pub record Child : Type 0 where
  pub literal : CellLiteral
  pub closed : Bool

-- Each variable of the clause has a local, which is set to a cell or not yet. The stack has its top
-- first. The branch has the literals from depth 1 to the selected leaf. The leaf is closed by the
-- ancestor at a depth, or not.
pub record RunState : Type 0 where
  pub locals : List (Option ℕ)
  pub equations : Equations
  pub stack : List ℕ
  pub children : List Child
  pub branch : List CellLiteral
  pub closed_by : Option ℕ

-- a child with its literal over trees
pub record TreeChild : Type 0 where
  pub literal : Literal
  pub closed : Bool

-- what the machine has, with trees in the place of cells
pub record TreeState : Type 0 where
  pub stack : List Term
  pub children : List TreeChild
  pub branch : List Literal
  pub closed_by : Option ℕ

-- a cell literal over the trees of its cells
abbrev pub literal_under : (ℕ → Term) → CellLiteral → Literal
literal_under trees l =
    record { positive = l.positive; predicate = l.predicate; args = map trees l.args }

-- a child over the trees of its cells
abbrev pub child_under : (ℕ → Term) → Child → TreeChild
child_under trees child =
    record { literal = literal_under trees child.literal; closed = child.closed }

-- what the machine has, over the trees of its cells
abbrev pub state_under : (ℕ → Term) → RunState → TreeState
state_under trees m = record {
  stack = map trees m.stack;
  children = map (child_under trees) m.children;
  branch = map (literal_under trees) m.branch;
  closed_by = m.closed_by;
}

-- the list with the item at this place changed
abbrev pub with_changed : {A : Type 0} → ℕ → (A → A) → List A → List A
with_changed n change [] = []
with_changed zero change (x ∷ xs) = change x ∷ xs
with_changed (suc n) change (x ∷ xs) = x ∷ with_changed n change xs

-- the child, closed by its parent
abbrev pub closed_child : Child → Child
closed_child child = record { literal = child.literal; closed = true }

-- the same over trees
abbrev pub closed_tree_child : TreeChild → TreeChild
closed_tree_child child = record { literal = child.literal; closed = true }

-- the leaf is the last of the branch, and has this ancestor at this depth, counted from 1
pub record IsAncestor {A : Type 0} (branch : List A) (depth : ℕ) (ancestor leaf : A) : Type 0 where
  pub above : List A
  pub place : ℕ
  pub all : branch ≡ above ++ leaf ∷ []
  pub at_depth : depth ≡ place + 1
  pub stands : slice_get above place ≡ Some ancestor
