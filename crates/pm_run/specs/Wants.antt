-- What code wants of trees: there is no store and there are no addresses.
use Rattle.std.specs.Prelude.{◌≡◌, ℕ, Bool, false, List, [], ◌∷◌, ◌++◌, Some, length, map, reverse}
use Rattle.pm_logic.specs.Term.{Term, app, as_terms}
use Rattle.pm_logic.specs.Problem.{Literal}
use Rattle.pm_logic.specs.Filling.{fill}
use Rattle.pm_calculus.specs.Substitution.{AreComplementary}
use Rattle.pm_compile.specs.Instructions.{Instruction, FIRST, AGAIN, MEET, GROUND, NEW, PUSH, MAKE, CONST, GOAL, BODY, RETURN, CLOSE, REDUCE, DONE}
use Rattle.pm_run.specs.State.{TreeChild, TreeState, with_changed, closed_tree_child, IsAncestor}
use Rattle.pm_run.specs.Turns.{InTurn}

-- the term is popped
abbrev pub Pops : Term → TreeState → TreeState → Type 0
Pops t state next = (rest : List Term) × (state.stack ≡ t ∷ rest)
    × (next ≡ record state { stack = rest })

-- the term is pushed
abbrev pub Pushes : Term → TreeState → TreeState → Type 0
Pushes t state next = next ≡ record state { stack = t ∷ state.stack }

-- an application of the symbol is popped, and its arguments are pushed, the last first
abbrev pub Opens : ℕ → ℕ → TreeState → TreeState → Type 0
Opens f n state next = (args rest : List Term) × (length args ≡ n)
    × (state.stack ≡ app f (as_terms args) ∷ rest) × (next ≡ record state { stack = args ++ rest })

-- so many arguments are popped, the last first, and their application is pushed
abbrev pub Builds : ℕ → ℕ → TreeState → TreeState → Type 0
Builds f n state next = (args rest : List Term) × (length args ≡ n)
    × (state.stack ≡ reverse args ++ rest)
    × (next ≡ record state { stack = app f (as_terms args) ∷ rest })

-- a child whose parent doesn't close it
abbrev pub open_child : Bool → ℕ → List Term → TreeChild
open_child positive p args = record {
  literal = record { positive = positive; predicate = p; args = args };
  closed = false;
}

-- so many arguments are popped, the last first, and a child is appended with them
abbrev pub AppendsChild : Bool → ℕ → ℕ → TreeState → TreeState → Type 0
AppendsChild positive p n state next = (args rest : List Term) × (length args ≡ n)
    × (state.stack ≡ reverse args ++ rest)
    × (next
    ≡ record state {
      stack = rest;
      children = state.children ++ open_child positive p args ∷ [];
    })

-- the leaf is closed by its ancestor at this depth
abbrev pub Reduces : ℕ → TreeState → TreeState → Type 0
Reduces k state next = (ancestor leaf : Literal) × IsAncestor state.branch k ancestor leaf
    × AreComplementary leaf ancestor × (next ≡ record state { closed_by = Some k })

-- what an instruction wants, with these trees for the variables, where a body wants this
abbrev pub Asks : (ℕ → Term) → (ℕ → TreeState → TreeState → Type 0) → Instruction
    → TreeState → TreeState → Type 0
Asks trees body (FIRST x) state next = Pops (trees x) state next
Asks trees body (AGAIN x) state next = Pops (trees x) state next
Asks trees body (MEET f n) state next = Opens f n state next
Asks trees body (GROUND t) state next = Pops t state next
Asks trees body NEW state next = next ≡ state
Asks trees body (PUSH x) state next = Pushes (trees x) state next
Asks trees body (MAKE f n) state next = Builds f n state next
Asks trees body (CONST t) state next = Pushes t state next
Asks trees body (GOAL positive p n) state next = AppendsChild positive p n state next
Asks trees body (BODY c) state next = body c state next
Asks trees body RETURN state next = next ≡ state
Asks trees body (CLOSE j) state next =
    next ≡ record state { children = with_changed j closed_tree_child state.children }
Asks trees body (REDUCE k) state next = Reduces k state next
Asks trees body DONE state next = next ≡ state

-- a body performs no other body
abbrev pub NoBodyWants : ℕ → TreeState → TreeState → Type 0
NoBodyWants c state next = ⊥

-- what the body of a clause wants
abbrev pub BodyWants : (ℕ → Term) → (ℕ → List Instruction) → ℕ → TreeState → TreeState → Type 0
BodyWants trees bodies c state last = InTurn (Asks trees NoBodyWants) (bodies c) state last

-- what code wants, with these trees for the variables and this code for bodies: that it leads from
-- the first state to the last
abbrev pub Wants : (ℕ → Term) → (ℕ → List Instruction) → List Instruction
    → TreeState → TreeState → Type 0
Wants trees bodies code state last = InTurn (Asks trees (BodyWants trees bodies)) code state last

-- the terms are popped, and the code goes on from there
abbrev pub WantsUnder : (ℕ → Term) → (ℕ → List Instruction) → List Term → List Instruction
    → TreeState → TreeState → Type 0
WantsUnder trees bodies terms code state last = (rest : List Term)
    × (state.stack ≡ terms ++ rest)
    × Wants trees bodies code (record state { stack = rest }) last

-- a literal with trees for its variables
abbrev pub filled_literal : (ℕ → Term) → Literal → Literal
filled_literal trees literal = record {
  positive = literal.positive;
  predicate = literal.predicate;
  args = map (fill trees) literal.args;
}

-- the child that is appended for a literal of the clause
abbrev pub filled_child : (ℕ → Term) → Literal → TreeChild
filled_child trees literal = record { literal = filled_literal trees literal; closed = false }

-- a child is appended for each literal
abbrev pub with_filled : (ℕ → Term) → List Literal → TreeState → TreeState
with_filled trees literals state =
    record state { children = state.children ++ map (filled_child trees) literals }
