-- What always holds while code is run, and what ties a run over cells to one over trees.
use Rattle.std.specs.Prelude.{◌≡◌, ℕ, ◌<◌, List, All, length}
use Rattle.pm_logic.specs.Term.{Term}
use Rattle.pm_store.specs.Solutions.{Solves}
use Rattle.pm_store.specs.Sound.{IsSound}
use Rattle.pm_run.specs.State.{CellLiteral, RunState}
use Rattle.pm_run.specs.Meaning.{IsSetTo}

-- the addresses are below this number
abbrev pub AreBelow : ℕ → List ℕ → Type 0
AreBelow count cells = All (λ c. c < count) cells

-- the addresses of the literal's arguments are below this number
abbrev pub HasArgsBelow : ℕ → CellLiteral → Type 0
HasArgsBelow count literal = AreBelow count literal.args

-- the addresses of the stack, the children and the branch are below this number
pub record HasCellsBelow (count : ℕ) (m : RunState) : Type 0 where
  pub stack : AreBelow count m.stack
  pub children : All (λ child. HasArgsBelow count child.literal) m.children
  pub branch : All (HasArgsBelow count) m.branch

-- the store is sound, and each address is one of its cells'
pub record IsInStore (m : RunState) : Type 0 where
  pub sound : IsSound m.equations
  pub locals : (x c : ℕ) → IsSetTo m x c → c < length m.equations.cells
  pub cells : HasCellsBelow (length m.equations.cells) m

-- the trees of cells solve the store, and those of the locals that are set are the variables'
pub record Stands (variables cells : ℕ → Term) (m : RunState) : Type 0 where
  pub solves : Solves m.equations cells
  pub agrees : (x c : ℕ) → IsSetTo m x c → cells c ≡ variables x

-- the trees are the same on so many first cells
abbrev pub AgreeBelow : ℕ → (ℕ → Term) → (ℕ → Term) → Type 0
AgreeBelow count trees others = (c : ℕ) → c < count → others c ≡ trees c
