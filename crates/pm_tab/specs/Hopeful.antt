-- Which steps aren't hopeless at sight.
use Rattle.std.specs.Prelude.{◌≡◌, ℕ, ◌<◌, ◌≤◌, ◌⊎◌, not, List, length, ⊤, IsSomeAnd, option_map, slice_get}
use Rattle.pm_logic.specs.Problem.{Clause}
use Rattle.pm_store.specs.Equations.{Equations}
use Rattle.pm_store.specs.Trees.{tree}
use Rattle.pm_calculus.specs.Connection.{Level}
use Rattle.pm_calculus.specs.Skeleton.{Step, start, extend, reduce, built}
use Rattle.pm_calculus.specs.Alternatives.{alternatives}
use Rattle.pm_contra.specs.Index.{top, top_at}
use Rattle.pm_run.specs.State.{CellLiteral}
use Rattle.pm_machine.specs.State.{CellNode, MachineState, IsSelected, IsAncestorAt}

-- opposite signs and the same predicate
pub record AreOpposite (literal other : CellLiteral) : Type 0 where
  pub sign : literal.positive ≡ not other.positive
  pub predicate : literal.predicate ≡ other.predicate

-- what argument q of a literal begins with
abbrev pub cell_top : Equations → CellLiteral → ℕ → ℕ
cell_top s literal q = top (option_map (tree s) (slice_get literal.args q))

-- both begin alike, or one of them with a variable
abbrev pub MayMatch : ℕ → ℕ → Type 0
MayMatch goal other = (goal ≡ 0) ⊎ (other ≡ 0) ⊎ (goal ≡ other)

-- A start is hopeful; a reduction where the ancestor has the opposite sign and the same predicate;
-- an extension where the first four arguments of leaf and literal may match by what they begin
-- with.
abbrev pub IsHopeful : List Clause → MachineState → Step → Type 0
IsHopeful clauses m (start c) = ⊤
IsHopeful clauses m (reduce k) =
    (before : List CellNode) (leaf : CellNode) (after : List CellNode) (ancestor : CellNode)
    → IsSelected m.nodes before leaf after → IsAncestorAt before k ancestor
    → AreOpposite ancestor.literal leaf.literal
IsHopeful clauses m (extend c j) =
    (before : List CellNode) (leaf : CellNode) (after : List CellNode) (q : ℕ)
    → IsSelected m.nodes before leaf after → q < 4
    → MayMatch (cell_top m.equations leaf.literal q)
    (top_at clauses q (record { clause = c; literal = j }))

-- the alternative of this number is hopeful
abbrev pub IsHopefulAt : Level → MachineState → ℕ → Type 0
IsHopefulAt level m k =
    IsSomeAnd (slice_get (alternatives level (built level.problem.clauses m.steps)) k)
    (IsHopeful level.problem.clauses m)

-- the least alternative from a number on that is hopeful, or the width, where there is none
pub record IsFirstHopeful (level : Level) (m : MachineState) (from first : ℕ) : Type 0 where
  pub beyond : from ≤ first
  pub within : first ≤ length (alternatives level (built level.problem.clauses m.steps))
  pub passed : (k : ℕ) → from ≤ k → k < first → ¬ IsHopefulAt level m k
  pub here :
      first < length (alternatives level (built level.problem.clauses m.steps))
      → IsHopefulAt level m first
