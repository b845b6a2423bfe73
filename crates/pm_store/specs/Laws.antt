-- Laws of solutions, and of marks.
use Rattle.std.specs.Prelude.{◌≡◌, ◌≢◌, ◌↔◌, ℕ, ◌<◌, ◌≤◌, List, Some, Contains, length, map, slice_get}
use Rattle.std.specs.List.{fold, flat_map}
use Rattle.pm_logic.specs.Term.{Term, var, tree_at}
use Rattle.pm_logic.specs.Variables.{variables, AreNumberedFrom}
use Rattle.pm_logic.specs.Filling.{fill, put}
use Rattle.pm_store.specs.Entries.{Entry}
use Rattle.pm_store.specs.Equations.{Equations, with_cell, with_binding, IsFree}
use Rattle.pm_store.specs.Solutions.{Solves, Narrows, with_tree}
use Rattle.pm_store.specs.Sound.{IsSound}
use Rattle.pm_store.specs.Trees.{tree, Occurs}
use Rattle.pm_store.specs.Marks.{Counts, counts_of, IsLater, HasMark, at_mark, IsEarlier, bound_since}
use Rattle.pm_store.specs.Resolved.{Resolved, row_of, IsResolved, numbered, with_variables}

-- the cells' trees solve the store
abbrev pub TreesSolve : Type 0
TreesSolve = (s : Equations) → IsSound s → Solves s (tree s)

-- in each solution the trees are instances of the cells' trees, by one tree for each variable
abbrev pub TreesAreGeneral : Type 0
TreesAreGeneral = (s : Equations) (solution : ℕ → Term) → IsSound s → Solves s solution
    → (c : ℕ) → c < length s.cells → solution c ≡ fill solution (tree s c)

-- a solution stays one with any tree for a cell that isn't there
abbrev pub OtherCellsAreOpen : Type 0
OtherCellsAreOpen = (s : Equations) (solution : ℕ → Term) (c : ℕ) (t : Term) → IsSound s
    → length s.cells ≤ c → Solves s solution
    → Solves s (with_tree solution c t)

-- what solves a store that has grown solves it as it was
abbrev pub LaterSolutions : Type 0
LaterSolutions = (before after : Equations) (trees : ℕ → Term) → IsLater before after
    → Solves after trees → Solves before trees

-- a free variable has itself for its tree
abbrev pub FreeVariablesStand : Type 0
FreeVariablesStand = (s : Equations) (v : ℕ) → IsSound s → IsFree s v → tree s v ≡ var v

-- the variables in the tree of a cell are free
abbrev pub TreesAreOfFreeVariables : Type 0
TreesAreOfFreeVariables = (s : Equations) (c v : ℕ) → IsSound s → c < length s.cells
    → Occurs v (tree s c) → IsFree s v

-- in a store that has grown, a cell has the tree that it had, with the new trees in the place of
-- its variables
abbrev pub LaterTrees : Type 0
LaterTrees = (before after : Equations) → IsSound before → IsSound after → IsLater before after
    → (c : ℕ) → c < length before.cells → tree after c ≡ fill (tree after) (tree before c)

-- what solves a store with one more binding solves it without, and makes both cells equal
abbrev pub BindingsNarrow : Type 0
BindingsNarrow = (s : Equations) (v t : ℕ) → Narrows s (with_binding s v t)
    (λ trees. trees v ≡ trees t)

-- a variable that was bound isn't free, now or later
abbrev pub BoundVariablesStay : Type 0
BoundVariablesStay = (s after : Equations) (v t : ℕ) → IsLater (with_binding s v t) after
    → ¬ IsFree after v

-- no solution gives a variable the tree of another term in which it occurs
abbrev pub CyclesHaveNoSolution : Type 0
CyclesHaveNoSolution = (s : Equations) (v t : ℕ) → IsSound s → t < length s.cells
    → Occurs v (tree s t) → tree s t ≢ var v
    → (solution : ℕ → Term) → Solves s solution → solution v ≢ solution t

-- the terms that a resolver has given for cells are those of one solution
abbrev pub ResolvedTermsSolve : Type 0
ResolvedTermsSolve = (s : Equations) (r : Resolved) (table : List Term) → IsSound s
    → IsResolved s r table
    → (solution : ℕ → Term) × Solves s solution × ((cell row : ℕ) → row_of r cell ≡ Some row
    → slice_get table row ≡ Some (solution cell))

-- in each solution the trees of these cells are instances of them, by the list of its trees of the
-- free variables
abbrev pub ResolvedTermsAreGeneral : Type 0
ResolvedTermsAreGeneral = (s : Equations) (r : Resolved) (table : List Term) (solution : ℕ → Term)
    → IsSound s → IsResolved s r table → Solves s solution
    → (cell row : ℕ) → cell < length s.cells → row_of r cell ≡ Some row
    → solution cell ≡ put (map solution r.free) (tree_at table row)

-- a store is later than itself, and with one more cell or binding later than before
pub record Grows (s : Equations) : Type 0 where
  pub unchanged : IsLater s s
  pub cell : (e : Entry) → IsLater s (with_cell s e)
  pub binding : (v t : ℕ) → IsLater s (with_binding s v t)

abbrev pub GrowthIsLater : Type 0
GrowthIsLater = (s : Equations) → Grows s

abbrev pub LaterIsTransitive : Type 0
LaterIsTransitive = (a b c : Equations) → IsLater a b → IsLater b c → IsLater a c

-- terms that a resolver numbers one after the other, on from some free variables, have the numbers
-- of new variables by first occurrence
abbrev pub NumberedByFirstOccurrence : Type 0
NumberedByFirstOccurrence = (free : List ℕ) (ts : List Term)
    → AreNumberedFrom (length free)
    (flat_map variables (map (fill (numbered (fold with_variables free ts))) ts))

-- a store that has grown has the marks that it had
abbrev pub MarksLast : Type 0
MarksLast = (s t : Equations) (mark : Counts) → IsLater s t → HasMark s mark → HasMark t mark

-- a store that has grown is at its mark as it was when it had so many cells and bindings
abbrev pub MarksRestore : Type 0
MarksRestore = (before s : Equations) (mark : Counts) → IsLater before s
    → mark ≡ counts_of before → at_mark s mark ≡ before

-- a store that has grown is at a mark as it was there before
abbrev pub MarksKeep : Type 0
MarksKeep = (s t : Equations) (mark : Counts) → IsLater s t → HasMark s mark
    → at_mark t mark ≡ at_mark s mark

-- a store at a mark has the earlier marks still, and is at each as it was
pub record Nests (s : Equations) (early late : Counts) : Type 0 where
  pub has : HasMark (at_mark s late) early
  pub same : at_mark (at_mark s late) early ≡ at_mark s early

abbrev pub MarksNest : Type 0
MarksNest = (s : Equations) (early late : Counts) → HasMark s early → HasMark s late
    → IsEarlier early late → Nests s early late

-- of the variables that were free at a mark, those bound since aren't free, and the others are
abbrev pub BoundSinceTells : Type 0
BoundSinceTells = (s : Equations) (mark : Counts) (v : ℕ) → HasMark s mark
    → IsFree (at_mark s mark) v
    → IsFree s v ↔ (¬ Contains (bound_since s mark) v)
