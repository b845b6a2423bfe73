-- How cells are kept: each with its symbol or its target, and the arguments of all in one list.
use Rattle.std.specs.Prelude.{◌≡◌, ℕ, zero, suc, ◌+◌, List, [], ◌∷◌, Option, Some, None, length, map, take, drop}
use Rattle.pm_store.specs.declared.slots.Slot.{Slot}
use Rattle.pm_store.specs.declared.slots.Slot.TheVariants.{Unbound, Bound, Made}
use Rattle.pm_store.specs.Entries.{Entry, Variable, Application}
use Rattle.pm_store.specs.Equations.{Equations}
use Rattle.pm_store.specs.Inside.Stored.{equations_of, IsStored}

-- what the cell was made as; its arguments are a part of all of them
abbrev pub entry_of : List ℕ → Slot → Entry
entry_of all (Unbound start) = Variable
entry_of all (Bound start target) = Variable
entry_of all (Made start symbol count) = Application symbol (take count (drop start all))

abbrev pub entries_of : List ℕ → List Slot → List Entry
entries_of all slots = map (entry_of all) slots

-- what the cell is bound to
abbrev pub target_in : Slot → Option ℕ
target_in (Unbound start) = None
target_in (Bound start target) = Some target
target_in (Made start symbol count) = None

abbrev pub targets_of : List Slot → List (Option ℕ)
targets_of slots = map target_in slots

-- how many arguments there were before the cell
abbrev pub start_in : Slot → ℕ
start_in (Unbound start) = start
start_in (Bound start target) = start
start_in (Made start symbol count) = start

-- how many arguments the cell has
abbrev pub count_in : Slot → ℕ
count_in (Unbound start) = 0
count_in (Bound start target) = 0
count_in (Made start symbol count) = count

-- each cell's arguments begin where those of the cells before it end
abbrev pub AreLaid : ℕ → List Slot → ℕ → Type 0
AreLaid from [] end = from ≡ end
AreLaid from (s ∷ ss) end = (start_in s ≡ from) × AreLaid (from + count_in s) ss end

-- how many arguments there were before a cell, or all of them if it isn't there
abbrev pub start_at : List Slot → ℕ → ℕ → ℕ
start_at [] all cell = all
start_at (s ∷ ss) all zero = start_in s
start_at (s ∷ ss) all (suc cell) = start_at ss all cell

-- what is kept, as equations
abbrev pub flat_equations : List Slot → List ℕ → List ℕ → Equations
flat_equations slots args trail = equations_of (entries_of args slots) (targets_of slots) trail

-- the arguments lie in the order of their cells, and the bindings are kept
pub record IsFlat (slots : List Slot) (args trail : List ℕ) : Type 0 where
  pub laid : AreLaid 0 slots (length args)
  pub stored : IsStored (entries_of args slots) (targets_of slots) trail
