-- The alternatives of a machine's state as the code counts and finds them.
use Rattle.std.specs.Prelude.{◌≡◌, ℕ, ◌<◌, Bool, nat_lt, List, Some, length}
use Rattle.pm_logic.specs.declared.tableau.BoundKind.{BoundKind}
use Rattle.pm_logic.specs.declared.tableau.BoundKind.TheVariants.{Depth, Inferences}
use Rattle.pm_calculus.specs.Alternatives.{alternatives, state_after}
use Rattle.pm_machine.specs.Value.{MachineValue, skeleton}
use Rattle.pm_tab.specs.Searched.{Searched, level_of}

-- there is room for an extension of a leaf at this depth, where there are so many instances
abbrev pub has_room_for : BoundKind → ℕ → ℕ → ℕ → Bool
has_room_for Depth instances depth bound = nat_lt depth bound
has_room_for Inferences instances depth bound = nat_lt instances bound

-- at some level this is the number of an alternative
abbrev pub IsNumberAt : Searched → MachineValue → ℕ → Type 0
IsNumberAt searched m k =
    (level : ℕ) × (k < length (alternatives (level_of searched level) (skeleton m)))

-- at some level this is the number of all alternatives
abbrev pub IsWidthAt : Searched → MachineValue → ℕ → Type 0
IsWidthAt searched m width =
    (level : ℕ) × (width ≡ length (alternatives (level_of searched level) (skeleton m)))

-- some choices at some level build what the machine has built
abbrev pub IsChosen : Searched → MachineValue → Type 0
IsChosen searched m =
    (level : ℕ) × (choices : List ℕ)
    × (state_after (level_of searched level) choices ≡ Some (skeleton m))
