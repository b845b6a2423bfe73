-- The building code that is still to come.
use Rattle.std.specs.Prelude.{◌≡◌, ℕ, ◌+◌, ◌*◌, ◌<◌, List, [], ◌∷◌, ◌++◌, All, length}
use Rattle.pm_logic.specs.Term.{Term, tree_at}
use Rattle.pm_logic.specs.Problem.{Symbol}
use Rattle.pm_compile.specs.declared.building.Place.{Place}
use Rattle.pm_compile.specs.declared.building.Place.TheVariants.{Build, Made}
use Rattle.pm_compile.specs.declared.instr.Instr.{Instr}
use Rattle.pm_compile.specs.Instructions.{Instruction, MAKE}
use Rattle.pm_compile.specs.Scheme.{building_code}
use Rattle.pm_compile.specs.Inside.Appended.{Appends}
use Rattle.pm_compile.specs.Inside.Ground.{IsRowOver}

abbrev pub place_code : List Term → Place → List Instruction
place_code terms (Build row) = building_code (tree_at terms row)
place_code terms (Made f n) = MAKE f n ∷ []

-- the code of the places, of which the last is the next
abbrev pub places_code : List Term → List Place → List Instruction
places_code terms [] = []
places_code terms (place ∷ places) = places_code terms places ++ place_code terms place

-- an upper bound of the steps that a place takes
abbrev pub place_work : List Term → Place → ℕ
place_work terms (Build row) = 2 * length (building_code (tree_at terms row))
place_work terms (Made f n) = 1

abbrev pub work : List Term → List Place → ℕ
work terms [] = 0
work terms (place ∷ places) = place_work terms place + work terms places

abbrev pub IsPlaceOver : List Symbol → List Term → Place → Type 0
IsPlaceOver symbols terms (Build row) = IsRowOver symbols terms row
IsPlaceOver symbols terms (Made f n) = Unit {0}

-- places to build the terms of these rows, the first of them next
abbrev pub builds : List ℕ → List Place
builds [] = []
builds (row ∷ rows) = builds rows ++ Build row ∷ []

-- a place was dealt with: what it and those pending come to stays, with less work left
pub record BuildStep (symbols : List Symbol) (terms : List Term) (place : Place)
    (pending : List Place) (instrs : List Instr) (pending' : List Place)
    (instrs' : List Instr) : Type 0 where
  pub some : List Instruction
  pub appended : Appends terms instrs instrs' some
  pub rest :
      some ++ places_code terms pending' ≡ place_code terms place ++ places_code terms pending
  pub less : work terms pending' < place_work terms place + work terms pending
  pub places :
      All (IsPlaceOver symbols terms) pending → All (IsPlaceOver symbols terms) pending'

-- what stands of the code, and what is to come of it
pub record ComesToBuilt (terms : List Term) (instrs instrs' : List Instr)
    (pending : List Place) (whole : List Instruction) : Type 0 where
  pub done : List Instruction
  pub appended : Appends terms instrs instrs' done
  pub left : done ++ places_code terms pending ≡ whole
