-- Code that never gets stuck: each of its instructions is done, or fails.
use Rattle.std.specs.Prelude.{◌≡◌, ℕ, suc, ◌+◌, ◌<◌, ◌≤◌, Bool, true, false, List, [], ◌∷◌, ◌++◌, Option, None, Some, length, slice_get}
use Rattle.std.specs.List.{range_with_len}
use Rattle.pm_compile.specs.Instructions.{Instruction, FIRST, AGAIN, MEET, GROUND, NEW, PUSH, MAKE, CONST, GOAL, BODY, RETURN, CLOSE, REDUCE, DONE}
use Rattle.pm_compile.specs.Scheme.{is_among, is_ground}
use Rattle.pm_run.specs.State.{RunState}

-- a local is there, and is set or not
abbrev pub IsLocal : Bool → Option (Option ℕ) → Type 0
IsLocal true local = (c : ℕ) × (local ≡ Some (Some c))
IsLocal false local = local ≡ Some None

-- there is a local for each of so many variables, those of these are set, and so many cells stand
-- on the stack
pub record Fits (vars : ℕ) (seen : List ℕ) (height : ℕ) (m : RunState) : Type 0 where
  pub locals : (x : ℕ) → x < vars → IsLocal (is_among x seen) (slice_get m.locals x)
  pub stack : length m.stack ≡ height

-- The code is ready to be run from its first instruction where the locals of these variables are
-- set, and so many cells stand on the stack: each instruction finds what it reads. The bodies are
-- ready where this holds of them, and this holds of the variables and of the stack in the end.
abbrev pub IsReady : ℕ → (ℕ → List ℕ → ℕ → Type 0) → (List ℕ → ℕ → Type 0)
    → List ℕ → ℕ → List Instruction → Type 0
IsReady vars body ends seen height [] = ends seen height
IsReady vars body ends seen height (FIRST x ∷ code) =
    (rest : ℕ) × (height ≡ suc rest) × (x < vars) × (is_among x seen ≡ false)
    × IsReady vars body ends (seen ++ x ∷ []) rest code
IsReady vars body ends seen height (AGAIN x ∷ code) =
    (rest : ℕ) × (height ≡ suc rest) × (x < vars) × (is_among x seen ≡ true)
    × IsReady vars body ends (seen ++ x ∷ []) rest code
IsReady vars body ends seen height (MEET f n ∷ code) =
    (rest : ℕ) × (height ≡ suc rest) × IsReady vars body ends seen (n + rest) code
IsReady vars body ends seen height (GROUND t ∷ code) =
    (rest : ℕ) × (height ≡ suc rest) × (is_ground t ≡ true)
    × IsReady vars body ends seen rest code
IsReady vars body ends seen height (NEW ∷ code) =
    IsReady vars body ends (range_with_len 0 vars) height code
IsReady vars body ends seen height (PUSH x ∷ code) =
    (x < vars) × (is_among x seen ≡ true) × IsReady vars body ends seen (suc height) code
IsReady vars body ends seen height (MAKE f n ∷ code) =
    (rest : ℕ) × (height ≡ n + rest) × IsReady vars body ends seen (suc rest) code
IsReady vars body ends seen height (CONST t ∷ code) =
    (is_ground t ≡ true) × IsReady vars body ends seen (suc height) code
IsReady vars body ends seen height (GOAL positive p n ∷ code) =
    (rest : ℕ) × (height ≡ n + rest) × IsReady vars body ends seen rest code
IsReady vars body ends seen height (BODY c ∷ code) =
    body c seen height × IsReady vars body ends seen height code
IsReady vars body ends seen height (RETURN ∷ code) = IsReady vars body ends seen height code
IsReady vars body ends seen height (CLOSE j ∷ code) = IsReady vars body ends seen height code
IsReady vars body ends seen height (REDUCE k ∷ code) = ⊥
IsReady vars body ends seen height (DONE ∷ code) = IsReady vars body ends seen height code

-- a body performs no other body
abbrev pub NoBodyIsReady : ℕ → List ℕ → ℕ → Type 0
NoBodyIsReady c seen height = ⊥

-- in the end these variables are set, and so many cells stand on the stack
abbrev pub EndsWith : List ℕ → ℕ → List ℕ → ℕ → Type 0
EndsWith seen height seen' height' = (seen' ≡ seen) × (height' ≡ height)

-- one of so many bodies, of which each leaves the locals and the height of the stack as they were
abbrev pub BodyIsReady : ℕ → ℕ → (ℕ → List Instruction) → ℕ → List ℕ → ℕ → Type 0
BodyIsReady count vars bodies c seen height =
    (c < count)
    × IsReady vars NoBodyIsReady (EndsWith seen height) seen height (bodies c)

-- nothing is said of the end
abbrev pub EndsAnyhow : List ℕ → ℕ → Type 0
EndsAnyhow seen height = Unit {0}

-- the state has what code needs that is ready
abbrev pub IsReadyIn : ℕ → (ℕ → List ℕ → ℕ → Type 0) → (List ℕ → ℕ → Type 0)
    → List Instruction → RunState → Type 0
IsReadyIn vars body ends code m =
    (seen : List ℕ) × (height : ℕ) × Fits vars seen height m
    × IsReady vars body ends seen height code

-- what the instruction reads is there: the local, and so many cells on the stack
abbrev pub Finds : Instruction → List (Option ℕ) → ℕ → Type 0
Finds (FIRST x) locals height = (0 < height) × (slice_get locals x ≡ Some None)
Finds (AGAIN x) locals height =
    (0 < height) × ((c : ℕ) × (slice_get locals x ≡ Some (Some c)))
Finds (MEET f n) locals height = 0 < height
Finds (GROUND t) locals height = (0 < height) × (is_ground t ≡ true)
Finds (PUSH x) locals height = (c : ℕ) × (slice_get locals x ≡ Some (Some c))
Finds (MAKE f n) locals height = n ≤ height
Finds (CONST t) locals height = is_ground t ≡ true
Finds (GOAL positive p n) locals height = n ≤ height
Finds (BODY c) locals height = ⊥
Finds (REDUCE k) locals height = ⊥
Finds i locals height = Unit {0}
