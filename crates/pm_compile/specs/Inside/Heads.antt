-- The head code that is still to come, and the variables that have occurred.
use Rattle.std.specs.Prelude.{◌≡◌, ℕ, ◌<◌, ◌≤◌, ◌==◌, List, [], ◌∷◌, ◌++◌, All, length, map, reverse, slice_index}
use Rattle.pm_logic.specs.Term.{Term, as_terms, tree_at}
use Rattle.pm_logic.specs.Problem.{Symbol}
use Rattle.pm_compile.specs.declared.heads.Seen.{Seen}
use Rattle.pm_compile.specs.declared.instr.Instr.{Instr}
use Rattle.pm_compile.specs.Instructions.{Instruction}
use Rattle.pm_compile.specs.Scheme.{is_among, head_code_among}
use Rattle.pm_compile.specs.Inside.Appended.{Appends}
use Rattle.pm_compile.specs.Inside.Ground.{IsRowOver}

-- each variable has a mark, which is of a head before this one
pub record IsReadyFor (terms : List Term) (head : ℕ) (seen : Seen) : Type 0 where
  pub count : length terms ≤ length seen.heads.items
  pub some : 0 < head
  pub before : All (λ h. h < head) seen.heads.items

-- these variables have occurred in the head
pub record HasSeen (seen : Seen) (variables : List ℕ) : Type 0 where
  pub begun : 0 < seen.head
  pub marks : (x : ℕ) → (slice_index seen.heads.items x == seen.head) ≡ is_among x variables
  pub past : All (λ h. h ≤ seen.head) seen.heads.items

-- the head code of the terms of these rows, after these variables
abbrev pub head_of : List Term → List ℕ → List ℕ → List Instruction
head_of terms before rows = head_code_among before (as_terms (map (tree_at terms) rows))

-- A row was dealt with: one instruction more, and the rest of its head code is that of what is
-- pending now.
pub record HeadStep (terms : List Term) (seen : Seen) (row : ℕ) (pending : List ℕ)
    (instrs : List Instr) (seen' : Seen) (pending' : List ℕ) (instrs' : List Instr)
    : Type 0 where
  pub first : Instruction
  pub appended : Appends terms instrs instrs' (first ∷ [])
  pub head : seen'.head ≡ seen.head
  pub count : length seen'.heads.items ≡ length seen.heads.items
  pub rest :
      (before : List ℕ) → HasSeen seen before
      → (after : List ℕ) × HasSeen seen' after
      × (first ∷ head_of terms after (reverse pending')
      ≡ head_of terms before (row ∷ reverse pending))

-- the pending rows are rows still, as each new one is
abbrev pub KeepsRows : List Symbol → List Term → List ℕ → List ℕ → Type 0
KeepsRows symbols terms pending pending' =
    All (IsRowOver symbols terms) pending → All (IsRowOver symbols terms) pending'

-- what stands of the head code, and what is to come of it
pub record ComesToHead (terms : List Term) (instrs instrs' : List Instr) (seen : Seen)
    (pending : List ℕ) (whole : List Instruction) : Type 0 where
  pub done : List Instruction
  pub appended : Appends terms instrs instrs' done
  pub before : List ℕ
  pub marked : HasSeen seen before
  pub left : done ++ head_of terms before (reverse pending) ≡ whole
