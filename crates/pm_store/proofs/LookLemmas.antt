-- What is read at the end of the bindings from a cell.
use Rattle.std.proofs.Common.{◌≡◌, ℕ, ◌+◌, ◌-◌, ◌<◌, ◌≤◌, List, length, map, take, drop, get_or, Some, None, slice_get, refl, sym, ◌∙◌, ap, ap₂, subst, arith}
use Rattle.std.specs.Prelude.{All}
use Rattle.std.proofs.lemmas.List.{get_or-map}
use Rattle.std.proofs.lemmas.List.Elements.{All-weaker}
use Rattle.std.proofs.lemmas.Option.{slice_get_read, slice_get_within, slice_get-map}
use Rattle.std.specs.Option.{option_map}
use Rattle.pm_logic.specs.Term.{Term, app, as_terms}
use Rattle.pm_store.specs.declared.slots.Slot.{Slot}
use Rattle.pm_store.specs.declared.slots.Slot.TheVariants.{Unbound, Bound, Made}
use Rattle.pm_store.specs.Entries.{Entry, Variable, Application}
use Rattle.pm_store.specs.Equations.{Equations, target_of, end_of}
use Rattle.pm_store.specs.Solutions.{Solves}
use Rattle.pm_store.specs.Sound.{PointsBelow, IsSound}
use Rattle.pm_store.specs.Inside.Stored.{target_at}
use Rattle.pm_store.specs.Inside.Slots.{entry_of, target_in, targets_of, start_in, count_in, flat_equations, IsFlat}
use Rattle.pm_store.proofs.SlotLemmas.{laid_at}
use Rattle.pm_store.proofs.FlatLemmas.{count_of}
use Rattle.pm_store.proofs.TreeLemmas.{points_below}
use Rattle.pm_store.proofs.BindingLemmas.{end_of-solved, end_of-target, target_within, steps, steps-target}

module _ (slots : List Slot) (args trail : List ℕ) (s : Equations) (view : flat_equations slots args trail ≡ s) (flat : IsFlat slots args trail)
    (place cell : ℕ) (same : place ≡ cell) (within : cell < length s.cells) where
  pub place_within : place < length slots
  place_within = omega (arith, same, count_of slots args trail s view)

  -- what stands at a cell's place
  module _ (slot : Slot) (read : slot ≡ get_or slots place slot) where
    slot_there : slice_get slots place ≡ Some slot
    slot_there = slice_get_read slots (length slots) place slot refl place_within read

    pub read_target : target_of s.bindings cell ≡ target_in slot
    read_target =
        ap (λ (e : Equations). target_of e.bindings cell) (sym view) ∙ sym (flat.stored.agree cell) ∙ ap (target_at (targets_of slots)) (sym same)
        ∙ get_or-map target_in slots place slot None place_within ∙ ap target_in (sym read)

    pub read_cell : slice_get s.cells cell ≡ Some (entry_of args slot)
    read_cell =
        subst (λ (n : ℕ). slice_get s.cells n ≡ Some (entry_of args slot)) same
        (subst (λ (e : Equations). slice_get e.cells place ≡ Some (entry_of args slot)) view
        (slice_get-map (entry_of args) slots place ∙ ap (option_map (entry_of args)) slot_there))

    pub arguments_within : start_in slot + count_in slot ≤ length args
    arguments_within = laid_at 0 slots (length args) place slot flat.laid slot_there

-- a slot that is no application's is a variable's, and one that isn't bound has no target
pub variable_in : (args : List ℕ) (slot : Slot) → ((start symbol count : ℕ) → slot ≡ Made start symbol count → ⊥) → entry_of args slot ≡ Variable
variable_in args (Unbound start) other = refl
variable_in args (Bound start target) other = refl
variable_in args (Made start symbol count) other = absurd (other start symbol count refl)

pub no_target_in : (slot : Slot) → ((start target : ℕ) → slot ≡ Bound start target → ⊥) → target_in slot ≡ None
no_target_in (Unbound start) other = refl
no_target_in (Bound start target) other = absurd (other start target refl)
no_target_in (Made start symbol count) other = refl

-- the arguments from one number to another
pub part_is : (start count : ℕ) (all args : List ℕ) → all ≡ args → take (start + count - start) (drop start all) ≡ take count (drop start args)
part_is start count all args same =
    let counted : start + count - start ≡ count = omega arith in
    ap₂ (λ n xs. take n (drop start xs)) counted same

-- a bound variable's target
pub target_follows : (s : Equations) (a v t : ℕ) → IsSound s → end_of s.bindings v ≡ end_of s.bindings a → target_of s.bindings v ≡ Some t
    → (t < length s.cells) × (end_of s.bindings t ≡ end_of s.bindings a)
target_follows s a v t sound same bound =
    (target_within s.cells s.bindings v t sound.made bound, sym (end_of-target s.cells s.bindings v t sound.made bound) ∙ same)

pub target_nearer : (s : Equations) (v t : ℕ) → IsSound s → target_of s.bindings v ≡ Some t → steps s.bindings t < steps s.bindings v
target_nearer s v t sound bound = steps-target s.cells s.bindings v t sound.down sound.made bound

-- what a look at a cell ensures, where it ends at another
pub record Ends (s : Equations) (a c : ℕ) (entry : Entry) : Type 0 where
  pub end : c ≡ end_of s.bindings a
  pub unbound : target_of s.bindings c ≡ None
  pub stands : slice_get s.cells c ≡ Some entry

pub end_solved : (s : Equations) (a c : ℕ) (entry : Entry) → Ends s a c entry → (trees : ℕ → Term) → Solves s trees → trees a ≡ trees c
end_solved s a c entry found trees solves = end_of-solved s.bindings trees solves.bindings a ∙ ap trees (sym found.end)

pub application_solved : (s : Equations) (a c symbol : ℕ) (args shown : List ℕ) → Ends s a c (Application symbol args) → shown ≡ args
    → (trees : ℕ → Term) → Solves s trees → trees a ≡ app symbol (as_terms (map trees shown))
application_solved s a c symbol args shown found same trees solves =
    end_solved s a c (Application symbol args) found trees solves ∙ solves.applications c symbol args found.stands
    ∙ ap (λ (xs : List ℕ). app symbol (as_terms (map trees xs))) (sym same)

pub application_shown : (s : Equations) (a c symbol : ℕ) (args shown : List ℕ) → IsSound s → Ends s a c (Application symbol args) → shown ≡ args
    → (slice_get s.cells (end_of s.bindings a) ≡ Some (Application symbol shown)) × All (λ arg. arg < length s.cells) shown
application_shown s a c symbol args shown sound found same =
    let start : 0 + c ≡ c = omega arith in
    let below : All (λ arg. arg < c) args =
    subst (λ (n : ℕ). PointsBelow n (Application symbol args)) start (points_below 0 s.cells sound.down c (Application symbol args) found.stands) in
    let within : c < length s.cells = slice_get_within s.cells c (Application symbol args) found.stands in
    subst (λ (xs : List ℕ). (slice_get s.cells (end_of s.bindings a) ≡ Some (Application symbol xs)) × All (λ arg. arg < length s.cells) xs) (sym same) (
      ap (slice_get s.cells) (sym found.end) ∙ found.stands,
      All-weaker (λ arg. arg < c) (λ arg. arg < length s.cells) (λ arg lt. farther arg c (length s.cells) lt within) args below,
    )
  where
    farther : (m n k : ℕ) → m < n → n < k → m < k
    farther m n k lt lt' = omega arith
