-- How what is kept of a store changes with a cell or a binding.
use Rattle.std.proofs.Common.{◌≡◌, ℕ, zero, suc, ◌<◌, List, [], ◌∷◌, ◌++◌, length, replicate, take, drop, set, get_or, Option, Some, None, slice_get, refl, sym, ◌∙◌, ap, ap₂, subst, arith, add-zero}
use Rattle.std.specs.Prelude.{All}
use Rattle.std.proofs.lemmas.List.{append-nil, append_assoc, length-append, length-map, length-take-le, map-append, map-set, take-map, get_or-map, get_or_read}
use Rattle.std.proofs.lemmas.Option.{slice_get_within, get_or_from_slice_get}
use Rattle.std.proofs.Math.Seq.{map-set_same}
use Rattle.pm_store.specs.declared.slots.Slot.{Slot}
use Rattle.pm_store.specs.declared.slots.Slot.TheVariants.{Unbound, Bound, Made}
use Rattle.pm_store.specs.Entries.{Entry, Variable, Application}
use Rattle.pm_store.specs.Equations.{Binding, Equations, with_cell, with_new_variables, with_binding}
use Rattle.pm_store.specs.Sound.{CanBind, IsSound}
use Rattle.pm_store.specs.Inside.Stored.{bindings_of, equations_of, IsStored}
use Rattle.pm_store.specs.Inside.Slots.{entry_of, entries_of, target_in, targets_of, start_in, count_in, start_at, AreLaid, flat_equations, IsFlat}
use Rattle.pm_store.proofs.StoredLemmas.{equations-push, IsStored-push, bound, unbound_more, unbound_variable}
use Rattle.pm_store.proofs.GrowthLemmas.{with_new_variables-next, with_new_variables-none}
use Rattle.pm_store.proofs.SlotLemmas.{laid_push, laid_set, laid_take, start_at-within, entries_of-push, entries_of-take}

-- what holds of the store that is seen
pub sound_of : (slots : List Slot) (args trail : List ℕ) (s : Equations) → flat_equations slots args trail ≡ s → IsFlat slots args trail → IsSound s
sound_of slots args trail s view flat = subst IsSound view flat.stored.sound

pub count_of : (slots : List Slot) (args trail : List ℕ) (s : Equations) → flat_equations slots args trail ≡ s → length slots ≡ length s.cells
count_of slots args trail s view = sym (length-map slots (entry_of args)) ∙ ap (λ (e : Equations). length e.cells) view

-- the arguments are cells of the store
pub args_below : (slots : List Slot) (args trail : List ℕ) (s : Equations) → flat_equations slots args trail ≡ s → (more : List ℕ)
    → All (λ arg. arg < length s.cells) more → All (λ arg. arg < length slots) more
args_below slots args trail s view more below = subst (λ (n : ℕ). All (λ arg. arg < n) more) (sym (count_of slots args trail s view)) below

module _ (slots : List Slot) (args trail : List ℕ) (flat : IsFlat slots args trail) where
  module _ (slots' : List Slot) (is : slots' ≡ slots ++ Unbound (length args) ∷ []) where
    variable_entries : entries_of args slots' ≡ entries_of args slots ++ Variable ∷ []
    variable_entries = ap (entries_of args) is ∙ map-append (entry_of args) slots (Unbound (length args) ∷ [])

    variable_targets : targets_of slots' ≡ targets_of slots ++ None ∷ []
    variable_targets = ap targets_of is ∙ map-append target_in slots (Unbound (length args) ∷ [])

    -- a variable is added
    pub variable_flat : IsFlat slots' args trail
    variable_flat = record {
      laid = subst (λ (ss : List Slot). AreLaid 0 ss (length args)) (sym is)
          (laid_push 0 slots (length args) (Unbound (length args)) (length args) flat.laid refl (add-zero (length args)));
      stored = IsStored-push (entries_of args slots) (entries_of args slots') (targets_of slots) (targets_of slots') trail Variable
          flat.stored tt variable_entries variable_targets;
    }

    pub variable_equations : flat_equations slots' args trail ≡ with_cell (flat_equations slots args trail) Variable
    variable_equations =
        equations-push (entries_of args slots) (entries_of args slots') (targets_of slots) (targets_of slots') trail Variable variable_entries variable_targets

  module _ (symbol : ℕ) (more : List ℕ) (slots' : List Slot) (args' : List ℕ) (is : slots' ≡ slots ++ Made (length args) symbol (length more) ∷ [])
      (longer : args' ≡ args ++ more) where
    application_entries : entries_of args' slots' ≡ entries_of args slots ++ Application symbol more ∷ []
    application_entries = ap₂ entries_of longer is ∙ entries_of-push slots args more symbol flat.laid

    application_targets : targets_of slots' ≡ targets_of slots ++ None ∷ []
    application_targets = ap targets_of is ∙ map-append target_in slots (Made (length args) symbol (length more) ∷ [])

    -- an application is added
    pub application_flat : All (λ arg. arg < length slots) more → IsFlat slots' args' trail
    application_flat below = record {
      laid = subst (λ (ss : List Slot). AreLaid 0 ss (length args')) (sym is)
          (laid_push 0 slots (length args) (Made (length args) symbol (length more)) (length args') flat.laid refl
          (sym (ap length longer ∙ length-append args more)));
      stored = IsStored-push (entries_of args slots) (entries_of args' slots') (targets_of slots) (targets_of slots') trail (Application symbol more)
          flat.stored (subst (λ (n : ℕ). All (λ arg. arg < n) more) (sym (length-map slots (entry_of args))) below) application_entries application_targets;
    }

    pub application_equations : flat_equations slots' args' trail ≡ with_cell (flat_equations slots args trail) (Application symbol more)
    application_equations =
        equations-push (entries_of args slots) (entries_of args' slots') (targets_of slots) (targets_of slots') trail (Application symbol more)
        application_entries application_targets

-- several variables are added, one by one
pub variables_flat : (count : ℕ) (slots : List Slot) (args trail : List ℕ) → IsFlat slots args trail
    → IsFlat (slots ++ replicate count (Unbound (length args))) args trail
    × (flat_equations (slots ++ replicate count (Unbound (length args))) args trail ≡ with_new_variables (flat_equations slots args trail) count)
variables_flat zero slots args trail flat =
    let none : slots ++ [] ≡ slots = append-nil slots in (
      subst (λ (ss : List Slot). IsFlat ss args trail) (sym none) flat,
      ap (λ ss. flat_equations ss args trail) none ∙ sym (with_new_variables-none (flat_equations slots args trail)),
    )
variables_flat (suc count) slots args trail flat =
    let new : Slot = Unbound (length args) in
    let next : List Slot = slots ++ new ∷ [] in
    let rest = variables_flat count next args trail (variable_flat slots args trail flat next refl) in
    let all : next ++ replicate count new ≡ slots ++ replicate (suc count) new = append_assoc slots (new ∷ []) (replicate count new) in (
      subst (λ (ss : List Slot). IsFlat ss args trail) all rest.0,
      ap (λ ss. flat_equations ss args trail) (sym all) ∙ rest.1
          ∙ ap (λ s. with_new_variables s count) (variable_equations slots args trail flat next refl)
          ∙ sym (with_new_variables-next (flat_equations slots args trail) count),
    )

pub variables_added : (slots : List Slot) (args trail : List ℕ) → IsFlat slots args trail → (slots' : List Slot) (count : ℕ)
    → slots' ≡ slots ++ replicate count (Unbound (length args))
    → IsFlat slots' args trail × (flat_equations slots' args trail ≡ with_new_variables (flat_equations slots args trail) count)
variables_added slots args trail flat slots' count is =
    subst (λ (ss : List Slot). IsFlat ss args trail × (flat_equations ss args trail ≡ with_new_variables (flat_equations slots args trail) count)) (sym is)
    (variables_flat count slots args trail flat)

-- a cell is kept otherwise, as a variable still
record IsPlaced (slots : List Slot) (args : List ℕ) (v : ℕ) (slot : Slot) : Type 0 where
  pub within : v < length slots
  pub laid : AreLaid 0 (set slots v slot) (length args)
  pub entries : entries_of args (set slots v slot) ≡ entries_of args slots
  pub targets : targets_of (set slots v slot) ≡ set (targets_of slots) v (target_in slot)

no_arguments : (args : List ℕ) (slot : Slot) → entry_of args slot ≡ Variable → count_in slot ≡ 0
no_arguments args (Unbound start) is = refl
no_arguments args (Bound start target) is = refl
no_arguments args (Made start symbol count) is = absurd (apart is)
  where
    apart : Application symbol (take count (drop start args)) ≡ Variable → ⊥
    apart e = cc

placed : (slots : List Slot) (args : List ℕ) (v : ℕ) (slot was : Slot) → AreLaid 0 slots (length args) → slice_get (entries_of args slots) v ≡ Some Variable
    → was ≡ get_or slots v was → start_in slot ≡ start_in was → entry_of args slot ≡ Variable → IsPlaced slots args v slot
placed slots args v slot was laid variable read start is =
    let within : v < length slots = omega (arith, slice_get_within (entries_of args slots) v Variable variable, length-map slots (entry_of args)) in
    let here : was ≡ get_or slots v slot = get_or_read slots v was within read slot in
    let entry : entry_of args was ≡ Variable =
    ap (entry_of args) read ∙ sym (get_or-map (entry_of args) slots v was Variable within)
    ∙ get_or_from_slice_get (entries_of args slots) v Variable Variable variable in
    record {
      within = within;
      laid = laid_set 0 slots (length args) v slot laid within (start ∙ ap start_in here)
          (no_arguments args slot is ∙ sym (no_arguments args was entry) ∙ ap count_in here);
      entries = map-set_same (entry_of args) slots v slot was (is ∙ sym entry ∙ ap (entry_of args) read);
      targets = map-set target_in slots v slot;
    }

placed_flat : (slots : List Slot) (args trail : List ℕ) (v : ℕ) (slot : Slot) → IsPlaced slots args v slot
    → IsStored (entries_of args slots) (set (targets_of slots) v (target_in slot)) trail → IsFlat (set slots v slot) args trail
placed_flat slots args trail v slot there stored = record {
  laid = there.laid;
  stored = subst (λ (es : List Entry). IsStored es (targets_of (set slots v slot)) trail) (sym there.entries)
      (subst (λ (ts : List (Option ℕ)). IsStored (entries_of args slots) ts trail) (sym there.targets) stored);
}

module _ (slots : List Slot) (args trail trail' : List ℕ) (v w start : ℕ) (was : Slot) (same : w ≡ v) (read : was ≡ get_or slots w was) (start_is : start ≡ start_in was) where
  -- a variable is bound
  pub bound_flat : (t : ℕ) (old : Equations) → IsFlat slots args trail → flat_equations slots args trail ≡ old → CanBind old v t → trail' ≡ trail ++ v ∷ []
      → IsFlat (set slots w (Bound start t)) args trail' × (flat_equations (set slots w (Bound start t)) args trail' ≡ with_binding old v t)
  bound_flat t old flat view can longer =
      let variable : slice_get (entries_of args slots) v ≡ Some Variable =
      subst (λ (s : Equations). slice_get s.cells v ≡ Some Variable) (sym view) can.free.variable in
      let there = placed slots args w (Bound start t) was flat.laid
      (subst (λ (n : ℕ). slice_get (entries_of args slots) n ≡ Some Variable) (sym same) variable) read start_is refl in
      let kept = bound (entries_of args slots) (targets_of slots) trail trail' v w t old flat.stored view can same longer in (
        placed_flat slots args trail' w (Bound start t) there kept.0,
        ap₂ (λ es ts. equations_of es ts trail') there.entries there.targets ∙ kept.1,
      )

  module _ (flat : IsFlat slots args trail') (longer : trail' ≡ trail ++ v ∷ []) where
    freed : IsPlaced slots args w (Unbound start)
    freed =
        placed slots args w (Unbound start) was flat.laid
        (unbound_variable (entries_of args slots) (targets_of slots) trail trail' v w flat.stored longer same) read start_is refl

    pub freed_entries : entries_of args (set slots w (Unbound start)) ≡ entries_of args slots
    freed_entries = freed.entries

    -- the last bound variable is freed
    pub freed_flat : (first : List Binding) → (undone : List Binding) × (first ≡ undone ++ bindings_of (targets_of slots) trail')
        → IsFlat (set slots w (Unbound start)) args trail
        × ((undone : List Binding) × (first ≡ undone ++ bindings_of (targets_of (set slots w (Unbound start))) trail))
    freed_flat first so_far =
        let more = unbound_more (entries_of args slots) (targets_of slots) trail trail' v w first flat.stored longer same so_far in (
          placed_flat slots args trail w (Unbound start) freed more.0,
          subst (λ (ts : List (Option ℕ)). (undone : List Binding) × (first ≡ undone ++ bindings_of ts trail)) (sym freed.targets) more.1,
        )

-- the last bound variable's cell is there
pub freed_within : (slots : List Slot) (args trail trail' : List ℕ) (v w : ℕ) → w ≡ v → IsFlat slots args trail' → trail' ≡ trail ++ v ∷ [] → w < length slots
freed_within slots args trail trail' v w same flat longer =
    let variable = unbound_variable (entries_of args slots) (targets_of slots) trail trail' v w flat.stored longer same in
    omega (arith, slice_get_within (entries_of args slots) w Variable variable, length-map slots (entry_of args))

-- the first cells stay, with their arguments
module _ (slots slots' : List Slot) (args args' : List ℕ) (count kept : ℕ) (laid : AreLaid 0 slots (length args))
    (cut : slots' ≡ take count slots) (kept_is : kept ≡ start_at slots (length args) count) (cut_args : args' ≡ take kept args) where
  args_are : args' ≡ take (start_at slots (length args) count) args
  args_are = cut_args ∙ ap (λ n. take n args) kept_is

  pub cut_laid : AreLaid 0 slots' (length args')
  cut_laid =
      let end : ℕ = start_at slots (length args) count in
      let same : length args' ≡ end = ap length args_are ∙ length-take-le end args (start_at-within 0 slots (length args) count laid) in
      subst (λ (ss : List Slot). AreLaid 0 ss (length args')) (sym cut)
      (subst (λ (n : ℕ). AreLaid 0 (take count slots) n) (sym same) (laid_take 0 slots (length args) count laid))

  pub cut_entries : entries_of args' slots' ≡ take count (entries_of args slots)
  cut_entries = ap₂ entries_of args_are cut ∙ entries_of-take slots args count laid

  pub cut_targets : targets_of slots' ≡ take count (targets_of slots)
  cut_targets = ap targets_of cut ∙ sym (take-map target_in count slots)
