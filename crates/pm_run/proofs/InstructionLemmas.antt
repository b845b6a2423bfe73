-- Single instructions, over the stack with its top last.
use Rattle.std.proofs.Common.{◌≡◌, ℕ, zero, suc, ◌+◌, ◌-◌, ◌<◌, ◌≤◌, Bool, true, false, List, [], ◌∷◌, ◌++◌, take, drop, get_or, set, length, map, reverse, Option, Some, None, slice_get, refl, sym, ◌∙◌, ap, ap₂, subst, arith, append_assoc}
use Rattle.std.specs.Prelude.{not}
use Rattle.std.specs.Option.{is_some}
use Rattle.std.specs.List.{range_with_len}
use Rattle.std.proofs.lemmas.List.{length-drop, reverse-append, reverse-reverse, take-append-drop, take_more_set, take_more, take_all, drop_all, drop_more, drop-set-lt, length_push, length-set, map_push, append-nil}
use Rattle.pm_logic.specs.Term.{Term, tree_at}
use Rattle.pm_store.specs.Entries.{Variable, Application}
use Rattle.pm_store.specs.Equations.{Equations, with_cell, with_new_variables, end_of}
use Rattle.pm_store.specs.Marks.{IsLater}
use Rattle.pm_store.proofs.GrowthLemmas.{with_new_variables-next, with_new_variables-none}
use Rattle.pm_store.proofs.MarkLemmas.{growth_is_later, later_is_transitive}
use Rattle.pm_unify.specs.Unified.{Answers}
use Rattle.pm_compile.specs.Instructions.{AGAIN, MEET, GROUND, PUSH, MAKE, CONST, GOAL}
use Rattle.pm_run.specs.State.{CellLiteral, Child, RunState, with_changed}
use Rattle.pm_run.specs.Meaning.{IsApplication, Meets, all_set, unset_count, new_child, IsCellOf}
use Rattle.pm_compile.specs.Scheme.{is_ground}
use Rattle.pm_run.specs.Runner.{HasGroundCells}
use Rattle.pm_run.proofs.PartLemmas.{same_cell}
use Rattle.pm_run.specs.Inside.Running.{Performs, state_of}

-- the cell that was found is the term's
pub found_cell : (terms : List Term) (cells : List (Option ℕ)) (s : Equations) (row c : ℕ) → HasGroundCells terms cells s → row < length terms
    → is_ground (tree_at terms row) ≡ true → slice_get cells row ≡ Some (Some c) → IsCellOf s (tree_at terms row) c
found_cell terms cells s row c has lt ground stands =
    let its = has row lt ground in
    subst (λ (d : ℕ). IsCellOf s (tree_at terms row) d) (same_cell its.0 c (sym its.1 ∙ stands)) its.2

-- one more cell of a range
pub range_push : (from n : ℕ) → range_with_len from (n + 1) ≡ range_with_len from n ++ (from + n) ∷ []
range_push from zero = ap (λ k. k ∷ []) (none_on from)
  where
    none_on : (k : ℕ) → k ≡ k + 0
    none_on k = omega arith
range_push from (suc n) =
    ap (range_with_len from) (one_out n) ∙ ap (λ ks. from ∷ ks) (range_push (from + 1) n) ∙ ap (λ k. from ∷ (range_with_len (from + 1) n ++ k ∷ [])) (one_on from n)
  where
    one_on : (k m : ℕ) → k + 1 + m ≡ k + suc m
    one_on k m = omega arith

    one_out : (m : ℕ) → suc m + 1 ≡ suc (m + 1)
    one_out m = omega arith

-- the item at a place is changed
pub map_set : {A B : Type 0} (f : A → B) (h : B → B) (xs : List A) (j : ℕ) (x y : A) → j < length xs → x ≡ get_or xs j x → f y ≡ h (f x)
    → map f (set xs j y) ≡ with_changed j h (map f xs)
map_set f h [] j x y within read same = absurd (omega (arith, within))
map_set f h (z ∷ xs) zero x y within read same = ap (λ b. b ∷ map f xs) (same ∙ ap (λ a. h (f a)) read)
map_set f h (z ∷ xs) (suc j) x y within read same = ap (λ bs. f z ∷ bs) (map_set f h xs j x y (omega (arith, within)) read same)

pub changed_past : {A : Type 0} (h : A → A) (xs : List A) (j : ℕ) → length xs ≤ j → xs ≡ with_changed j h xs
changed_past h [] j beyond = refl
changed_past h (x ∷ xs) zero beyond = absurd (omega (arith, beyond))
changed_past h (x ∷ xs) (suc j) beyond = ap (λ ys. x ∷ ys) (changed_past h xs j (omega (arith, beyond)))

-- the application that was looked for
pub application_there : (s : Equations) (c g f n : ℕ) (args : List ℕ) → slice_get s.cells (end_of s.bindings c) ≡ Some (Application g args) → g ≡ f → length args ≡ n
    → IsApplication s c f n args
application_there s c g f n args stands same count = record { stands = stands ∙ ap (λ h. Some (Application h args)) same; count = count }

module _ (locals : List (Option ℕ)) (children : List Child) (branch : List CellLiteral) where
  -- a state with another store and another stack
  abbrev with_top_first : Equations → List ℕ → RunState
  with_top_first s stack = record { locals = locals; equations = s; stack = stack; children = children; branch = branch; closed_by = None }

  restated : (s t : Equations) (stack cells : List ℕ) → s ≡ t → reverse stack ≡ cells → state_of locals s stack children branch ≡ with_top_first t cells
  restated s t stack cells same turned = ap₂ with_top_first same turned

  top_turned : (rest : List ℕ) (top : ℕ) (stack : List ℕ) → stack ≡ rest ++ top ∷ [] → reverse stack ≡ top ∷ reverse rest
  top_turned rest top stack is = ap reverse is ∙ reverse-append rest (top ∷ [])

  part_turned : (stack args rest : List ℕ) → stack ≡ rest ++ args → reverse stack ≡ reverse args ++ reverse rest
  part_turned stack args rest is = ap reverse is ∙ reverse-append rest args

  pub again_done : (s new : Equations) (stack rest : List ℕ) (x top cell : ℕ) (answer : Bool) → stack ≡ rest ++ top ∷ []
      → slice_get locals x ≡ Some (Some cell) → Answers s new top cell answer
      → Performs (AGAIN x) (state_of locals s stack children branch) (state_of locals new rest children branch) answer
  again_done s new stack rest x top cell true is local answers = (top, cell, reverse rest, new, top_turned rest top stack is, local, answers, refl)
  again_done s new stack rest x top cell false is local answers = (top, cell, reverse rest, top_turned rest top stack is, local, answers.1)

  pub ground_done : (s new : Equations) (stack rest : List ℕ) (t : Term) (top cell : ℕ) (answer : Bool) → stack ≡ rest ++ top ∷ []
      → IsCellOf s t cell → Answers s new top cell answer
      → Performs (GROUND t) (state_of locals s stack children branch) (state_of locals new rest children branch) answer
  ground_done s new stack rest t top cell true is its answers = (top, cell, reverse rest, new, top_turned rest top stack is, its, answers, refl)
  ground_done s new stack rest t top cell false is its answers = (top, cell, reverse rest, top_turned rest top stack is, its, answers.1)

  pub meet_done : (s new : Equations) (stack rest after args : List ℕ) (f n top : ℕ) → stack ≡ rest ++ top ∷ [] → Meets s top f n args new
      → after ≡ rest ++ reverse args
      → Performs (MEET f n) (state_of locals s stack children branch) (state_of locals new after children branch) true
  meet_done s new stack rest after args f n top is meets grown = (
    top,
    reverse rest,
    args,
    new,
    top_turned rest top stack is,
    meets,
    restated new new after (args ++ reverse rest) refl
        (part_turned after (reverse args) rest grown ∙ ap (λ (cs : List ℕ). cs ++ reverse rest) (reverse-reverse args)),
  )

  pub meet_fails : (s new : Equations) (stack rest : List ℕ) (f n top g : ℕ) (args : List ℕ) → stack ≡ rest ++ top ∷ []
      → slice_get s.cells (end_of s.bindings top) ≡ Some (Application g args) → ¬ ((g ≡ f) × (length args ≡ n))
      → Performs (MEET f n) (state_of locals s stack children branch) (state_of locals new rest children branch) false
  meet_fails s new stack rest f n top g args is stands other = (top, reverse rest, top_turned rest top stack is, (g, args, stands, other))

  pub make_done : (s new : Equations) (stack now : List ℕ) (f n k made : ℕ) → n ≤ length stack → k ≡ length stack - n
      → now ≡ take k stack ++ made ∷ [] → made ≡ length s.cells → new ≡ with_cell s (Application f (drop k stack))
      → Performs (MAKE f n) (state_of locals s stack children branch) (state_of locals new now children branch) true
  make_done s new stack now f n k made le is grown place same = (
    drop k stack,
    reverse (take k stack),
    omega (arith, length-drop k stack, le, is),
    part_turned stack (drop k stack) (take k stack) (sym (take-append-drop k stack)),
    restated new (with_cell s (Application f (drop k stack))) now (length s.cells ∷ reverse (take k stack)) same
        (top_turned (take k stack) made now grown ∙ ap (λ c. c ∷ reverse (take k stack)) place),
  )

  pub push_done : (s : Equations) (stack now : List ℕ) (x cell : ℕ) → slice_get locals x ≡ Some (Some cell) → now ≡ stack ++ cell ∷ []
      → Performs (PUSH x) (state_of locals s stack children branch) (state_of locals s now children branch) true
  push_done s stack now x cell local grown = (cell, local, restated s s now (cell ∷ reverse stack) refl (top_turned stack cell now grown))

  pub constant_done : (s : Equations) (stack now : List ℕ) (t : Term) (cell : ℕ) → IsCellOf s t cell → now ≡ stack ++ cell ∷ []
      → Performs (CONST t) (state_of locals s stack children branch) (state_of locals s now children branch) true
  constant_done s stack now t cell its grown = (cell, its, restated s s now (cell ∷ reverse stack) refl (top_turned stack cell now grown))

-- a child is appended with the last cells of the stack
pub goal_done : {A : Type 0} (child : A → Child) (locals : List (Option ℕ)) (s : Equations) (branch : List CellLiteral) (stack now : List ℕ) (old new : List A)
    (x : A) (positive : Bool) (p n k : ℕ) → n ≤ length stack → k ≡ length stack - n → now ≡ take k stack → new ≡ old ++ x ∷ []
    → child x ≡ new_child positive p (drop k stack)
    → Performs (GOAL positive p n) (state_of locals s stack (map child old) branch) (state_of locals s now (map child new) branch) true
goal_done child locals s branch stack now old new x positive p n k le is left grown same = (
  drop k stack,
  reverse (take k stack),
  omega (arith, length-drop k stack, le, is),
  ap reverse (sym (take-append-drop k stack)) ∙ reverse-append (take k stack) (drop k stack),
  ap₂ state (ap reverse left) (ap (map child) grown ∙ map_push child old x ∙ ap (λ c. map child old ++ c ∷ []) same),
)
  where
    state : List ℕ → List Child → RunState
    state cells children = record { locals = locals; equations = s; stack = cells; children = children; branch = branch; closed_by = None }

-- locals that become variables in turn: those from this place on are still to be looked at
pub record IsSetting (s : Equations) (locals : List (Option ℕ)) (x : ℕ) (new : Equations) (now : List (Option ℕ)) : Type 0 where
  pub locals_left : take x now ++ all_set (length new.cells) (drop x now) ≡ all_set (length s.cells) locals
  pub store_left : with_new_variables new (unset_count (drop x now)) ≡ with_new_variables s (unset_count locals)
  pub later : IsLater s new
  pub count : length now ≡ length locals

pub setting_first : (s : Equations) (locals : List (Option ℕ)) → IsSetting s locals 0 s locals
setting_first s locals = record { locals_left = refl; store_left = refl; later = (growth_is_later s).unchanged; count = refl }

module _ (s : Equations) (locals : List (Option ℕ)) (x : ℕ) (new : Equations) (now : List (Option ℕ)) (is : IsSetting s locals x new now)
    (within : x < length now) (local : Option ℕ) (read : local ≡ get_or now x local) where
  next_left : drop x now ≡ local ∷ drop (x + 1) now
  next_left = drop_more now x local within ∙ ap (λ l. l ∷ drop (x + 1) now) (sym read)

  -- a local that was set
  pub setting_passed : (c : ℕ) → local ≡ Some c → IsSetting s locals (x + 1) new now
  setting_passed c set_to =
      let whole : drop x now ≡ Some c ∷ drop (x + 1) now = next_left ∙ ap (λ l. l ∷ drop (x + 1) now) set_to in
      let rest : List (Option ℕ) = all_set (length new.cells) (drop (x + 1) now) in
      record {
        locals_left =
            ap (λ ls. ls ++ rest) (take_more now x local within ∙ ap (λ l. take x now ++ l ∷ []) (sym read ∙ set_to))
            ∙ append_assoc (take x now) (Some c ∷ []) rest
            ∙ ap (λ ls. take x now ++ all_set (length new.cells) ls) (sym whole) ∙ is.locals_left;
        store_left = ap (λ ls. with_new_variables new (unset_count ls)) (sym whole) ∙ is.store_left;
        later = is.later;
        count = is.count;
      }

  -- a local that becomes a new variable
  pub setting_set : (after : Equations) (v : ℕ) → local ≡ None → v ≡ length new.cells → after ≡ with_cell new Variable
      → IsSetting s locals (x + 1) after (set now x (Some v))
  setting_set after v unset place same =
      let whole : drop x now ≡ None ∷ drop (x + 1) now = next_left ∙ ap (λ l. l ∷ drop (x + 1) now) unset in
      let others : drop (x + 1) (set now x (Some v)) ≡ drop (x + 1) now = drop-set-lt (x + 1) now x (Some v) (omega arith) in
      let more : length after.cells ≡ length new.cells + 1 = ap (λ (e : Equations). length e.cells) same ∙ length_push new.cells Variable in
      let rest : List (Option ℕ) = all_set (length new.cells + 1) (drop (x + 1) now) in
      record {
        locals_left =
            ap₂ (λ ls ms. ls ++ ms) (take_more_set now x (Some v) within) (ap₂ all_set more others)
            ∙ append_assoc (take x now) (Some v ∷ []) rest
            ∙ ap (λ c. take x now ++ Some c ∷ rest) place
            ∙ ap (λ ls. take x now ++ all_set (length new.cells) ls) (sym whole) ∙ is.locals_left;
        store_left =
            ap₂ with_new_variables same (ap unset_count others)
            ∙ sym (with_new_variables-next new (unset_count (drop (x + 1) now)))
            ∙ ap (λ ls. with_new_variables new (unset_count ls)) (sym whole) ∙ is.store_left;
        later = later_is_transitive s new after is.later (subst (IsLater new) (sym same) ((growth_is_later new).cell Variable));
        count = length-set now x (Some v) ∙ is.count;
      }

-- what a test of a local tells
pub is_set : (local : Option ℕ) (none : Bool) → is_some local ≡ not none → none ≡ false → (c : ℕ) × (local ≡ Some c)
is_set (Some c) none tells is = (c, refl)
is_set None true tells is = absurd cc
is_set None false tells is = absurd cc

pub is_unset : (local : Option ℕ) (none : Bool) → is_some local ≡ not none → none ≡ true → local ≡ None
is_unset (Some c) true tells is = absurd cc
is_unset (Some c) false tells is = absurd cc
is_unset None none tells is = refl

module _ (s : Equations) (locals : List (Option ℕ)) (x : ℕ) (new : Equations) (now : List (Option ℕ)) (is : IsSetting s locals x new now)
    (beyond : length now ≤ x) where
  pub setting_done : (now ≡ all_set (length s.cells) locals) × (new ≡ with_new_variables s (unset_count locals))
  setting_done = (
    sym (append-nil now) ∙ ap₂ (λ ls ms. ls ++ all_set (length new.cells) ms) (sym (take_all x now beyond)) (sym (drop_all x now beyond)) ∙ is.locals_left,
    sym (with_new_variables-none new) ∙ ap (λ ls. with_new_variables new (unset_count ls)) (sym (drop_all x now beyond)) ∙ is.store_left,
  )
