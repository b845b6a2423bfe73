-- Each step keeps the rule, and so does a thread that comes.
use Rattle.std.proofs.Common.{◌≡◌, ℕ, zero, suc, ◌+◌, ◌<◌, ◌≤◌, Bool, true, false, cond, eqb, List, [], ◌∷◌, ◌++◌, length, map, get_or, set, refl, sym, ap, ◌∙◌, subst, arith, inl, inr, append-nil}
use Rattle.std.proofs.lemmas.Bool.{cases_eq, eq-eqb, ne_eqb}
use Rattle.std.proofs.lemmas.List.{get_or-set_same, get_or-set_other, map-append}
use Rattle.std.proofs.lemmas.List.Elements.{filter-append}
use Rattle.std.proofs.lemmas.List.Sums.{sum_by-set, sum_by-append}
use Rattle.std.specs.List.{count_by, Contains}
use Rattle.crossbeam_deque.specs.Tasks.{Pushes, Takes, Pops, Finds, FindsFew, Forks}
use Rattle.crossbeam_deque.proofs.Lists.{set_again}
use Rattle.pm_steal.specs.History.{Makes, Turn, LeadsTo, steps_of, pushes, takes, IsKept, HeldAtMost}
use Rattle.pm_steal.specs.declared.steps.Step.{Step}
use Rattle.pm_steal.specs.declared.steps.Step.TheVariants.{Push, Pop, Steal}
use mathlib.Core.Option.{some, some-injective, some-ne-none}
use lib.ListN.{get_elem?}

-- ---- lists

found : {A : Type 0} (l : List A) (i : ℕ) (a d : A) → get_elem? l i ≡ some a → (i < length l) × (get_or l i d ≡ a)
found [] i a d e = absurd (some-ne-none a (sym e))
found (x ∷ xs) zero a d e = (omega arith, some-injective x a e)
found (x ∷ xs) (suc i) a d e = let rest = found xs i a d e in let inside = rest.0 in (omega arith, rest.1)

default_at_end : {A : Type 0} (l : List A) (i : ℕ) (d : A) → get_or (l ++ d ∷ []) i d ≡ get_or l i d
default_at_end [] zero d = refl
default_at_end [] (suc i) d = refl
default_at_end (x ∷ xs) zero d = refl
default_at_end (x ∷ xs) (suc i) d = default_at_end xs i d

count_by-append : {A : Type 0} (p : A → Bool) (xs ys : List A) → count_by p (xs ++ ys) ≡ count_by p xs + count_by p ys
count_by-append p xs ys = sum_by-append (λ x. cond (p x) 1 0) xs ys

-- ---- one more turn

leads_on : (from : List ℕ) (turns : List Turn) (items : List ℕ) (turn : Turn) (new : List ℕ) → LeadsTo from turns items → Makes items turn.step new
    → LeadsTo from (turns ++ turn ∷ []) new
leads_on from [] items turn new here makes = (new, subst (λ old. Makes old turn.step new) here makes, refl)
leads_on from (first ∷ turns) items turn new leads makes = (leads.0, leads.1, leads_on leads.0 turns items turn new leads.2 makes)

steps_of-append : (thread : ℕ) (turns more : List Turn) → steps_of thread (turns ++ more) ≡ steps_of thread turns ++ steps_of thread more
steps_of-append thread turns more =
    ap (map (λ turn. turn.step)) (filter-append (λ turn. eqb turn.thread thread) turns more) ∙ map-append (λ turn. turn.step) _ _

-- the turn's step, where the test of its thread holds
abbrev step_if : Bool → Turn → List Step
step_if same turn = map {A = Turn} {B = Step} (λ t. t.step) (cond same (turn ∷ []) [])

step_if-true : (same : Bool) (turn : Turn) → same ≡ true → step_if same turn ≡ turn.step ∷ []
step_if-true same turn e = ap (λ b. step_if b turn) e

step_if-false : (same : Bool) (turn : Turn) → same ≡ false → step_if same turn ≡ []
step_if-false same turn e = ap (λ b. step_if b turn) e

abbrev Recorded : List Turn → List (List Step) → Type 0
Recorded turns views = (thread : ℕ) → steps_of thread turns ≡ get_or views thread []

recorded_on : (turns : List Turn) (views : List (List Step)) (turn : Turn) (v : List Step) → Recorded turns views → get_elem? views turn.thread ≡ some v
    → Recorded (turns ++ turn ∷ []) (set views turn.thread (v ++ turn.step ∷ []))
recorded_on turns views turn v recorded at thread =
    let place = found views turn.thread v [] at in
    let longer = v ++ turn.step ∷ [] in
    let split = steps_of-append thread turns (turn ∷ []) in
    elim (cases_eq turn.thread thread) [
      | inl same ↦
          split ∙ (λ i. recorded thread i ++ step_if-true (eqb turn.thread thread) turn (eq-eqb _ _ same) i)
          ∙ ap (λ l. l ++ turn.step ∷ []) (ap (λ j. get_or views j []) (sym same) ∙ place.1)
          ∙ sym (ap (λ j. get_or (set views turn.thread longer) j []) (sym same) ∙ get_or-set_same views turn.thread longer [] place.0)
      | inr apart ↦
          split ∙ (λ i. recorded thread i ++ step_if-false (eqb turn.thread thread) turn (ne_eqb _ _ apart) i)
          ∙ append-nil _ ∙ sym (get_or-set_other views turn.thread thread longer [] (λ e. apart (sym e)))
    ]

balance : (x : ℕ) (items : List ℕ) (step : Step) (new : List ℕ) → Makes items step new
    → count_by (pushes x) (step ∷ []) + count_by (λ y. eqb y x) items ≡ count_by (takes x) (step ∷ []) + count_by (λ y. eqb y x) new
balance x items (Push y) new makes = let counts = ap (count_by (λ z. eqb z x)) makes in omega (arith, count_by-append (λ z. eqb z x) items (y ∷ []))
balance x items (Pop y) new makes = let counts = ap (count_by (λ z. eqb z x)) makes in omega (arith, count_by-append (λ z. eqb z x) new (y ∷ []))
balance x items (Steal y) new makes =
    let counts = ap (count_by (λ z. eqb z x)) makes in
    omega (arith, count_by-append (λ z. eqb z x) (y ∷ []) new)

pub kept_on : (items new : List ℕ) (views : List (List Step)) (port : ℕ) (v : List Step) (step : Step) → IsKept items views → get_elem? views port ≡ some v
    → Makes items step new → IsKept new (set views port (v ++ step ∷ []))
kept_on items new views port v step kept at makes =
    let place = found views port v [] at in record {
      counted = λ x.
          let before = kept.counted x in
          let change = balance x items step new makes in
          let pushed = sum_by-set (count_by (pushes x)) views port (v ++ step ∷ []) [] place.0 in
          let taken = sum_by-set (count_by (takes x)) views port (v ++ step ∷ []) [] place.0 in
          let own_pushed = ap (count_by (pushes x)) place.1 in
          let own_taken = ap (count_by (takes x)) place.1 in
          let more_pushed = count_by-append (pushes x) v (step ∷ []) in
          let more_taken = count_by-append (takes x) v (step ∷ []) in
          omega arith;
      ordered = (
        kept.ordered.0 ++ record { thread = port; step = step } ∷ [],
        leads_on [] kept.ordered.0 items (record { thread = port; step = step }) new kept.ordered.1 makes,
        recorded_on kept.ordered.0 views (record { thread = port; step = step }) v kept.ordered.2 at,
      );
    }

-- ---- what the calls owe

pub begins : IsKept [] ([] ∷ [])
begins = record { counted = λ x. refl; ordered = ([], refl, none) }
  where
    none : (thread : ℕ) → steps_of thread [] ≡ get_or ([] ∷ []) thread []
    none zero = refl
    none (suc j) = refl

pub push_keeps : (port : ℕ) (v : List Step) (x : ℕ) → Pushes IsKept port v (x ∷ []) (λ w. w ≡ v ++ map Push (x ∷ []))
push_keeps port v x items views kept at = (v ++ Push x ∷ [], kept_on items (items ++ x ∷ []) views port v (Push x) kept at refl, refl)

pub pop_keeps : (port : ℕ) (v : List Step) → Pops IsKept port v (λ xs w. w ≡ v ++ map Pop xs)
pop_keeps port v x items views kept at = (v ++ Pop x ∷ [], kept_on (items ++ x ∷ []) items views port v (Pop x) kept at refl, refl)

pub steal_keeps : (port : ℕ) (v : List Step) → Takes IsKept port v 1 (λ xs w. w ≡ v ++ map Steal xs)
steal_keeps port v [] items views some_task few kept at = absurd (omega arith)
steal_keeps port v (x ∷ []) items views some_task few kept at = (v ++ Steal x ∷ [], kept_on (x ∷ items) items views port v (Steal x) kept at refl, refl)
steal_keeps port v (x ∷ y ∷ xs) items views some_task few kept at = absurd (omega arith)

pub new_thread_keeps : (port : ℕ) (v : List Step) → Forks IsKept port v v []
new_thread_keeps port v items views kept at =
    let more = ap (λ l. l ++ [] ∷ []) (set_again views port v at) in
    subst (IsKept items) (sym more) (record {
      counted = λ x. let before = kept.counted x in omega (arith, sum_by-append (count_by (pushes x)) views ([] ∷ []), sum_by-append (count_by (takes x)) views ([] ∷ []));
      ordered = (kept.ordered.0, kept.ordered.1, λ thread. kept.ordered.2 thread ∙ sym (default_at_end views thread []));
    })

among : (views : List (List Step)) (port : ℕ) (v : List Step) → get_elem? views port ≡ some v → Contains views v
among views port v at = let place = found views port v v at in (port, place.0, place.1)

pub held_none : (port : ℕ) (v : List Step) → Finds IsKept port v (HeldAtMost 0 v)
held_none port v views kept at = ([], views, omega arith, kept, among views port v at)

pub held_few : (most port : ℕ) (v : List Step) → most ≤ 1 → FindsFew IsKept most port v (HeldAtMost 1 v)
held_few most port v bound items views few kept at = (items, views, omega arith, kept, among views port v at)
