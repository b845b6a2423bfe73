-- Stores with new variables, and the addresses of applications.
use Rattle.std.proofs.Common.{◌≡◌, ℕ, zero, suc, ◌+◌, ◌<◌, ◌≤◌, inl, inr, List, [], ◌∷◌, ◌++◌, length, map, reverse, replicate, Some, slice_get, refl, sym, ◌∙◌, ap, subst, arith}
use Rattle.std.specs.Prelude.{All}
use Rattle.std.specs.List.{range_with_len}
use Rattle.std.proofs.lemmas.List.{length-append, length-replicate, length_push, reverse-append}
use Rattle.std.proofs.lemmas.List.Elements.{All-nil, All-cons, All-weaker}
use Rattle.std.proofs.lemmas.Option.{slice_get_within}
use Rattle.pm_logic.specs.Term.{Term, var, as_terms}
use Rattle.pm_store.specs.Entries.{Variable, Application}
use Rattle.pm_store.specs.Equations.{Equations, with_cell, with_new_variables, IsFree}
use Rattle.pm_store.specs.Trees.{tree, Occurs, OccursAmong}
use Rattle.pm_store.specs.Sound.{PointsBelow, CanBind, IsSound}
use Rattle.pm_store.specs.Marks.{IsLater}
use Rattle.pm_store.proofs.ListLemmas.{slice_get-append, All-left, All-last}
use Rattle.pm_store.proofs.TreeLemmas.{points_below, free_variables_stand}
use Rattle.pm_store.proofs.SolutionLemmas.{IsSound-with_cell, IsSound-with_binding}
use Rattle.pm_store.proofs.GrowthLemmas.{free_kept, with_new_variables-next, with_new_variables-none, variables_free, application_tree}
use Rattle.pm_store.proofs.MarkLemmas.{growth_is_later, later_is_transitive}
use Rattle.pm_run.specs.Meaning.{new_cells, with_application}
use Rattle.pm_run.specs.InStore.{AreBelow}

pub new_variables_later : (s : Equations) (n : ℕ) → IsLater s (with_new_variables s n)
new_variables_later s n = record { cells = (replicate n Variable, refl); bindings = ([], refl) }

pub later_is_longer : (old new : Equations) → IsLater old new → length old.cells ≤ length new.cells
later_is_longer old new later = omega (arith, ap length later.cells.1, length-append old.cells later.cells.0)

pub length-new_variables : (s : Equations) (n : ℕ) → length (with_new_variables s n).cells ≡ length s.cells + n
length-new_variables s n = length-append s.cells (replicate n Variable) ∙ ap (λ k. length s.cells + k) (length-replicate n Variable)

pub new_variables_sound : (s : Equations) (n : ℕ) → IsSound s → IsSound (with_new_variables s n)
new_variables_sound s zero sound = subst IsSound (sym (with_new_variables-none s)) sound
new_variables_sound s (suc n) sound =
    subst IsSound (sym (with_new_variables-next s n)) (new_variables_sound (with_cell s Variable) n (IsSound-with_cell s Variable sound tt))

pub range_below : (first n count : ℕ) → first + n ≤ count → AreBelow count (range_with_len first n)
range_below first zero count le = All-nil (λ c. c < count)
range_below first (suc n) count le =
    All-cons (λ c. c < count) first (range_with_len (first + 1) n) (omega (arith, le)) (range_below (first + 1) n count (omega (arith, le)))

pub below_more : (n k : ℕ) (cs : List ℕ) → n ≤ k → AreBelow n cs → AreBelow k cs
below_more n k cs le below = All-weaker (λ c. c < n) (λ c. c < k) (λ c lt. farther c n k lt le) cs below
  where
    farther : (c n k : ℕ) → c < n → n ≤ k → c < k
    farther c n k lt le = omega arith

pub All-reversed : {A : Type 0} (P : A → Type 0) (xs : List A) → All P (reverse xs) → All P xs
All-reversed P [] all = All-nil P
All-reversed P (x ∷ xs) all =
    let parts : All P (reverse xs ++ x ∷ []) = subst (λ ys. All P ys) (reverse-append (x ∷ []) xs) all in
    All-cons P x xs (All-last P (reverse xs) x parts) (All-reversed P xs (All-left P (reverse xs) (x ∷ []) parts))

-- the arguments of a cell's application are cells
pub args_are_cells : (s : Equations) (c f : ℕ) (args : List ℕ) → IsSound s → slice_get s.cells c ≡ Some (Application f args) → AreBelow (length s.cells) args
args_are_cells s c f args sound stands =
    let start : 0 + c ≡ c = omega arith in
    let below : All (λ arg. arg < c) args =
    subst (λ (n : ℕ). PointsBelow n (Application f args)) start (points_below 0 s.cells sound.down c (Application f args) stands) in
    let within : c < length s.cells = slice_get_within s.cells c (Application f args) stands in
    below_more c (length s.cells) args (omega (arith, within)) below

apart_among : (trees : ℕ → Term) (v first n : ℕ) → v < first → ((c : ℕ) → first ≤ c → c < first + n → trees c ≡ var c)
    → OccursAmong v (as_terms (map trees (range_with_len first n))) → ⊥
apart_among trees v first zero lt stand occurs = absurd occurs
apart_among trees v first (suc n) lt stand (inl here) =
    let same : v ≡ first = subst (λ (t : Term). Occurs v t) (stand first (omega arith) (omega arith)) here in
    absurd (omega (arith, lt, same))
apart_among trees v first (suc n) lt stand (inr later) =
    apart_among trees v (first + 1) n (omega (arith, lt)) (λ c le below. stand c (omega (arith, le)) (omega (arith, below))) later

module _ (s : Equations) (v f n : ℕ) (sound : IsSound s) (free : IsFree s v) where
  args_sound : IsSound (with_new_variables s n)
  args_sound = new_variables_sound s n sound

  pub args_below : AreBelow (length (with_new_variables s n).cells) (new_cells s n)
  args_below = range_below (length s.cells) n (length (with_new_variables s n).cells) (omega (arith, length-new_variables s n))

  pub can_bind : CanBind (with_cell (with_new_variables s n) (Application f (new_cells s n))) v (length (with_new_variables s n).cells)
  can_bind =
      let vars : Equations = with_new_variables s n in
      let made : Equations = with_cell vars (Application f (new_cells s n)) in
      let inside : v < length s.cells = slice_get_within s.cells v Variable free.variable in
      let stays : IsFree vars v =
      record { variable = slice_get-append s.cells (replicate n Variable) v Variable free.variable; unbound = free.unbound } in
      let stand : (c : ℕ) → length s.cells ≤ c → c < length s.cells + n → tree vars c ≡ var c =
      λ c le lt. free_variables_stand vars c args_sound (variables_free s vars (length s.cells) n sound refl refl c le lt) in
      record {
        free = free_kept vars (Application f (new_cells s n)) v stays;
        within = omega (arith, length_push vars.cells (Application f (new_cells s n)));
        apart = λ occurs. apart_among (tree vars) v (length s.cells) n inside stand
            (subst (λ (t : Term). Occurs v t) (application_tree vars made (length vars.cells) args_sound refl f (new_cells s n) args_below refl) occurs);
      }

  pub application_sound : IsSound (with_application s v f n)
  application_sound =
      IsSound-with_binding (with_cell (with_new_variables s n) (Application f (new_cells s n))) v (length (with_new_variables s n).cells)
      (IsSound-with_cell (with_new_variables s n) (Application f (new_cells s n)) args_sound args_below) can_bind

pub application_later : (s : Equations) (v f n : ℕ) → IsLater s (with_application s v f n)
application_later s v f n =
    let vars : Equations = with_new_variables s n in
    let made : Equations = with_cell vars (Application f (new_cells s n)) in
    later_is_transitive s vars (with_application s v f n) (new_variables_later s n)
    (later_is_transitive vars made (with_application s v f n) ((growth_is_later vars).cell (Application f (new_cells s n))) ((growth_is_later made).binding v (length vars.cells)))

pub length-application : (s : Equations) (v f n : ℕ) → length (with_application s v f n).cells ≡ length s.cells + n + 1
length-application s v f n =
    length_push (with_new_variables s n).cells (Application f (new_cells s n)) ∙ ap (λ k. k + 1) (length-new_variables s n)
