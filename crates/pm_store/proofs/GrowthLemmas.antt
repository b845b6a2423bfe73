-- Trees and solutions when a store gets more cells.
use Rattle.std.proofs.Common.{◌≡◌, ℕ, zero, suc, ◌+◌, ◌<◌, ◌≤◌, inl, inr, if◌then◌else◌, List, [], ◌∷◌, ◌++◌, length, map, replicate, refl, sym, ◌∙◌, ap, subst, arith}
use Rattle.std.specs.Prelude.{◌↔◌, All}
use Rattle.std.proofs.lemmas.Bool.{cases_eq, lt-ltb}
use Rattle.std.proofs.lemmas.List.{length_push, append-nil, append_assoc}
use Rattle.pm_logic.specs.Term.{Term, app, as_terms}
use Rattle.pm_store.specs.Entries.{Entry, Variable, Application}
use Rattle.pm_store.specs.Equations.{Equations, with_cell, with_new_variables, IsFree}
use Rattle.pm_store.specs.Solutions.{Solves, with_tree, with_trees}
use Rattle.pm_store.specs.Trees.{tree, KeepsTrees}
use Rattle.pm_store.specs.Sound.{IsSound}
use Rattle.pm_store.proofs.ListLemmas.{if_same, if_other, map_agree, slice_get-append, slice_get-last}
use Rattle.pm_store.proofs.TreeLemmas.{trees_solve}
use Rattle.pm_store.proofs.SolutionLemmas.{Solves-with_cell, tree_under-append, IsSound-with_cell, other_cells_are_open, solves_agree}
use Rattle.pm_store.proofs.BindingLemmas.{unbound_beyond}

IsSound-kept : (s : Equations) (es : List Entry) → IsSound s → KeepsTrees s (record { cells = s.cells ++ es; bindings = s.bindings })
IsSound-kept s es sound c within = tree_under-append s.cells es s.bindings sound.made c within

-- a new variable is free
pub new_variable : (s : Equations) → IsSound s → IsFree (with_cell s Variable) (length s.cells)
new_variable s sound = record {
  variable = slice_get-last s.cells Variable;
  unbound = unbound_beyond s.cells s.bindings (length s.cells) sound.made (same (length s.cells));
}
  where
    same : (n : ℕ) → n ≤ n
    same n = omega arith

pub free_kept : (s : Equations) (e : Entry) (v : ℕ) → IsFree s v → IsFree (with_cell s e) v
free_kept s e v free = record { variable = slice_get-append s.cells (e ∷ []) v Variable free.variable; unbound = free.unbound }

module _ (old new : Equations) (cell : ℕ) (sound : IsSound old) (place : cell ≡ length old.cells) where
  module _ (is : new ≡ with_cell old Variable) where
    pub variable_free : IsFree new cell
    variable_free =
        subst (λ (s : Equations). IsFree s cell) (sym is) (subst (λ (n : ℕ). IsFree (with_cell old Variable) n) (sym place) (new_variable old sound))

    pub variable_trees : KeepsTrees old new
    variable_trees = subst (KeepsTrees old) (sym is) (IsSound-kept old (Variable ∷ []) sound)

    pub variable_solutions : (trees : ℕ → Term) → Solves new trees ↔ Solves old trees
    variable_solutions trees =
        let parts = Solves-with_cell old Variable trees in
        subst (λ (s : Equations). Solves s trees ↔ Solves old trees) (sym is) (λ solves. (parts.0 solves).0, λ solves. parts.1 (solves, tt))

    pub variable_any : (trees : ℕ → Term) (t : Term) → Solves old trees → Solves new (with_tree trees cell t)
    variable_any trees t solves =
        (variable_solutions (with_tree trees cell t)).1 (other_cells_are_open old trees cell t sound (omega (arith, place)) solves)

  module _ (symbol : ℕ) (args : List ℕ) (below : All (λ arg. arg < length old.cells) args) (is : new ≡ with_cell old (Application symbol args)) where
    pub application_solutions : (trees : ℕ → Term) → Solves new trees ↔ (Solves old trees × (trees cell ≡ app symbol (as_terms (map trees args))))
    application_solutions trees =
        subst (λ (s : Equations). Solves s trees ↔ (Solves old trees × (trees cell ≡ app symbol (as_terms (map trees args))))) (sym is)
        (subst (λ (n : ℕ). Solves (with_cell old (Application symbol args)) trees ↔ (Solves old trees × (trees n ≡ app symbol (as_terms (map trees args))))) (sym place)
        (Solves-with_cell old (Application symbol args) trees))

    pub application_trees : KeepsTrees old new
    application_trees = subst (KeepsTrees old) (sym is) (IsSound-kept old (Application symbol args ∷ []) sound)

    pub application_tree : tree new cell ≡ app symbol (as_terms (map (tree old) args))
    application_tree =
        let sound' : IsSound new = subst IsSound (sym is) (IsSound-with_cell old (Application symbol args) sound below) in
        ((application_solutions (tree new)).0 (trees_solve new sound')).1
        ∙ ap (λ ts. app symbol (as_terms ts)) (map_agree (tree new) (tree old) (length old.cells) args application_trees below)

    pub application_extends : (trees : ℕ → Term) → Solves old trees → Solves new (with_tree trees cell (app symbol (as_terms (map trees args))))
    application_extends trees solves =
        let t : Term = app symbol (as_terms (map trees args)) in
        let extended : ℕ → Term = with_tree trees cell t in
        let same : map extended args ≡ map trees args =
        map_agree extended trees (length old.cells) args (λ a lt. if_other a cell t (trees a) (apart a lt)) below in
        (application_solutions extended).1 (
          other_cells_are_open old trees cell t sound (omega (arith, place)) solves,
          if_same cell cell t (trees cell) refl ∙ ap (λ ts. app symbol (as_terms ts)) (sym same),
        )
      where
        apart : (a : ℕ) → a < length old.cells → a ≡ cell → ⊥
        apart a lt e = omega (arith, place)

-- one by one
pub with_new_variables-next : (s : Equations) (n : ℕ) → with_new_variables s (suc n) ≡ with_new_variables (with_cell s Variable) n
with_new_variables-next s n =
    ap (λ (es : List Entry). let t : Equations = record { cells = es; bindings = s.bindings } in t) (sym (append_assoc s.cells (Variable ∷ []) (replicate n Variable)))

pub with_new_variables-none : (s : Equations) → with_new_variables s 0 ≡ s
with_new_variables-none s = ap (λ (es : List Entry). let t : Equations = record { cells = es; bindings = s.bindings } in t) (append-nil s.cells)

new_variables_solve : (s : Equations) (n : ℕ) (trees : ℕ → Term) → Solves (with_new_variables s n) trees ↔ Solves s trees
new_variables_solve s zero trees = subst (λ (t : Equations). Solves t trees ↔ Solves s trees) (sym (with_new_variables-none s)) (λ solves. solves, λ solves. solves)
new_variables_solve s (suc n) trees =
    let rest = new_variables_solve (with_cell s Variable) n trees in
    let one = variable_one s trees in
    subst (λ (t : Equations). Solves t trees ↔ Solves s trees) (sym (with_new_variables-next s n)) (λ solves. one.0 (rest.0 solves), λ solves. rest.1 (one.1 solves))
  where
    variable_one : (s : Equations) (trees : ℕ → Term) → Solves (with_cell s Variable) trees ↔ Solves s trees
    variable_one s trees = let parts = Solves-with_cell s Variable trees in (λ solves. (parts.0 solves).0, λ solves. parts.1 (solves, tt))

stays_free : (s : Equations) (n v : ℕ) → IsFree s v → IsFree (with_new_variables s n) v
stays_free s n v free = record { variable = slice_get-append s.cells (replicate n Variable) v Variable free.variable; unbound = free.unbound }

new_variables_are_free : (s : Equations) (n v : ℕ) → IsSound s → length s.cells ≤ v → v < length s.cells + n → IsFree (with_new_variables s n) v
new_variables_are_free s zero v sound beyond below = absurd (omega arith)
new_variables_are_free s (suc n) v sound beyond below =
    let next : Equations = with_cell s Variable in
    let longer : length next.cells ≡ length s.cells + 1 = length_push s.cells Variable in
    subst (λ (t : Equations). IsFree t v) (sym (with_new_variables-next s n))
    (elim (cases_eq v (length s.cells)) [
      | inl e ↦ stays_free next n v (subst (λ (m : ℕ). IsFree next m) (sym e) (new_variable s sound))
      | inr ne ↦ new_variables_are_free next n v (IsSound-with_cell s Variable sound tt) (above v (length s.cells) (length next.cells) beyond ne longer) (omega arith)
    ])
  where
    above : (v m k : ℕ) → m ≤ v → (v ≡ m → ⊥) → k ≡ m + 1 → k ≤ v
    above v m k le ne e = omega arith

module _ (old new : Equations) (first count : ℕ) (sound : IsSound old) (place : first ≡ length old.cells) (is : new ≡ with_new_variables old count) where
  pub variables_free : (v : ℕ) → first ≤ v → v < first + count → IsFree new v
  variables_free v beyond below =
      subst (λ (s : Equations). IsFree s v) (sym is) (new_variables_are_free old count v sound (omega (arith, place)) (omega (arith, place)))

  pub variables_trees : KeepsTrees old new
  variables_trees = subst (KeepsTrees old) (sym is) (IsSound-kept old (replicate count Variable) sound)

  pub variables_solutions : (trees : ℕ → Term) → Solves new trees ↔ Solves old trees
  variables_solutions trees = subst (λ (s : Equations). Solves s trees ↔ Solves old trees) (sym is) (new_variables_solve old count trees)

  pub variables_any : (trees others : ℕ → Term) → Solves old trees → Solves new (with_trees trees first others)
  variables_any trees others solves =
      (variables_solutions (with_trees trees first others)).1
      (solves_agree old trees (with_trees trees first others) sound (λ c lt. sym (ap (λ b. if b then trees c else others c) (lt-ltb c first (omega (arith, place))))) solves)
