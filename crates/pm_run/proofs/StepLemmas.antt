-- Whole steps.
use Rattle.std.proofs.Common.{◌≡◌, ℕ, zero, suc, List, [], ◌∷◌, length, map, replicate, Option, Some, None, slice_get, refl, sym, ◌∙◌, ap, subst₂}
use Rattle.std.proofs.lemmas.List.{append-nil, length-map}
use Rattle.std.proofs.lemmas.List.Elements.{All-nil}
use Rattle.pm_logic.specs.Term.{Term, var}
use Rattle.pm_logic.specs.Problem.{Literal}
use Rattle.pm_logic.specs.Filling.{fill}
use Rattle.pm_store.specs.Equations.{Equations}
use Rattle.pm_store.specs.Solutions.{Solves}
use Rattle.pm_store.specs.Trees.{tree}
use Rattle.pm_store.proofs.TreeLemmas.{trees_solve}
use Rattle.pm_compile.specs.Instructions.{Instruction}
use Rattle.pm_compile.specs.Scheme.{body_code, start_code, extension_code}
use Rattle.pm_run.specs.State.{CellLiteral, Child, RunState, TreeChild, TreeState, literal_under, child_under, state_under, IsAncestor}
use Rattle.pm_calculus.specs.Substitution.{AreComplementary}
use Rattle.pm_run.specs.Wants.{Wants}
use Rattle.pm_run.specs.Meaning.{Runs}
use Rattle.pm_run.specs.InStore.{HasArgsBelow, IsInStore, Stands, AgreeBelow}
use Rattle.pm_run.specs.Failure.{RunFails}
use Rattle.pm_run.specs.Steps.{reduction_code, before_step, IsStep, AsksNothing, HasFilledArgs, IsComplementaryUnder, filled_children, filled_and_closed, no_children, HasNoSolutions}
use Rattle.pm_run.specs.Laws.{StepsBeginInStores, StartsAreSteps, StartsNeverFail, ExtensionsAreSteps, ReductionsAreSteps, ExtensionsFail, ReductionsFail}
use Rattle.pm_run.proofs.PartLemmas.{append_parts, ancestor_mapped}
use Rattle.pm_run.proofs.BuildLemmas.{starts_append, extensions_pop_and_append}
use Rattle.pm_run.proofs.ForwardLemmas.{runs_show_wants}
use Rattle.pm_run.proofs.KeepLemmas.{runs_stay_in_stores}
use Rattle.pm_run.proofs.BackLemmas.{wants_are_reached, same_ancestor}
use Rattle.pm_run.proofs.FailLemmas.{failures_exclude}

-- the trees of the variables whose locals are set
abbrev tree_of_local : (ℕ → Term) → ℕ → Option (Option ℕ) → Term
tree_of_local trees x None = var x
tree_of_local trees x (Some None) = var x
tree_of_local trees x (Some (Some c)) = trees c

abbrev trees_of_locals : (ℕ → Term) → List (Option ℕ) → ℕ → Term
trees_of_locals trees locals x = tree_of_local trees x (slice_get locals x)

stands_by_locals : (m : RunState) (trees : ℕ → Term) → Solves m.equations trees → Stands (trees_of_locals trees m.locals) trees m
stands_by_locals m trees solves = record { solves = solves; agrees = λ x c is_set. sym (ap (tree_of_local trees x) is_set) }

none_set : (n x c : ℕ) → slice_get (replicate n None) x ≡ Some (Some c) → ⊥
none_set zero x c is = cc
none_set (suc n) zero c is = cc
none_set (suc n) (suc x) c is = none_set n x c is

pub steps_begin_in_stores : StepsBeginInStores
steps_begin_in_stores vars s branch cells sound stack below = record {
  sound = sound;
  locals = λ x c is_set. absurd (none_set vars x c is_set);
  cells = record { stack = stack; children = All-nil (λ (child : Child). HasArgsBelow (length s.cells) child.literal); branch = below };
}

no_cells : (trees : ℕ → Term) (cs : List ℕ) → map trees cs ≡ [] → cs ≡ []
no_cells trees [] none = refl
no_cells trees (c ∷ cs) none = cc

-- a state over trees whose stack is empty
abbrev ended : List TreeChild → List Literal → Option ℕ → TreeState
ended children branch closed_by = record { stack = []; children = children; branch = branch; closed_by = closed_by }

module _ (bodies : ℕ → List Instruction) (code : List Instruction) (vars : ℕ) (s : Equations) (branch : List CellLiteral) (cells : List ℕ) where
  stands_before : (variables trees : ℕ → Term) → Solves s trees → Stands variables trees (before_step vars s branch cells)
  stands_before variables trees solves = record { solves = solves; agrees = λ x c is_set. absurd (none_set vars x c is_set) }

  -- code that wants this comes to such a state alone, and does so where it holds
  module _ (holds : (ℕ → Term) → (ℕ → Term) → Type 0) (children : (ℕ → Term) → List TreeChild) (closed_by : Option ℕ)
      (wanted : (variables trees : ℕ → Term) (last : TreeState) → Wants variables bodies code (state_under trees (before_step vars s branch cells)) last
      → holds variables trees × (last ≡ ended (children variables) (map (literal_under trees) branch) closed_by))
      (given : (variables trees : ℕ → Term) → holds variables trees
      → Wants variables bodies code (state_under trees (before_step vars s branch cells)) (ended (children variables) (map (literal_under trees) branch) closed_by)) where
    module _ (new : RunState) (runs : Runs bodies code (before_step vars s branch cells) new) (is : IsInStore (before_step vars s branch cells)) where
      shown : (trees : ℕ → Term) → Solves new.equations trees
          → (variables : ℕ → Term) × Solves s trees × holds variables trees
          × (state_under trees new ≡ ended (children variables) (map (literal_under trees) branch) closed_by)
      shown trees solves =
          let variables : ℕ → Term = trees_of_locals trees new.locals in
          let back = runs_show_wants bodies code (before_step vars s branch cells) new variables trees runs (stands_by_locals new trees solves) in
          let found = wanted variables trees (state_under trees new) back.1 in
          (variables, back.0.solves, found.0, found.1)

      reached : (variables trees : ℕ → Term) → Solves s trees → holds variables trees
          → (later : ℕ → Term) × AgreeBelow (length s.cells) trees later × Solves new.equations later
          × (map (child_under later) new.children ≡ children variables)
      reached variables trees solves h =
          let last : TreeState = ended (children variables) (map (literal_under trees) branch) closed_by in
          let on = wants_are_reached bodies code (before_step vars s branch cells) new variables trees last runs is
          (stands_before variables trees solves) (given variables trees h) in
          (on.0, on.1, on.2.solves, ap (λ (st : TreeState). st.children) on.3)

      pub is_step : IsStep (before_step vars s branch cells) new holds children closed_by
      is_step =
          let sound = (runs_stay_in_stores bodies code (before_step vars s branch cells) new runs is).0.sound in
          let own = shown (tree new.equations) (trees_solve new.equations sound) in
          record {
            solutions = record {
              shown = λ trees solves.
                  let found = shown trees solves in
                  (found.0, found.1, found.2, ap (λ (st : TreeState). st.children) found.3);
              reached = reached;
            };
            stack = no_cells (tree new.equations) new.stack (ap (λ (st : TreeState). st.stack) own.3);
            closed_by = ap (λ (st : TreeState). st.closed_by) own.3;
          }

    pub has_no_solutions : RunFails bodies code (before_step vars s branch cells) → IsInStore (before_step vars s branch cells) → HasNoSolutions s holds
    has_no_solutions failed is variables trees solves h =
        failures_exclude bodies code (before_step vars s branch cells) variables trees (ended (children variables) (map (literal_under trees) branch) closed_by)
        failed is (stands_before variables trees solves) (given variables trees h)

module _ (bodies : ℕ → List Instruction) (c : ℕ) (literals : List Literal) (vars : ℕ) (s : Equations) (branch : List CellLiteral) (body : bodies c ≡ body_code literals) where
  start_wanted : (variables trees : ℕ → Term) (last : TreeState) → Wants variables bodies (start_code c) (state_under trees (before_step vars s branch [])) last
      → AsksNothing variables trees × (last ≡ ended (filled_children literals variables) (map (literal_under trees) branch) None)
  start_wanted variables trees last wants =
      (tt, (starts_append variables bodies c literals (state_under trees (before_step vars s branch [])) last body).0 wants)

  start_given : (variables trees : ℕ → Term) → AsksNothing variables trees
      → Wants variables bodies (start_code c) (state_under trees (before_step vars s branch [])) (ended (filled_children literals variables) (map (literal_under trees) branch) None)
  start_given variables trees h =
      (starts_append variables bodies c literals (state_under trees (before_step vars s branch [])) (ended (filled_children literals variables) (map (literal_under trees) branch) None) body).1 refl

  module _ (j : ℕ) (literal : Literal) (cells : List ℕ) (counted : length cells ≡ length literal.args) where
    extension_wanted : (variables trees : ℕ → Term) (last : TreeState)
        → Wants variables bodies (extension_code c j literal) (state_under trees (before_step vars s branch cells)) last
        → HasFilledArgs cells literal variables trees × (last ≡ ended (filled_and_closed j literals variables) (map (literal_under trees) branch) None)
    extension_wanted variables trees last wants =
        let found = (extensions_pop_and_append variables bodies c j literal literals (state_under trees (before_step vars s branch cells)) last body).0 wants in
        let args : List Term = map (fill variables) literal.args in
        let parts = append_parts (map trees cells) args [] found.0 (length-map cells trees ∙ counted ∙ sym (length-map literal.args (fill variables)))
        (append-nil (map trees cells) ∙ found.1) in
        let children : List TreeChild = filled_and_closed j literals variables in (
          parts.0,
          found.2 ∙ ap (λ (ts : List Term). let st : TreeState = record { stack = ts; children = children; branch = map (literal_under trees) branch; closed_by = None } in st) (sym parts.1),
        )

    extension_given : (variables trees : ℕ → Term) → HasFilledArgs cells literal variables trees
        → Wants variables bodies (extension_code c j literal) (state_under trees (before_step vars s branch cells))
        (ended (filled_and_closed j literals variables) (map (literal_under trees) branch) None)
    extension_given variables trees same =
        (extensions_pop_and_append variables bodies c j literal literals (state_under trees (before_step vars s branch cells))
        (ended (filled_and_closed j literals variables) (map (literal_under trees) branch) None) body).1
        ([], same ∙ sym (append-nil (map (fill variables) literal.args)), refl)

module _ (bodies : ℕ → List Instruction) (k vars : ℕ) (s : Equations) (branch : List CellLiteral) (ancestor leaf : CellLiteral) (on : IsAncestor branch k ancestor leaf) where
  -- the leaf and the ancestor that are wanted are these
  reduction_wanted : (variables trees : ℕ → Term) (last : TreeState) → Wants variables bodies (reduction_code k) (state_under trees (before_step vars s branch [])) last
      → IsComplementaryUnder leaf ancestor variables trees × (last ≡ ended [] (map (literal_under trees) branch) (Some k))
  reduction_wanted variables trees last (middle, (up, low, there, opposite, leads), (end, done, stops)) =
      let found = same_ancestor (map (literal_under trees) branch) k (literal_under trees ancestor) (literal_under trees leaf) up low
      (ancestor_mapped (literal_under trees) branch k ancestor leaf on) there in
      (subst₂ AreComplementary (sym found.1) (sym found.0) opposite, stops ∙ done ∙ leads)

  reduction_given : (variables trees : ℕ → Term) → IsComplementaryUnder leaf ancestor variables trees
      → Wants variables bodies (reduction_code k) (state_under trees (before_step vars s branch [])) (ended [] (map (literal_under trees) branch) (Some k))
  reduction_given variables trees opposite =
      let last : TreeState = ended [] (map (literal_under trees) branch) (Some k) in (
        last,
        (
          literal_under trees ancestor,
          literal_under trees leaf,
          ancestor_mapped (literal_under trees) branch k ancestor leaf on,
          opposite,
          refl,
        ),
        (last, refl, refl),
      )

pub starts_are_steps : StartsAreSteps
starts_are_steps bodies c literals vars s branch new body runs is =
    is_step bodies (start_code c) vars s branch [] AsksNothing (filled_children literals) None
    (start_wanted bodies c literals vars s branch body) (start_given bodies c literals vars s branch body) new runs is

pub starts_never_fail : StartsNeverFail
starts_never_fail bodies c literals vars s branch body is failed =
    has_no_solutions bodies (start_code c) vars s branch [] AsksNothing (filled_children literals) None
    (start_wanted bodies c literals vars s branch body) (start_given bodies c literals vars s branch body) failed is
    var (tree s) (trees_solve s is.sound) tt

pub extensions_are_steps : ExtensionsAreSteps
extensions_are_steps bodies c j literal literals vars s branch cells new body counted runs is =
    is_step bodies (extension_code c j literal) vars s branch cells (HasFilledArgs cells literal) (filled_and_closed j literals) None
    (extension_wanted bodies c literals vars s branch body j literal cells counted) (extension_given bodies c literals vars s branch body j literal cells counted) new runs is

pub extensions_fail : ExtensionsFail
extensions_fail bodies c j literal literals vars s branch cells body counted failed is =
    has_no_solutions bodies (extension_code c j literal) vars s branch cells (HasFilledArgs cells literal) (filled_and_closed j literals) None
    (extension_wanted bodies c literals vars s branch body j literal cells counted) (extension_given bodies c literals vars s branch body j literal cells counted) failed is

pub reductions_are_steps : ReductionsAreSteps
reductions_are_steps bodies k vars s branch ancestor leaf new on runs is =
    is_step bodies (reduction_code k) vars s branch [] (IsComplementaryUnder leaf ancestor) no_children (Some k)
    (reduction_wanted bodies k vars s branch ancestor leaf on) (reduction_given bodies k vars s branch ancestor leaf on) new runs is

pub reductions_fail : ReductionsFail
reductions_fail bodies k vars s branch ancestor leaf on failed is =
    has_no_solutions bodies (reduction_code k) vars s branch [] (IsComplementaryUnder leaf ancestor) no_children (Some k)
    (reduction_wanted bodies k vars s branch ancestor leaf on) (reduction_given bodies k vars s branch ancestor leaf on) failed is
