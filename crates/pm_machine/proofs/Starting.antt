-- A start, taken.
use Rattle.std.proofs.Common.{◌≡◌, inl, inr, ℕ, ◌<◌, List, [], length, map, Some, slice_get, refl, sym, ◌∙◌, ap, ap₂, subst, arith}
use Rattle.std.specs.Prelude.{◌↔◌, All}
use Rattle.std.proofs.lemmas.List.Sums.{fold_push}
use Rattle.std.proofs.lemmas.List.Elements.{All-nil, All-map}
use Rattle.std.proofs.lemmas.Option.{slice_get_cases}
use Rattle.pm_logic.specs.Term.{Term}
use Rattle.pm_logic.specs.Problem.{Literal, Problem, IsValid}
use Rattle.pm_logic.specs.Tableau.{Nodes, Tableau}
use Rattle.pm_store.specs.Equations.{Equations}
use Rattle.pm_store.specs.Sound.{IsSound}
use Rattle.pm_store.specs.Trees.{tree}
use Rattle.pm_store.proofs.TreeLemmas.{trees_solve}
use Rattle.pm_compile.specs.Scheme.{start_code}
use Rattle.pm_run.specs.State.{CellLiteral, Child, RunState, child_under}
use Rattle.pm_run.specs.Wants.{filled_literal}
use Rattle.pm_run.specs.InStore.{HasArgsBelow}
use Rattle.pm_run.specs.Bodies.{bodies_of, variables_at}
use Rattle.pm_run.specs.Steps.{before_step, StepSolutions, AsksNothing, filled_children}
use Rattle.pm_run.proofs.KeepLemmas.{runs_stay_in_stores}
use Rattle.pm_run.proofs.StepLemmas.{steps_begin_in_stores, starts_are_steps}
use Rattle.pm_calculus.specs.Connection.{IsFamily}
use Rattle.pm_calculus.specs.Skeleton.{empty, rooted, leaves, literals_at, start, after_step, built}
use Rattle.pm_calculus.specs.Choices.{IsLabelling}
use Rattle.pm_machine.specs.State.{CellNode, MachineState, child_at}
use Rattle.pm_machine.specs.Labels.{HasItsCount, IsBuilt}
use Rattle.pm_machine.specs.Taken.{begun, Starts}
use Rattle.pm_machine.proofs.CellTrees.{CellTrees, skeletons_of, all_nodes_in, nodes_over}
use Rattle.pm_machine.proofs.Leaves.{leaf_nodes, leaves_have_families, leaves_fit, fit_leaves, child_leaves, nodes_of_children, children_over, filled_are, filled_skeletons, children_counted}
use Rattle.pm_machine.proofs.Clauses.{HasClause, clause_there, filled_family, family_filled}
use Rattle.pm_machine.proofs.InPlace.{tableau_over, IsShownOver, IsBuiltAs, is_built}

there_is_one : {A : Type 0} (xs : List A) (i : ℕ) → i < length xs → (x : A) × (slice_get xs i ≡ Some x)
there_is_one xs i lt =
    elim (slice_get_cases xs i).1 [
      | inl h ↦ (h.0, h.2)
      | inr h ↦ absurd (omega (arith, lt, h.0))
    ]

-- the solutions of a start's run are the instances of its clause
module _ (problem : Problem) (c : ℕ) (given : HasClause problem c) (s : Equations) (sound : IsSound s) (last : RunState)
    (solutions : StepSolutions (before_step (variables_at problem.clauses c) s [] []) last AsksNothing (filled_children (literals_at problem.clauses c))) where
  abbrev pub started : CellTrees
  started = child_leaves 0 last.children

  started_over : (variables trees : ℕ → Term) → map (child_under trees) last.children ≡ filled_children (literals_at problem.clauses c) variables
      → nodes_over trees started ≡ leaf_nodes (map (filled_literal variables) (literals_at problem.clauses c))
  started_over variables trees children =
      children_over trees 0 last.children ∙ ap leaf_nodes (filled_are trees variables last.children (literals_at problem.clauses c) children)

  solution_labels : (t : Tableau) → IsShownOver last.equations c started t → IsLabelling problem.clauses (rooted c (leaves (literals_at problem.clauses c))) t
  solution_labels t h =
      let ls : List Literal = literals_at problem.clauses c in
      let found = solutions.shown h.trees h.solves in
      let shown : tableau_over h.trees c started ≡ record { root = c; children = leaf_nodes (map (filled_literal found.0) ls) } =
      ap (λ (ns : Nodes). let u : Tableau = record { root = c; children = ns } in u) (started_over found.0 h.trees found.3) in
      let labelling : IsLabelling problem.clauses (rooted c (leaves ls)) (record { root = c; children = leaf_nodes (map (filled_literal found.0) ls) }) =
      record {
        fits = (refl, fit_leaves (filled_literal found.0) [] ls);
        over = (filled_family problem c given found.0, leaves_have_families problem.clauses (map (filled_literal found.0) ls));
      } in
      subst (IsLabelling problem.clauses (rooted c (leaves ls))) (sym (h.shown ∙ shown)) labelling

  labelling_shown : (t : Tableau) → IsLabelling problem.clauses (rooted c (leaves (literals_at problem.clauses c))) t → IsShownOver last.equations c started t
  labelling_shown t h =
      let ls : List Literal = literals_at problem.clauses c in
      let family : IsFamily problem.clauses c t.children = subst (λ r. IsFamily problem.clauses r t.children) (sym h.fits.0) h.over.0 in
      let filled = family_filled problem c t.children given family in
      let found = solutions.reached filled.0 (tree s) (trees_solve s sound) tt in
      let children : t.children ≡ nodes_over found.0 started =
      leaves_fit [] ls t.children h.fits.1 ∙ ap leaf_nodes filled.1 ∙ sym (started_over filled.0 found.0 found.3) in
      record {
        trees = found.0;
        solves = found.2;
        shown = ap₂ (λ r ns. let u : Tableau = record { root = r; children = ns } in u) (sym h.fits.0) children;
      }

  pub start_labels : (t : Tableau) → IsLabelling problem.clauses (rooted c (leaves (literals_at problem.clauses c))) t ↔ IsShownOver last.equations c started t
  start_labels t = (labelling_shown t, solution_labels t)

-- what holds of the children's literals holds of the first nodes
started_hold : (P : CellLiteral → Type 0) (children : List Child) → All (λ child. P child.literal) children → All (λ node. P node.literal) (all_nodes_in 1 (child_leaves 0 children))
started_hold P children all =
    let at_node : CellNode → Type 0 = λ node. P node.literal in
    subst (All at_node) (sym (nodes_of_children 0 children)) (All-map at_node (child_at 0) children all)

pub start_builds : (problem : Problem) (c : ℕ) (m new : MachineState) → IsValid problem → IsSound m.equations → built problem.clauses m.steps ≡ empty
    → c < length problem.clauses → Starts problem.clauses c m new → IsBuilt problem new
start_builds problem c m new valid sound nothing within taken =
    let last : RunState = taken.last in
    let ls : List Literal = literals_at problem.clauses c in
    let vars : ℕ = variables_at problem.clauses c in
    let some_clause = there_is_one problem.clauses c within in
    let given = clause_there problem c some_clause.0 valid some_clause.1 in
    let in_store = steps_begin_in_stores vars m.equations [] [] sound (All-nil (λ c'. c' < length m.equations.cells)) (All-nil (HasArgsBelow (length m.equations.cells))) in
    let step = starts_are_steps (bodies_of problem.clauses) c ls vars m.equations [] last refl taken.runs in_store in
    let stays = runs_stay_in_stores (bodies_of problem.clauses) (start_code c) (begun m vars [] []) last taken.runs in_store in
    let some = step.solutions.shown (tree last.equations) (trees_solve last.equations stays.0.sound) in
    let ts : CellTrees = child_leaves 0 last.children in
    let skeletons : skeletons_of ts ≡ leaves ls = filled_skeletons (tree last.equations) some.0 0 last.children ls some.3 in
    let there : IsBuiltAs problem last.equations c ts = record {
      sound = stays.0.sound;
      cells = started_hold (HasArgsBelow (length last.equations.cells)) last.children stays.0.cells.children;
      counts = started_hold (HasItsCount problem.symbols) last.children
          (children_counted problem.symbols (tree last.equations) some.0 given.clause.vars last.children ls (filled_are (tree last.equations) some.0 last.children ls some.3) given.over);
      labels = λ t. subst (λ us. IsLabelling problem.clauses (rooted c us) t ↔ IsShownOver last.equations c ts t) (sym skeletons)
          (start_labels problem c given m.equations sound last step.solutions t);
    } in
    let state : built problem.clauses new.steps ≡ rooted c (skeletons_of ts) =
    ap (built problem.clauses) taken.steps ∙ fold_push (after_step problem.clauses) empty m.steps (start c)
    ∙ ap (λ st. after_step problem.clauses st (start c)) nothing ∙ ap (rooted c) (sym skeletons) in
    let nodes : new.nodes ≡ all_nodes_in 1 ts = taken.nodes ∙ sym (nodes_of_children 0 last.children) in
    is_built problem new c ts state nodes (subst (λ e. IsBuiltAs problem e c ts) (sym taken.equations) there)
