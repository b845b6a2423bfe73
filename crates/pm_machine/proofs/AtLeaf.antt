-- The selected leaf of a machine, its context, and its branch.
use Rattle.std.proofs.Common.{◌≡◌, ℕ, zero, suc, ◌<◌, List, [], ◌∷◌, ◌++◌, length, map, Option, Some, IsSomeAnd, slice_get, refl, sym, ◌∙◌, ap, ap₂, subst, arith}
use Rattle.std.specs.Prelude.{All}
use Rattle.std.proofs.lemmas.List.{length-map}
use Rattle.std.proofs.lemmas.List.Sums.{fold_push}
use Rattle.std.proofs.lemmas.List.Elements.{All-nil, All-cons, All-head, All-append, All-map}
use Rattle.pm_logic.specs.Term.{Term}
use Rattle.pm_logic.specs.Problem.{Literal, Problem}
use Rattle.pm_store.proofs.ListLemmas.{All-left, All-right, slice_get-last}
use Rattle.pm_run.specs.State.{CellLiteral, literal_under}
use Rattle.pm_run.specs.InStore.{AreBelow, HasArgsBelow, IsInStore}
use Rattle.pm_run.specs.Steps.{before_step}
use Rattle.pm_run.proofs.StepLemmas.{steps_begin_in_stores}
use Rattle.pm_calculus.specs.Skeleton.{Subgoal, State, empty, rooted, Step, extend, reduce, after_step, built, extension, reduction}
use Rattle.pm_calculus.specs.Alternatives.{IsStepAt, MayTake}
use Rattle.pm_calculus.specs.Choices.{at_depth}
use Rattle.pm_machine.specs.State.{CellNode, MachineState, IsAncestorAt, IsBranchTo}
use Rattle.pm_machine.specs.Labels.{IsBuilt}
use Rattle.pm_machine.specs.Taken.{LeafOf}
use Rattle.pm_machine.proofs.CellTrees.{CellTree, open_leaf, skeletons_of, nodes_in, all_nodes_in}
use Rattle.pm_machine.proofs.Contexts.{Context, plugged, skeletons_around, ancestors_in, depth_in, nodes_around, depth_counts, filled_in, goal_in, selected_in}
use Rattle.pm_machine.proofs.Selected.{HasLeaf, has_leaf}
use Rattle.pm_machine.proofs.Replaced.{literals_above, above_are_ancestors}
use Rattle.pm_machine.proofs.InPlace.{IsBuiltAs, built_as}

-- the last item that isn't of a kind is one
last_is_one : {A : Type 0} (P : A → Type 0) (xs ys : List A) (x y : A) (us vs : List A) → xs ++ x ∷ us ≡ ys ++ y ∷ vs
    → All P us → All P vs → ¬ P x → ¬ P y → x ≡ y
last_is_one P [] [] x y us vs same pus pvs nox noy = cc
last_is_one P [] (z ∷ ys) x y us vs same pus pvs nox noy =
    let rest : us ≡ ys ++ y ∷ vs = cc in absurd (noy (All-head P y vs (All-right P ys (y ∷ vs) (subst (All P) rest pus))))
last_is_one P (z ∷ xs) [] x y us vs same pus pvs nox noy =
    let rest : vs ≡ xs ++ x ∷ us = cc in absurd (nox (All-head P x us (All-right P xs (x ∷ us) (subst (All P) rest pvs))))
last_is_one P (z ∷ xs) (w ∷ ys) x y us vs same pus pvs nox noy =
    let rest : xs ++ x ∷ us ≡ ys ++ y ∷ vs = cc in last_is_one P xs ys x y us vs rest pus pvs nox noy

-- there is one ancestor at a depth
pub same_ancestor : (before : List CellNode) (k : ℕ) (a b : CellNode) → IsAncestorAt before k a → IsAncestorAt before k b → a ≡ b
same_ancestor before k a b h g =
    last_is_one (λ (node : CellNode). k < node.depth) h.earlier g.earlier a b h.later g.later (sym h.stands ∙ g.stands) h.last g.last
    (λ lt. omega (arith, lt, h.at_depth)) (λ lt. omega (arith, lt, g.at_depth))

all_from_places : {A : Type 0} (P : A → Type 0) (xs : List A) → ((i : ℕ) (x : A) → slice_get xs i ≡ Some x → P x) → All P xs
all_from_places P [] each = All-nil P
all_from_places P (x ∷ xs) each = All-cons P x xs (each zero x refl) (all_from_places P xs (λ i y is. each (suc i) y is))

-- what holds of all nodes before a leaf and of the leaf holds of the literals of its branch
branch_holds : (P : CellLiteral → Type 0) (before : List CellNode) (leaf : CellNode) (branch : List CellLiteral) → IsBranchTo before leaf branch
    → All (λ node. P node.literal) before → P leaf.literal → All P branch
branch_holds P before leaf branch leads all own =
    let at_node : CellNode → Type 0 = λ node. P node.literal in
    let above = all_from_places at_node leads.above (λ place ancestor is.
    let h = leads.ancestors place ancestor is in
    All-head at_node ancestor h.later (All-right at_node h.earlier (ancestor ∷ h.later) (subst (All at_node) h.stands all))) in
    subst (All P) (sym leads.literals)
    (All-append P (map (λ (node : CellNode). node.literal) leads.above) (leaf.literal ∷ []) (All-map P (λ (node : CellNode). node.literal) leads.above above)
    (All-cons P leaf.literal [] own (All-nil P)))

-- the literals above a leaf are as many as its depth says
pub above_counts : (trees : ℕ → Term) (x : Context) → depth_in 1 x ≡ suc (length (literals_above trees [] x))
above_counts trees x =
    let same : length (literals_above trees [] x) ≡ length (ancestors_in 1 x) =
    ap length (above_are_ancestors trees [] x 1) ∙ length-map (ancestors_in 1 x) (λ (node : CellNode). literal_under trees node.literal) in
    omega (arith, depth_counts 1 x, same)

-- the parent of a leaf's children stands at the leaf's depth
pub parent_at_depth : (above : List Literal) (m : Literal) (d : ℕ) → d ≡ suc (length above) → at_depth (above ++ m ∷ []) d ≡ Some m
parent_at_depth above m d is = ap (at_depth (above ++ m ∷ [])) is ∙ slice_get-last above m

module _ (problem : Problem) (m : MachineState) (at : LeafOf m) (is : IsBuilt problem m) where
  abbrev pub leaf_of : HasLeaf (built problem.clauses m.steps) m.nodes at.before at.leaf at.after
  leaf_of = has_leaf (built problem.clauses m.steps) m.nodes at.before at.leaf at.after is.shapes at.selected

  pub built_there : IsBuiltAs problem m.equations leaf_of.root (plugged leaf_of.context (open_leaf leaf_of.literal))
  built_there = built_as problem m leaf_of.root (plugged leaf_of.context (open_leaf leaf_of.literal)) leaf_of.is_state leaf_of.are_nodes is

  pub leaf_holds : (P : CellLiteral → Type 0) → All (λ node. P node.literal) m.nodes → P at.leaf.literal
  leaf_holds P all =
      let at_node : CellNode → Type 0 = λ node. P node.literal in
      All-head at_node at.leaf at.after (All-right at_node at.before (at.leaf ∷ at.after) (subst (All at_node) at.selected.stands all))

  pub leaf_same : at.leaf.literal ≡ leaf_of.literal
  leaf_same = ap (λ (node : CellNode). node.literal) leaf_of.at.is_leaf

  pub literal_holds : (P : CellLiteral → Type 0) → All (λ node. P node.literal) m.nodes → P leaf_of.literal
  literal_holds P all = subst P leaf_same (leaf_holds P all)

  -- a step at the leaf begins in the store
  pub begins_in_store : (vars : ℕ) (cells : List ℕ) → AreBelow (length m.equations.cells) cells
      → IsInStore (before_step vars m.equations at.branch cells)
  begins_in_store vars cells below =
      let at_node : CellNode → Type 0 = λ node. HasArgsBelow (length m.equations.cells) node.literal in
      steps_begin_in_stores vars m.equations at.branch cells is.sound below
      (branch_holds (HasArgsBelow (length m.equations.cells)) at.before at.leaf at.branch at.leads
      (All-left at_node at.before (at.leaf ∷ at.after) (subst (All at_node) at.selected.stands is.cells))
      (leaf_holds (HasArgsBelow (length m.equations.cells)) is.cells))

  -- the step is one that may be taken at the leaf's subgoal
  pub step_at_leaf : (step : Step) → MayTake problem.clauses (built problem.clauses m.steps) step
      → IsStepAt problem.clauses (goal_in [] leaf_of.context leaf_of.literal) step
  step_at_leaf step may =
      let there : MayTake problem.clauses (rooted leaf_of.root (skeletons_of (plugged leaf_of.context (open_leaf leaf_of.literal)))) step =
      subst (λ (st : State). MayTake problem.clauses st step) leaf_of.is_state may in
      subst (λ (o : Option Subgoal). IsSomeAnd o (λ goal. IsStepAt problem.clauses goal step)) (selected_in [] leaf_of.context leaf_of.literal leaf_of.is_first) there

  pub extended_state : (c j : ℕ) → built problem.clauses (m.steps ++ extend c j ∷ [])
      ≡ rooted leaf_of.root (skeletons_around leaf_of.context (extension problem.clauses c j (goal_in [] leaf_of.context leaf_of.literal)))
  extended_state c j =
      fold_push (after_step problem.clauses) empty m.steps (extend c j) ∙ ap (λ st. after_step problem.clauses st (extend c j)) leaf_of.is_state
      ∙ ap (rooted leaf_of.root) (filled_in (extension problem.clauses c j) [] leaf_of.context leaf_of.literal leaf_of.is_first)

  pub reduced_state : (k : ℕ) → built problem.clauses (m.steps ++ reduce k ∷ [])
      ≡ rooted leaf_of.root (skeletons_around leaf_of.context (reduction k (goal_in [] leaf_of.context leaf_of.literal)))
  reduced_state k =
      fold_push (after_step problem.clauses) empty m.steps (reduce k) ∙ ap (λ st. after_step problem.clauses st (reduce k)) leaf_of.is_state
      ∙ ap (rooted leaf_of.root) (filled_in (reduction k) [] leaf_of.context leaf_of.literal leaf_of.is_first)

  -- what takes the leaf's place stands between the same nodes
  pub nodes_there : (u : CellTree) → at.before ++ (nodes_in (depth_in 1 leaf_of.context) u ++ at.after) ≡ all_nodes_in 1 (plugged leaf_of.context u)
  nodes_there u =
      ap₂ (λ xs ys. xs ++ (nodes_in (depth_in 1 leaf_of.context) u ++ ys)) leaf_of.at.comes_after leaf_of.at.comes_before ∙ sym (nodes_around 1 leaf_of.context u)
