-- A reduction, taken or failed, at the selected leaf of a machine.
use Rattle.std.proofs.Common.{◌≡◌, ℕ, suc, ◌+◌, ◌-◌, ◌<◌, ◌≤◌, List, [], ◌∷◌, ◌++◌, length, map, get_or, Some, None, IsSomeAnd, option_map, slice_get, refl, sym, ◌∙◌, ap, subst, arith}
use Rattle.std.proofs.lemmas.List.Elements.{All-nil, All-cons}
use Rattle.std.proofs.lemmas.Option.{slice_get-map, slice_get-get_or}
use Rattle.pm_logic.specs.Term.{Term}
use Rattle.pm_logic.specs.Problem.{Literal, Clause, Problem}
use Rattle.pm_logic.specs.Tableau.{Node, leaf, inner, Tableau}
use Rattle.pm_run.specs.State.{CellLiteral, RunState, IsAncestor, literal_under}
use Rattle.pm_run.specs.InStore.{HasArgsBelow, IsInStore}
use Rattle.pm_run.specs.Bodies.{bodies_of}
use Rattle.pm_run.specs.Steps.{reduction_code, StepSolutions, IsComplementaryUnder, no_children, HasNoSolutions}
use Rattle.pm_run.proofs.StoreLemmas.{later_is_longer, below_more}
use Rattle.pm_run.proofs.KeepLemmas.{runs_stay_in_stores}
use Rattle.pm_run.proofs.StepLemmas.{reductions_are_steps, reductions_fail}
use Rattle.pm_calculus.specs.Substitution.{AreComplementary}
use Rattle.pm_calculus.specs.Skeleton.{closed, State, rooted, reduce, built}
use Rattle.pm_calculus.specs.Choices.{at_depth, IsLabelling}
use Rattle.pm_calculus.specs.Alternatives.{MayTake}
use Rattle.pm_machine.specs.State.{CellNode, MachineState, IsAncestorAt}
use Rattle.pm_machine.specs.Labels.{HasItsCount, IsBuilt}
use Rattle.pm_machine.specs.Taken.{LeafOf, begun, Reduces, ReductionFails}
use Rattle.pm_machine.proofs.CellTrees.{CellTree, closed_leaf, face_at, skeletons_of, node_at, all_nodes_in}
use Rattle.pm_machine.proofs.Contexts.{Context, plugged, skeletons_plugged, ancestors_in, depth_in, depth_counts, ancestor_before, depth_of_goal}
use Rattle.pm_machine.proofs.Replaced.{literals_above, above_are_ancestors}
use Rattle.pm_machine.proofs.InPlace.{IsWithin, IsBuiltAs, literal_alike, Fills, apart, Makes, built_in_place, is_built}
use Rattle.pm_machine.proofs.AtLeaf.{same_ancestor, leaf_of, built_there, leaf_same, literal_holds, begins_in_store, step_at_leaf, reduced_state, nodes_there}

-- the ancestor at a depth, on the branch that code is run with and over trees
pub record HasAncestor (m : MachineState) (at : LeafOf m) (x : Context) (k : ℕ) : Type 0 where
  pub ancestor : CellLiteral
  pub on_branch : IsAncestor at.branch k ancestor at.leaf.literal
  pub over : (trees : ℕ → Term) → at_depth (literals_above trees [] x) k ≡ Some (literal_under trees ancestor)
  pub is_one : (other : CellNode) → IsAncestorAt at.before k other → ancestor ≡ other.literal

above_at : (trees : ℕ → Term) (x : Context) (place k : ℕ) (a : CellNode) → k ≡ suc place → slice_get (ancestors_in 1 x) place ≡ Some a
    → at_depth (literals_above trees [] x) k ≡ Some (literal_under trees a.literal)
above_at trees x place k a counted is =
    ap (at_depth (literals_above trees [] x)) counted ∙ ap (λ ls. slice_get ls place) (above_are_ancestors trees [] x 1)
    ∙ slice_get-map (λ (node : CellNode). literal_under trees node.literal) (ancestors_in 1 x) place
    ∙ ap (option_map (λ (node : CellNode). literal_under trees node.literal)) is

module _ (problem : Problem) (k : ℕ) (m : MachineState) (is : IsBuilt problem m) (may : MayTake problem.clauses (built problem.clauses m.steps) (reduce k)) where
  pub ancestor_there : (at : LeafOf m) → HasAncestor m at (leaf_of problem m at is).context k
  ancestor_there at =
      let h = leaf_of problem m at is in
      let x : Context = h.context in
      let bounds = step_at_leaf problem m at is (reduce k) may in
      let leaf_depth : at.leaf.depth ≡ depth_in 1 x = ap (λ (node : CellNode). node.depth) h.at.is_leaf in
      let depth = depth_of_goal [] x h.literal 1 refl in
      let counted = depth_counts 1 x in
      let place : ℕ = k - 1 in
      let a : CellNode = get_or (ancestors_in 1 x) place at.leaf in
      let b : CellNode = get_or at.leads.above place at.leaf in
      let is_a : slice_get (ancestors_in 1 x) place ≡ Some a = slice_get-get_or (ancestors_in 1 x) place at.leaf (omega (arith, bounds.0, bounds.1, depth, counted)) in
      let is_b : slice_get at.leads.above place ≡ Some b = slice_get-get_or at.leads.above place at.leaf (omega (arith, bounds.0, bounds.1, depth, leaf_depth, at.leads.depth)) in
      let next : place + 1 ≡ k = omega (arith, bounds.0) in
      let at_a : IsAncestorAt at.before k a =
      subst (λ (ns : List CellNode). IsAncestorAt ns k a) (sym h.at.comes_after) (ancestor_before 1 x place k a is_a (omega (arith, bounds.0))) in
      let at_b : IsAncestorAt at.before k b = subst (λ n. IsAncestorAt at.before n b) next (at.leads.ancestors place b is_b) in
      let same : a ≡ b = same_ancestor at.before k a b at_a at_b in
      record {
        ancestor = b.literal;
        on_branch = record {
          above = map (λ (node : CellNode). node.literal) at.leads.above;
          place = place;
          all = at.leads.literals;
          at_depth = sym next;
          stands = slice_get-map (λ (node : CellNode). node.literal) at.leads.above place ∙ ap (option_map (λ (node : CellNode). node.literal)) is_b;
        };
        over = λ trees. above_at trees x place k a (omega (arith, bounds.0)) is_a ∙ ap (λ (node : CellNode). Some (literal_under trees node.literal)) same;
        is_one = λ other is_other. ap (λ (node : CellNode). node.literal) (same_ancestor at.before k b other at_b is_other);
      }

  pub begun_in_store : (at : LeafOf m) → IsInStore (begun m 0 at.branch [])
  begun_in_store at = begins_in_store problem m at is 0 [] (All-nil (λ c. c < length m.equations.cells))

-- what a reduction makes of solutions, in the place of the leaf
module _ (clauses : List Clause) (l ancestor : CellLiteral) (x : Context) (k : ℕ)
    (over : (trees : ℕ → Term) → at_depth (literals_above trees [] x) k ≡ Some (literal_under trees ancestor)) where
  pub reduction_fills : (trees : ℕ → Term) → AreComplementary (literal_under trees l) (literal_under trees ancestor)
      → Fills clauses trees x l (closed (face_at l) k) (leaf (literal_under trees l))
  reduction_fills trees complementary = record {
    fits = subst (λ o. IsSomeAnd o (AreComplementary (literal_under trees l))) (sym (over trees)) complementary;
    families = tt;
    literal = refl;
  }

  pub fills_reduced : (trees : ℕ → Term) (n : Node) → Fills clauses trees x l (closed (face_at l) k) n
      → AreComplementary (literal_under trees l) (literal_under trees ancestor) × (n ≡ leaf (literal_under trees l))
  fills_reduced trees (inner m c ns) fills = absurd fills.fits
  fills_reduced trees (leaf m) fills =
      let closes : AreComplementary m (literal_under trees ancestor) = subst (λ o. IsSomeAnd o (AreComplementary m)) (over trees) fills.fits in
      (subst (λ (n : Literal). AreComplementary n (literal_under trees ancestor)) fills.literal closes, ap leaf fills.literal)

  pub reduction_makes : (begun last : RunState) → HasArgsBelow (length begun.equations.cells) l
      → StepSolutions begun last (IsComplementaryUnder l ancestor) no_children → Makes clauses begun.equations last.equations x l (closed_leaf l k)
  reduction_makes begun last below solutions = record {
    shows = λ trees solves. let h = solutions.shown trees solves in (h.1, reduction_fills trees h.2);
    reaches = λ trees n solves fills.
        let parts = fills_reduced trees n fills in
        let h = solutions.reached trees trees solves parts.0 in
        (h.0, h.1, h.2, ap leaf (literal_alike (length begun.equations.cells) trees h.0 l h.1 below) ∙ sym parts.1);
  }

module _ (problem : Problem) (k : ℕ) (m : MachineState) (is : IsBuilt problem m) (may : MayTake problem.clauses (built problem.clauses m.steps) (reduce k)) where
  pub failed_reduction : ReductionFails problem.clauses k m → (t : Tableau) → ¬ IsLabelling problem.clauses (built problem.clauses (m.steps ++ reduce k ∷ [])) t
  failed_reduction failed t labelling =
      let at = failed.at in
      let h = leaf_of problem m at is in
      let up = ancestor_there problem k m is may at in
      let none : HasNoSolutions m.equations (IsComplementaryUnder at.leaf.literal up.ancestor) =
      reductions_fail (bodies_of problem.clauses) k 0 m.equations at.branch up.ancestor at.leaf.literal up.on_branch failed.fails (begun_in_store problem k m is may at) in
      let there = subst (λ (st : State). IsLabelling problem.clauses st t) (reduced_state problem m at is k) labelling in
      let parts = apart problem m.equations h.root h.context h.literal h.is_first (built_there problem m at is) (closed (face_at h.literal) k) t there in
      let found = fills_reduced problem.clauses h.literal up.ancestor h.context k up.over parts.trees parts.node parts.fills in
      none parts.trees parts.trees parts.solves
      (subst (λ (l : CellLiteral). IsComplementaryUnder l up.ancestor parts.trees parts.trees) (sym (leaf_same problem m at is)) found.0)

  pub reduction_builds : (new : MachineState) → Reduces problem.clauses k m new → IsBuilt problem new
  reduction_builds new taken =
      let at = taken.at in
      let h = leaf_of problem m at is in
      let last : RunState = taken.last in
      let start : RunState = begun m 0 at.branch [] in
      let up = ancestor_there problem k m is may at in
      let same = leaf_same problem m at is in
      let in_store = begun_in_store problem k m is may at in
      let step = reductions_are_steps (bodies_of problem.clauses) k 0 m.equations at.branch up.ancestor at.leaf.literal last up.on_branch taken.runs in_store in
      let solutions : StepSolutions start last (IsComplementaryUnder h.literal up.ancestor) no_children =
      subst (λ (l : CellLiteral). StepSolutions start last (IsComplementaryUnder l up.ancestor) no_children) same step.solutions in
      let below : HasArgsBelow (length m.equations.cells) h.literal = literal_holds problem m at is (HasArgsBelow (length m.equations.cells)) is.cells in
      let counts = literal_holds problem m at is (HasItsCount problem.symbols) is.counts in
      let stays = runs_stay_in_stores (bodies_of problem.clauses) (reduction_code k) start last taken.runs in_store in
      let longer : length m.equations.cells ≤ length last.equations.cells = later_is_longer m.equations last.equations stays.1 in
      let makes = reduction_makes problem.clauses h.literal up.ancestor h.context k up.over start last below solutions in
      let u : CellTree = closed_leaf h.literal k in
      let d : ℕ = depth_in 1 h.context in
      let count : CellNode → Type 0 = λ node. HasItsCount problem.symbols node.literal in
      let within = All-cons (IsWithin (length last.equations.cells)) (node_at d h.literal None (Some k)) []
      (below_more (length m.equations.cells) (length last.equations.cells) h.literal.args longer below) (All-nil (IsWithin (length last.equations.cells))) in
      let counted = All-cons count (node_at d h.literal None (Some k)) [] counts (All-nil count) in
      let there = built_in_place problem m.equations last.equations h.root h.context h.literal u h.is_first (built_there problem m at is) makes stays.0.sound longer within counted in
      let state : built problem.clauses new.steps ≡ rooted h.root (skeletons_of (plugged h.context u)) =
      ap (built problem.clauses) taken.steps ∙ reduced_state problem m at is k ∙ ap (rooted h.root) (sym (skeletons_plugged h.context u)) in
      let nodes : new.nodes ≡ all_nodes_in 1 (plugged h.context u) =
      taken.nodes ∙ ap (λ (node : CellNode). at.before ++ record node { closed_by = last.closed_by } ∷ at.after) h.at.is_leaf
      ∙ ap (λ o. at.before ++ node_at d h.literal None o ∷ at.after) step.closed_by ∙ nodes_there problem m at is u in
      is_built problem new h.root (plugged h.context u) state nodes (subst (λ e. IsBuiltAs problem e h.root (plugged h.context u)) (sym taken.equations) there)
