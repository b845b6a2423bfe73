-- How a step changes which branches have a literal twice.
use Rattle.std.proofs.Common.{◌≡◌, ℕ, List, [], ◌∷◌, ◌++◌, map, sym, ◌∙◌, ap, subst, arith}
use Rattle.std.specs.Prelude.{◌↔◌, Contains}
use Rattle.std.proofs.lemmas.List.Elements.{All-nil, All-cons}
use Rattle.pm_logic.specs.Term.{Term}
use Rattle.pm_logic.specs.Problem.{Literal, Problem}
use Rattle.pm_logic.specs.Tableau.{leaf, inner}
use Rattle.pm_run.specs.State.{CellLiteral, Child, literal_under}
use Rattle.pm_calculus.specs.Connection.{IsRegular, AreRegularBelow}
use Rattle.pm_machine.specs.State.{CellNode, MachineState, child_at}
use Rattle.pm_machine.specs.Labels.{IsBuilt, tableau_under}
use Rattle.pm_machine.specs.Taken.{LeafOf}
use Rattle.pm_machine.proofs.CellTrees.{CellTree, CellTrees, open_leaf, grown, all_nodes_in, nodes_over, forest_over}
use Rattle.pm_machine.proofs.Contexts.{Context, plugged, plugged_over, nodes_plugged, depth_in, ancestors_in}
use Rattle.pm_machine.proofs.Replaced.{literals_above, above_are_ancestors}
use Rattle.pm_machine.proofs.Leaves.{leaf_nodes, child_leaves, nodes_of_children, children_over}
use Rattle.pm_machine.proofs.AtLeaf.{leaf_of}
use Rattle.pm_tab.proofs.Around.{AreNew, regular_leaves, grown_regular}

-- the tableau of nodes that are those of trees is regular where these are
regular_of : (trees : ℕ → Term) (root : ℕ) (nodes : List CellNode) (ts : CellTrees) → nodes ≡ all_nodes_in 1 ts
    → IsRegular (tableau_under trees root nodes) ≡ AreRegularBelow [] (nodes_over trees ts)
regular_of trees root nodes ts are =
    ap (λ ns. IsRegular (tableau_under trees root ns)) are ∙ ap (AreRegularBelow []) (forest_over trees ts)

-- the literals of children over trees
abbrev pub child_literals : (ℕ → Term) → List Child → List Literal
child_literals trees children = map (λ child. literal_under trees child.literal) children

none_contained : (l : Literal) → ¬ Contains [] l
none_contained l h = omega (arith, h.1)

all_new : (ls : List Literal) → AreNew [] ls
all_new [] = All-nil (λ l. ¬ Contains [] l)
all_new (l ∷ ls) = All-cons (λ l. ¬ Contains [] l) l ls (none_contained l) (all_new ls)

-- after a start no branch has a literal twice
pub started_regular : (trees : ℕ → Term) (root : ℕ) (children : List Child) (nodes : List CellNode) → nodes ≡ map (child_at 0) children
    → IsRegular (tableau_under trees root nodes)
started_regular trees root children nodes are =
    let ts : CellTrees = child_leaves 0 children in
    let same : nodes ≡ all_nodes_in 1 ts = are ∙ sym (nodes_of_children 0 children) in
    subst (λ (P : Type 0). P) (sym (regular_of trees root nodes ts same))
    (subst (AreRegularBelow []) (sym (children_over trees 0 children)) ((regular_leaves [] (child_literals trees children)).1 (all_new (child_literals trees children))))

module _ (problem : Problem) (m : MachineState) (at : LeafOf m) (is : IsBuilt problem m) (trees : ℕ → Term) (root : ℕ) where
  abbrev x : Context
  x = (leaf_of problem m at is).context

  abbrev l : CellLiteral
  l = (leaf_of problem m at is).literal

  -- the literals above the leaf's children
  abbrev pub above : List Literal
  above = map (λ node. literal_under trees node.literal) (ancestors_in 1 x) ++ literal_under trees l ∷ []

  old_regular : IsRegular (tableau_under trees root m.nodes) ≡ AreRegularBelow [] (plugged_over trees x (leaf (literal_under trees l)))
  old_regular =
      regular_of trees root m.nodes (plugged x (open_leaf l)) (leaf_of problem m at is).are_nodes
      ∙ ap (AreRegularBelow []) (nodes_plugged trees x (open_leaf l))

  -- after an extension the children must be new
  pub extended_regular : (c : ℕ) (children : List Child) (nodes : List CellNode) → nodes ≡ all_nodes_in 1 (plugged x (grown l c (child_leaves (depth_in 1 x) children)))
      → IsRegular (tableau_under trees root nodes) ↔ (IsRegular (tableau_under trees root m.nodes) × AreNew above (child_literals trees children))
  extended_regular c children nodes are =
      let u : CellTree = grown l c (child_leaves (depth_in 1 x) children) in
      let over : nodes_over trees (plugged x u) ≡ plugged_over trees x (inner (literal_under trees l) c (leaf_nodes (child_literals trees children))) =
      nodes_plugged trees x u ∙ ap (λ ns. plugged_over trees x (inner (literal_under trees l) c ns)) (children_over trees (depth_in 1 x) children) in
      let new = regular_of trees root nodes (plugged x u) are ∙ ap (AreRegularBelow []) over in
      let there = grown_regular trees x (literal_under trees l) c (child_literals trees children) in
      let same : literals_above trees [] x ++ literal_under trees l ∷ [] ≡ above = ap (λ ls. ls ++ literal_under trees l ∷ []) (above_are_ancestors trees [] x 1) in (
        λ h. let k = there.0 (subst (λ (P : Type 0). P) new h) in
            (subst (λ (P : Type 0). P) (sym old_regular) k.0, subst (λ ks. AreNew ks (child_literals trees children)) same k.1),
        λ (h, are_new). subst (λ (P : Type 0). P) (sym new)
            (there.1 (subst (λ (P : Type 0). P) old_regular h, subst (λ ks. AreNew ks (child_literals trees children)) (sym same) are_new)),
      )
