-- The first open node of the machine is the selected leaf of the calculus.
use Rattle.std.proofs.Common.{◌≡◌, ℕ, ◌+◌, inl, inr, List, [], ◌∷◌, ◌++◌, map, None, refl, sym, ◌∙◌, ap, ap₂, subst, arith}
use Rattle.std.specs.Prelude.{All}
use Rattle.std.proofs.lemmas.List.Elements.{All-nil, All-head, All-tail}
use Rattle.pm_store.proofs.ListLemmas.{All-right}
use Rattle.pm_run.specs.State.{CellLiteral}
use Rattle.pm_calculus.specs.Skeleton.{Skeletons, State, empty, rooted, selected, selected_among, built, nodes_of}
use Rattle.pm_calculus.proofs.Growth.{none_selected}
use Rattle.pm_machine.specs.State.{CellNode, shape_of, IsOpen, IsSelected, IsAncestorAt, IsBranchTo}
use Rattle.pm_machine.specs.Taken.{LeafOf}
use Rattle.pm_machine.specs.Laws.{SelectedLeavesAgree, NoLeafIsSelected, SelectedLeavesHaveBranches}
use Rattle.pm_machine.proofs.CellTrees.{open_leaf, CellTrees, skeletons_of, node_at, all_nodes_in, trees_from}
use Rattle.pm_machine.proofs.Contexts.{Context, plugged, IsFirst, ancestors_in, nodes_before, nodes_after, depth_in, nodes_around, depth_counts, none_open_among, none_open_before, ancestor_before, HasFirst, first_among, goal_in, depth_of_goal, selected_in}

-- the first item of a kind is one
pub first_is_one : {A : Type 0} (P : A → Type 0) (xs ys : List A) (x y : A) (us vs : List A) → xs ++ x ∷ us ≡ ys ++ y ∷ vs
    → All (λ z. ¬ P z) xs → All (λ z. ¬ P z) ys → P x → P y → (xs ≡ ys) × (x ≡ y) × (us ≡ vs)
first_is_one P [] [] x y us vs same nox noy px py = (refl, cc, cc)
first_is_one P [] (z ∷ ys) x y us vs same nox noy px py =
    let is : x ≡ z = cc in absurd (All-head (λ w. ¬ P w) z ys noy (subst P is px))
first_is_one P (z ∷ xs) [] x y us vs same nox noy px py =
    let is : y ≡ z = cc in absurd (All-head (λ w. ¬ P w) z xs nox (subst P is py))
first_is_one P (z ∷ xs) (w ∷ ys) x y us vs same nox noy px py =
    let is : z ≡ w = cc in
    let more : xs ++ x ∷ us ≡ ys ++ y ∷ vs = cc in
    let rest = first_is_one P xs ys x y us vs more (All-tail (λ v. ¬ P v) z xs nox) (All-tail (λ v. ¬ P v) w ys noy) px py in
    (ap₂ (λ v vs'. v ∷ vs') is rest.0, rest.1, rest.2)

-- a selected leaf is the open leaf of a context
pub record IsLeafAt (d : ℕ) (x : Context) (l : CellLiteral) (before : List CellNode) (leaf : CellNode) (after : List CellNode) : Type 0 where
  pub comes_after : before ≡ nodes_before d x
  pub is_leaf : leaf ≡ node_at (depth_in d x) l None None
  pub comes_before : after ≡ nodes_after d x

pub leaf_at : (d : ℕ) (x : Context) (l : CellLiteral) (before : List CellNode) (leaf : CellNode) (after : List CellNode) → IsFirst x
    → IsSelected (all_nodes_in d (plugged x (open_leaf l))) before leaf after → IsLeafAt d x l before leaf after
leaf_at d x l before leaf after is is_selected =
    let same : before ++ leaf ∷ after ≡ nodes_before d x ++ node_at (depth_in d x) l None None ∷ nodes_after d x = sym is_selected.stands ∙ nodes_around d x (open_leaf l) in
    let parts = first_is_one IsOpen before (nodes_before d x) leaf (node_at (depth_in d x) l None None) after (nodes_after d x) same is_selected.first (none_open_before d x is) is_selected.unclosed
    (record { leaf = refl; unclosed = refl }) in
    record { comes_after = parts.0; is_leaf = parts.1; comes_before = parts.2 }

-- the state's trees, and the context of the selected leaf among them
pub record HasLeaf (state : State) (nodes before : List CellNode) (leaf : CellNode) (after : List CellNode) : Type 0 where
  pub root : ℕ
  pub context : Context
  pub literal : CellLiteral
  pub is_first : IsFirst context
  pub is_state : state ≡ rooted root (skeletons_of (plugged context (open_leaf literal)))
  pub are_nodes : nodes ≡ all_nodes_in 1 (plugged context (open_leaf literal))
  pub at : IsLeafAt 1 context literal before leaf after

-- there is no leaf where none is open
none_is_open : (nodes before : List CellNode) (leaf : CellNode) (after : List CellNode) → IsSelected nodes before leaf after → All (λ node. ¬ IsOpen node) nodes → ⊥
none_is_open nodes before leaf after is_selected none =
    All-head (λ (node : CellNode). ¬ IsOpen node) leaf after
    (All-right (λ (node : CellNode). ¬ IsOpen node) before (leaf ∷ after) (subst (λ (ns : List CellNode). All (λ node. ¬ IsOpen node) ns) is_selected.stands none))
    is_selected.unclosed

first_has_leaf : (root : ℕ) (ts : CellTrees) (nodes before : List CellNode) (leaf : CellNode) (after : List CellNode) → nodes ≡ all_nodes_in 1 ts
    → IsSelected nodes before leaf after → HasFirst ts → HasLeaf (rooted root (skeletons_of ts)) nodes before leaf after
first_has_leaf root ts nodes before leaf after are is_selected (x, l, same, is) =
    let all_same : nodes ≡ all_nodes_in 1 (plugged x (open_leaf l)) = are ∙ ap (all_nodes_in 1) same in
    record {
      root = root;
      context = x;
      literal = l;
      is_first = is;
      is_state = ap (λ us. rooted root (skeletons_of us)) same;
      are_nodes = all_same;
      at = leaf_at 1 x l before leaf after is (subst (λ (ns : List CellNode). IsSelected ns before leaf after) all_same is_selected);
    }

pub has_leaf : (state : State) (nodes before : List CellNode) (leaf : CellNode) (after : List CellNode) → map shape_of nodes ≡ nodes_of state
    → IsSelected nodes before leaf after → HasLeaf state nodes before leaf after
has_leaf empty [] before leaf after shapes is_selected =
    absurd (none_is_open [] before leaf after is_selected (All-nil (λ (node : CellNode). ¬ IsOpen node)))
has_leaf empty (n ∷ ns) before leaf after shapes is_selected = absurd cc
has_leaf (rooted root ss) nodes before leaf after shapes is_selected =
    let there = trees_from 1 ss nodes shapes in
    elim (first_among there.0) [
      | inl are ↦ absurd (none_is_open nodes before leaf after is_selected (subst (λ (ns : List CellNode). All (λ node. ¬ IsOpen node) ns) (sym there.2) (none_open_among 1 there.0 are)))
      | inr h ↦ subst (λ (us : Skeletons). HasLeaf (rooted root us) nodes before leaf after) there.1 (first_has_leaf root there.0 nodes before leaf after there.2 is_selected h)
    ]

pub selected_leaves_agree : SelectedLeavesAgree
selected_leaves_agree problem m before leaf after is_built is_selected =
    let h = has_leaf (built problem.clauses m.steps) m.nodes before leaf after is_built.shapes is_selected in (
      goal_in [] h.context h.literal,
      ap selected h.is_state ∙ selected_in [] h.context h.literal h.is_first,
      record {
        depth = ap (λ (n : CellNode). n.depth) h.at.is_leaf ∙ sym (depth_of_goal [] h.context h.literal 1 refl);
        face = ap (λ (n : CellNode). (shape_of n).face) h.at.is_leaf;
      },
    )

none_selected_in : (state : State) (nodes : List CellNode) → map shape_of nodes ≡ nodes_of state → All (λ node. ¬ IsOpen node) nodes
    → selected state ≡ None
none_selected_in empty nodes shapes none = refl
none_selected_in (rooted root ss) nodes shapes none =
    let there = trees_from 1 ss nodes shapes in
    elim (first_among there.0) [
      | inl are ↦ ap (selected_among []) (sym there.1) ∙ none_selected [] (skeletons_of there.0) are
      | inr h ↦ absurd (none_is_open nodes (nodes_before 1 h.0) (node_at (depth_in 1 h.0) h.1 None None) (nodes_after 1 h.0)
          (record {
            stands = there.2 ∙ ap (all_nodes_in 1) h.2 ∙ nodes_around 1 h.0 (open_leaf h.1);
            unclosed = record { leaf = refl; unclosed = refl };
            first = none_open_before 1 h.0 h.3;
          }) none)
    ]

pub no_leaf_is_selected : NoLeafIsSelected
no_leaf_is_selected problem m is_built none = none_selected_in (built problem.clauses m.steps) m.nodes is_built.shapes none

-- the branch to the leaf of a context
pub branch_in : (x : Context) (l : CellLiteral) (before : List CellNode) (leaf : CellNode) (after : List CellNode) → IsLeafAt 1 x l before leaf after
    → IsBranchTo before leaf (map (λ node. node.literal) (ancestors_in 1 x) ++ leaf.literal ∷ [])
branch_in x l before leaf after is = record {
  above = ancestors_in 1 x;
  literals = refl;
  depth = ap (λ (n : CellNode). n.depth) is.is_leaf ∙ omega (arith, depth_counts 1 x);
  ancestors = λ place ancestor stands.
      subst (λ (ns : List CellNode). IsAncestorAt ns (place + 1) ancestor) (sym is.comes_after) (ancestor_before 1 x place (place + 1) ancestor stands (omega arith));
}

pub selected_leaves_have_branches : SelectedLeavesHaveBranches
selected_leaves_have_branches problem m before leaf after is_built is_selected =
    let h = has_leaf (built problem.clauses m.steps) m.nodes before leaf after is_built.shapes is_selected in
    let found : LeafOf m = record {
      before = before;
      leaf = leaf;
      after = after;
      branch = map (λ node. node.literal) (ancestors_in 1 h.context) ++ leaf.literal ∷ [];
      selected = is_selected;
      leads = branch_in h.context h.literal before leaf after h.at;
    } in
    (found, refl, refl, refl)
