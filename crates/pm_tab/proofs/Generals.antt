-- The general tableau of a machine's nodes.
use Rattle.std.proofs.Common.{◌≡◌, ℕ, zero, suc, ◌+◌, ◌<◌, List, [], ◌∷◌, length, map, slice_index_or, refl, sym, ◌∙◌, ap, ap₂, subst, arith}
use Rattle.std.specs.Prelude.{All}
use Rattle.std.specs.List.{range_with_len}
use Rattle.std.proofs.lemmas.List.Elements.{All-head, All-tail}
use Rattle.pm_logic.specs.declared.problem.Class.{Class}
use Rattle.pm_logic.specs.declared.problem.Class.TheVariants.{Plain, Regular}
use Rattle.pm_logic.specs.Term.{Term, var}
use Rattle.pm_logic.specs.Filling.{put, term_for}
use Rattle.pm_logic.specs.Tableau.{Nodes, leaf, inner, more_nodes, Tableau}
use Rattle.pm_store.specs.Entries.{Variable}
use Rattle.pm_store.specs.Equations.{Equations}
use Rattle.pm_store.specs.Solutions.{Solves}
use Rattle.pm_store.specs.Sound.{IsSound}
use Rattle.pm_store.specs.Trees.{tree}
use Rattle.pm_store.proofs.NumberLemmas.{fill-agree}
use Rattle.pm_store.proofs.TreeLemmas.{trees_solve, trees_are_general}
use Rattle.pm_store.proofs.FreeLemmas.{trees_are_of_free_variables}
use Rattle.pm_calculus.proofs.Instances.{regular_reflects}
use Rattle.pm_calculus.specs.Skeleton.{nodes_of}
use Rattle.pm_machine.proofs.PlaceLemmas.{is_within}
use Rattle.pm_store.proofs.ListLemmas.{All-left, All-right}
use Rattle.pm_run.specs.State.{CellLiteral, literal_under}
use Rattle.pm_run.specs.InStore.{AreBelow, HasArgsBelow}
use Rattle.pm_calculus.specs.Substitution.{put_in_literal, put_in_tableau, each_below, each_among, IsInstanceOf}
use Rattle.pm_calculus.specs.Connection.{IsRegularFor}
use Rattle.pm_machine.specs.State.{CellNode}
use Rattle.pm_machine.specs.Labels.{tableau_under}
use Rattle.pm_machine.proofs.CellTrees.{CellTree, CellTrees, open_leaf, closed_leaf, grown, no_trees, more_trees, node_over, nodes_over, nodes_in, all_nodes_in, forest_over, trees_from}
use Rattle.pm_tab.specs.General.{general_tableau}
use Rattle.pm_tab.specs.Laws.{GeneralTableauxLabel, RegularityIsGeneral}

-- a list of the trees of the first so many cells has each of them
listed : (trees : ℕ → Term) (first n i : ℕ) (t : Term) → i < n → slice_index_or (map trees (range_with_len first n)) i t ≡ trees (first + i)
listed trees first zero i t below = absurd (omega (arith, below))
listed trees first (suc n) zero t below = ap trees (omega arith)
listed trees first (suc n) (suc i) t below = listed trees (first + 1) n i t (omega (arith, below)) ∙ ap trees (omega arith)

-- The trees of cells in a solution, put for the variables of the store's own trees.
module _ (s : Equations) (sound : IsSound s) (trees : ℕ → Term) (solves : Solves s trees) where
  abbrev terms : List Term
  terms = map trees (range_with_len 0 (length s.cells))

  term_of_cell : (v : ℕ) → v < length s.cells → term_for terms v ≡ trees v
  term_of_cell v below = listed trees 0 (length s.cells) v (var v) below ∙ ap trees (omega arith)

  cell_put : (c : ℕ) → c < length s.cells → trees c ≡ put terms (tree s c)
  cell_put c below =
      trees_are_general s trees sound solves c below
      ∙ fill-agree trees (term_for terms) (tree s c) (λ v occurs.
      let free = trees_are_of_free_variables s c v sound below occurs in
      sym (term_of_cell v (is_within s.cells v Variable free.variable)))

  args_put : (cells : List ℕ) → AreBelow (length s.cells) cells → map trees cells ≡ map (put terms) (map (tree s) cells)
  args_put [] below = refl
  args_put (c ∷ cells) below =
      ap₂ (λ t ts. t ∷ ts) (cell_put c (All-head (λ n. n < length s.cells) c cells below)) (args_put cells (All-tail (λ n. n < length s.cells) c cells below))

  literal_put : (l : CellLiteral) → HasArgsBelow (length s.cells) l → literal_under trees l ≡ put_in_literal terms (literal_under (tree s) l)
  literal_put l below = λ k. record { positive = l.positive; predicate = l.predicate; args = args_put l.args below k }

  abbrev Within : CellNode → Type 0
  Within node = HasArgsBelow (length s.cells) node.literal

  mutual
    node_put : (d : ℕ) (t : CellTree) → All Within (nodes_in d t) → node_over trees t ≡ each_below (put_in_literal terms) (node_over (tree s) t)
    node_put d (open_leaf l) below = ap leaf (literal_put l (All-head Within _ [] below))
    node_put d (closed_leaf l k) below = ap leaf (literal_put l (All-head Within _ [] below))
    node_put d (grown l c ts) below =
        ap₂ (λ k ks. inner k c ks) (literal_put l (All-head Within _ (all_nodes_in (d + 1) ts) below)) (nodes_put (d + 1) ts (All-tail Within _ (all_nodes_in (d + 1) ts) below))

    nodes_put : (d : ℕ) (ts : CellTrees) → All Within (all_nodes_in d ts) → nodes_over trees ts ≡ each_among (put_in_literal terms) (nodes_over (tree s) ts)
    nodes_put d no_trees below = refl
    nodes_put d (more_trees t ts) below =
        ap₂ more_nodes (node_put d t (All-left Within (nodes_in d t) (all_nodes_in d ts) below)) (nodes_put d ts (All-right Within (nodes_in d t) (all_nodes_in d ts) below))

-- the tableau of nodes that are those of trees over cells
pub under_trees : (trees : ℕ → Term) (root : ℕ) (nodes : List CellNode) (ts : CellTrees) → nodes ≡ all_nodes_in 1 ts
    → tableau_under trees root nodes ≡ record { root = root; children = nodes_over trees ts }
under_trees trees root nodes ts are =
    ap (tableau_under trees root) are ∙ ap (λ (ns : Nodes). let t : Tableau = record { root = root; children = ns } in t) (forest_over trees ts)

pub general_tableaux_label : GeneralTableauxLabel
general_tableaux_label problem m root below has =
    let s = m.equations in
    let sound = has.always.sound in
    let parts = trees_from 1 below m.nodes (has.always.shapes ∙ ap nodes_of has.built) in
    let within = subst (λ (ns : List CellNode). All (λ node. HasArgsBelow (length s.cells) node.literal) ns) parts.2 has.always.cells in
    record {
      labels = (has.always.labels root below has.built (general_tableau root m)).1 (record { trees = tree s; solves = trees_solve s sound; shown = refl });
      most = λ other labelling.
          let shown = (has.always.labels root below has.built other).0 labelling in (
            terms s sound shown.trees shown.solves,
            shown.shown ∙ under_trees shown.trees root m.nodes parts.0 parts.2
                ∙ ap (λ (ns : Nodes). let t : Tableau = record { root = root; children = ns } in t) (nodes_put s sound shown.trees shown.solves 1 parts.0 within)
                ∙ ap (put_in_tableau (terms s sound shown.trees shown.solves)) (sym (under_trees (tree s) root m.nodes parts.0 parts.2)),
          );
    }

regular_for : (class : Class) (t other : Tableau) → IsInstanceOf t other → IsRegularFor class t → IsRegularFor class other
regular_for Plain t other instance_of regular = regular
regular_for Regular t other instance_of regular = regular_reflects t other instance_of regular

pub regularity_is_general : RegularityIsGeneral
regularity_is_general problem m root below class has =
    let general = general_tableaux_label problem m root below has in (
      λ some. regular_for class some.0 (general_tableau root m) (general.most some.0 some.1) some.2,
      λ regular. (general_tableau root m, general.labels, regular),
    )
