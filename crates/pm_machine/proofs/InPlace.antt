-- What a step builds in the place of the selected leaf, and how its labellings are labelled.
use Rattle.std.proofs.Common.{◌≡◌, ℕ, ◌≤◌, None, List, [], ◌∷◌, ◌++◌, length, map, refl, sym, ◌∙◌, ap, ap₂, subst}
use Rattle.std.specs.Prelude.{◌↔◌, All}
use Rattle.std.proofs.lemmas.List.Elements.{All-head, All-tail, All-append, All-weaker}
use Rattle.pm_logic.specs.Term.{Term}
use Rattle.pm_logic.specs.Problem.{Literal, Clause, Problem}
use Rattle.pm_logic.specs.Tableau.{Node, leaf, Nodes, Tableau, Entry, forest_of}
use Rattle.pm_store.specs.Equations.{Equations}
use Rattle.pm_store.specs.Solutions.{Solves}
use Rattle.pm_store.specs.Sound.{IsSound}
use Rattle.pm_store.proofs.ListLemmas.{map_agree, All-left, All-right}
use Rattle.pm_run.specs.State.{CellLiteral, literal_under}
use Rattle.pm_run.proofs.StoreLemmas.{below_more}
use Rattle.pm_run.specs.InStore.{HasArgsBelow, AgreeBelow}
use Rattle.pm_calculus.specs.Connection.{literal_on, IsFamily, HasFamilies, HaveFamilies}
use Rattle.pm_calculus.specs.Skeleton.{Skeleton, Skeletons, State, rooted, built, nodes_of}
use Rattle.pm_calculus.specs.Choices.{FitsBelow, FitAmong, IsLabelling}
use Rattle.pm_calculus.proofs.Pruned.{pruned, pruned_among, fit_before, family_pruned, have_pruned}
use Rattle.pm_machine.specs.State.{CellNode, MachineState, shape_of}
use Rattle.pm_machine.specs.Labels.{kind_of, entry_under, tableau_under, IsShownBySolution, HasItsCount, IsBuilt}
use Rattle.pm_machine.proofs.CellTrees.{CellTree, open_leaf, CellTrees, skeleton_of, skeletons_of, node_at, nodes_in, all_nodes_in, node_over, nodes_over, all_shapes_in, forest_over}
use Rattle.pm_machine.proofs.Contexts.{Context, plugged, plugged_over, nodes_plugged, skeletons_around, skeletons_plugged, IsFirst, nodes_before, nodes_after, depth_in, nodes_around, filled_in}
use Rattle.pm_machine.proofs.Replaced.{literals_above, fits_inside, fits_replaced, family_replaced, families_inside, families_replaced, taken_apart, around_alike}

-- a tableau of the trees, over the trees of their cells
abbrev pub tableau_over : (ℕ → Term) → ℕ → CellTrees → Tableau
tableau_over trees root ts = record { root = root; children = nodes_over trees ts }

-- the tableau is that of the trees over a solution
pub record IsShownOver (s : Equations) (root : ℕ) (ts : CellTrees) (t : Tableau) : Type 0 where
  pub trees : ℕ → Term
  pub solves : Solves s trees
  pub shown : t ≡ tableau_over trees root ts

abbrev pub IsWithin : ℕ → CellNode → Type 0
IsWithin count node = HasArgsBelow count node.literal

pub all_within_more : (n k : ℕ) (ns : List CellNode) → n ≤ k → All (IsWithin n) ns → All (IsWithin k) ns
all_within_more n k ns le all =
    All-weaker (IsWithin n) (IsWithin k) (λ node below. below_more n k node.literal.args le below) ns all

-- what holds of a machine with these trees
pub record IsBuiltAs (problem : Problem) (s : Equations) (root : ℕ) (ts : CellTrees) : Type 0 where
  pub sound : IsSound s
  pub cells : All (IsWithin (length s.cells)) (all_nodes_in 1 ts)
  pub counts : All (λ node. HasItsCount problem.symbols node.literal) (all_nodes_in 1 ts)
  pub labels : (t : Tableau) → IsLabelling problem.clauses (rooted root (skeletons_of ts)) t ↔ IsShownOver s root ts t

same_tableau : (trees : ℕ → Term) (root : ℕ) (ts : CellTrees) (nodes : List CellNode) → nodes ≡ all_nodes_in 1 ts
    → tableau_under trees root nodes ≡ tableau_over trees root ts
same_tableau trees root ts nodes same =
    ap (tableau_under trees root) same ∙ ap (λ (ns : Nodes). let t : Tableau = record { root = root; children = ns } in t) (forest_over trees ts)

pub built_as : (problem : Problem) (m : MachineState) (root : ℕ) (ts : CellTrees) → built problem.clauses m.steps ≡ rooted root (skeletons_of ts)
    → m.nodes ≡ all_nodes_in 1 ts → IsBuilt problem m → IsBuiltAs problem m.equations root ts
built_as problem m root ts state nodes is = record {
  sound = is.sound;
  cells = subst (λ (ns : List CellNode). All (IsWithin (length m.equations.cells)) ns) nodes is.cells;
  counts = subst (λ (ns : List CellNode). All (λ node. HasItsCount problem.symbols node.literal) ns) nodes is.counts;
  labels = λ t. (
    λ labelling. let h = (is.labels root (skeletons_of ts) state t).0 labelling in
        record { trees = h.trees; solves = h.solves; shown = h.shown ∙ same_tableau h.trees root ts m.nodes nodes },
    λ h. (is.labels root (skeletons_of ts) state t).1
        (record { trees = h.trees; solves = h.solves; shown = h.shown ∙ sym (same_tableau h.trees root ts m.nodes nodes) }),
  );
}

root_is : (r q : ℕ) (ss us : Skeletons) → rooted r ss ≡ rooted q us → (r ≡ q) × (ss ≡ us)
root_is r q ss us same = (cc, cc)

labels_at : (clauses : List Clause) (m : MachineState) (root r : ℕ) (ts : CellTrees) (below : Skeletons) (t : Tableau) → m.nodes ≡ all_nodes_in 1 ts
    → rooted root (skeletons_of ts) ≡ rooted r below
    → IsLabelling clauses (rooted root (skeletons_of ts)) t ↔ IsShownOver m.equations root ts t
    → IsLabelling clauses (rooted r below) t ↔ IsShownBySolution m r t
labels_at clauses m root r ts below t nodes same labels = (
  λ labelling. let h = labels.0 (subst (λ (st : State). IsLabelling clauses st t) (sym same) labelling) in
      record {
        trees = h.trees;
        solves = h.solves;
        shown = h.shown ∙ sym (same_tableau h.trees root ts m.nodes nodes) ∙ ap (λ q. tableau_under h.trees q m.nodes) (root_is root r (skeletons_of ts) below same).0;
      },
  λ h. subst (λ (st : State). IsLabelling clauses st t) same (labels.1 (record {
    trees = h.trees;
    solves = h.solves;
    shown = h.shown ∙ ap (λ q. tableau_under h.trees q m.nodes) (sym (root_is root r (skeletons_of ts) below same).0) ∙ same_tableau h.trees root ts m.nodes nodes;
  })),
)

pub is_built : (problem : Problem) (m : MachineState) (root : ℕ) (ts : CellTrees) → built problem.clauses m.steps ≡ rooted root (skeletons_of ts)
    → m.nodes ≡ all_nodes_in 1 ts → IsBuiltAs problem m.equations root ts → IsBuilt problem m
is_built problem m root ts state nodes is = record {
  sound = is.sound;
  cells = subst (λ (ns : List CellNode). All (IsWithin (length m.equations.cells)) ns) (sym nodes) is.cells;
  counts = subst (λ (ns : List CellNode). All (λ node. HasItsCount problem.symbols node.literal) ns) (sym nodes) is.counts;
  shapes = ap (map shape_of) nodes ∙ all_shapes_in 1 ts ∙ ap nodes_of (sym state);
  labels = λ r below same t. labels_at problem.clauses m root r ts below t nodes (sym state ∙ same) (is.labels t);
}

-- trees that agree on the cells show the same nodes
pub literal_alike : (n : ℕ) (trees later : ℕ → Term) (l : CellLiteral) → AgreeBelow n trees later → HasArgsBelow n l → literal_under later l ≡ literal_under trees l
literal_alike n trees later l agree below =
    ap (λ (ts : List Term). let k : Literal = record { positive = l.positive; predicate = l.predicate; args = ts } in k) (map_agree later trees n l.args agree below)

entries_alike : (n : ℕ) (trees later : ℕ → Term) (ns : List CellNode) → AgreeBelow n trees later → All (IsWithin n) ns
    → map (entry_under later) ns ≡ map (entry_under trees) ns
entries_alike n trees later [] agree below = refl
entries_alike n trees later (node ∷ ns) agree below =
    ap₂ (λ (l : Literal) es. let e : Entry = record { depth = node.depth; literal = l; kind = kind_of node.clause } in e ∷ es)
    (literal_alike n trees later node.literal agree (All-head (IsWithin n) node ns below)) (entries_alike n trees later ns agree (All-tail (IsWithin n) node ns below))

nodes_alike : (n : ℕ) (trees later : ℕ → Term) (ts : CellTrees) → AgreeBelow n trees later → All (IsWithin n) (all_nodes_in 1 ts)
    → nodes_over later ts ≡ nodes_over trees ts
nodes_alike n trees later ts agree below =
    sym (forest_over later ts) ∙ ap forest_of (entries_alike n trees later (all_nodes_in 1 ts) agree below) ∙ forest_over trees ts

-- a node that stands in the place of the leaf in a labelling
pub record Fills (clauses : List Clause) (trees : ℕ → Term) (x : Context) (l : CellLiteral) (s : Skeleton) (n : Node) : Type 0 where
  pub fits : FitsBelow (literals_above trees [] x) s n
  pub families : HasFamilies clauses n
  pub literal : literal_on n ≡ literal_under trees l

-- a labelling comes from a solution and from what it has in the place of the leaf
pub record IsApart (clauses : List Clause) (s : Equations) (root : ℕ) (x : Context) (l : CellLiteral) (made : Skeleton) (t : Tableau) : Type 0 where
  pub is_root : root ≡ t.root
  pub trees : ℕ → Term
  pub solves : Solves s trees
  pub node : Node
  pub shown : t.children ≡ plugged_over trees x node
  pub fills : Fills clauses trees x l made node

module _ (problem : Problem) (s : Equations) (root : ℕ) (x : Context) (l : CellLiteral) (is_first : IsFirst x)
    (old : IsBuiltAs problem s root (plugged x (open_leaf l))) where
  labelling_before : (made : Skeleton) (t : Tableau) → IsLabelling problem.clauses (rooted root (skeletons_around x made)) t
      → IsLabelling problem.clauses (rooted root (skeletons_of (plugged x (open_leaf l)))) (pruned (skeletons_of (plugged x (open_leaf l))) t)
  labelling_before made t h =
      let ss : Skeletons = skeletons_of (plugged x (open_leaf l)) in
      record {
        fits = (
          h.fits.0,
          fit_before (λ goal. made) [] [] ss t.children (subst (λ us. FitAmong [] us t.children) (sym (filled_in (λ goal. made) [] x l is_first)) h.fits.1),
        );
        over = (family_pruned problem.clauses t.root ss t.children h.over.0, have_pruned problem.clauses ss t.children h.over.1);
      }

  pub apart : (made : Skeleton) (t : Tableau) → IsLabelling problem.clauses (rooted root (skeletons_around x made)) t → IsApart problem.clauses s root x l made t
  apart made t h =
      let ss : Skeletons = skeletons_of (plugged x (open_leaf l)) in
      let shown = (old.labels (pruned ss t)).0 (labelling_before made t h) in
      let cut : pruned_among ss t.children ≡ plugged_over shown.trees x (leaf (literal_under shown.trees l)) =
      ap (λ (u : Tableau). u.children) shown.shown ∙ nodes_plugged shown.trees x (open_leaf l) in
      let there = taken_apart shown.trees [] x made l t.children h.fits.1
      (ap (λ us. pruned_among us t.children) (sym (skeletons_plugged x (open_leaf l))) ∙ cut) in
      let fit : FitAmong [] (skeletons_around x made) (plugged_over shown.trees x there.0) = subst (FitAmong [] (skeletons_around x made)) there.1 h.fits.1 in
      let have = subst (HaveFamilies problem.clauses) there.1 h.over.1 in
      record {
        is_root = h.fits.0;
        trees = shown.trees;
        solves = shown.solves;
        node = there.0;
        shown = there.1;
        fills = record {
          fits = fits_inside shown.trees [] x made there.0 fit;
          families = families_inside problem.clauses shown.trees x there.0 have;
          literal = there.2;
        };
      }

  pub filled_labels : (made : Skeleton) (trees : ℕ → Term) (n : Node) → Solves s trees → Fills problem.clauses trees x l made n
      → IsLabelling problem.clauses (rooted root (skeletons_around x made)) (record { root = root; children = plugged_over trees x n })
  filled_labels made trees n solves fills =
      let before = (old.labels (tableau_over trees root (plugged x (open_leaf l)))).1 (record { trees = trees; solves = solves; shown = refl }) in
      let around = nodes_plugged trees x (open_leaf l) in
      let fit : FitAmong [] (skeletons_around x (skeleton_of (open_leaf l))) (plugged_over trees x (leaf (literal_under trees l))) =
      subst (λ us. FitAmong [] us (plugged_over trees x (leaf (literal_under trees l)))) (skeletons_plugged x (open_leaf l))
      (subst (FitAmong [] (skeletons_of (plugged x (open_leaf l)))) around before.fits.1) in
      let own : literal_under trees l ≡ literal_on n = sym fills.literal in
      record {
        fits = (refl, fits_replaced trees [] x (skeleton_of (open_leaf l)) made (leaf (literal_under trees l)) n fit fills.fits);
        over = (
          family_replaced problem.clauses root trees x (leaf (literal_under trees l)) n own
              (subst (IsFamily problem.clauses root) around before.over.0),
          families_replaced problem.clauses trees x (leaf (literal_under trees l)) n own
              (subst (HaveFamilies problem.clauses) around before.over.1) fills.families,
        );
      }

  pub plugged_alike : (trees later : ℕ → Term) (n : Node) → AgreeBelow (length s.cells) trees later → plugged_over later x n ≡ plugged_over trees x n
  plugged_alike trees later n agree =
      around_alike trees later x (leaf (literal_under later l)) (leaf (literal_under trees l)) n
      (sym (nodes_plugged later x (open_leaf l)) ∙ nodes_alike (length s.cells) trees later (plugged x (open_leaf l)) agree old.cells ∙ nodes_plugged trees x (open_leaf l))

-- what a step makes of solutions, where it puts this in the place of the leaf
pub record Makes (clauses : List Clause) (s new : Equations) (x : Context) (l : CellLiteral) (u : CellTree) : Type 0 where
  pub shows : (trees : ℕ → Term) → Solves new trees → Solves s trees × Fills clauses trees x l (skeleton_of u) (node_over trees u)
  pub reaches : (trees : ℕ → Term) (n : Node) → Solves s trees → Fills clauses trees x l (skeleton_of u) n
      → (later : ℕ → Term) × AgreeBelow (length s.cells) trees later × Solves new later × (node_over later u ≡ n)

module _ (problem : Problem) (s new : Equations) (root : ℕ) (x : Context) (l : CellLiteral) (u : CellTree) (is_first : IsFirst x)
    (old : IsBuiltAs problem s root (plugged x (open_leaf l))) (makes : Makes problem.clauses s new x l u) where
  labels_shown : (t : Tableau) → IsLabelling problem.clauses (rooted root (skeletons_around x (skeleton_of u))) t → IsShownOver new root (plugged x u) t
  labels_shown t h =
      let parts = apart problem s root x l is_first old (skeleton_of u) t h in
      let later = makes.reaches parts.trees parts.node parts.solves parts.fills in
      let children : t.children ≡ nodes_over later.0 (plugged x u) =
      parts.shown ∙ sym (plugged_alike problem s root x l is_first old parts.trees later.0 parts.node later.1)
      ∙ ap (plugged_over later.0 x) (sym later.3) ∙ sym (nodes_plugged later.0 x u) in
      record {
        trees = later.0;
        solves = later.2;
        shown = ap₂ (λ r ns. let v : Tableau = record { root = r; children = ns } in v) (sym parts.is_root) children;
      }

  shown_labels : (t : Tableau) → IsShownOver new root (plugged x u) t → IsLabelling problem.clauses (rooted root (skeletons_around x (skeleton_of u))) t
  shown_labels t h =
      let before = makes.shows h.trees h.solves in
      let labelling = filled_labels problem s root x l is_first old (skeleton_of u) h.trees (node_over h.trees u) before.0 before.1 in
      subst (IsLabelling problem.clauses (rooted root (skeletons_around x (skeleton_of u))))
      (ap (λ (ns : Nodes). let v : Tableau = record { root = root; children = ns } in v) (sym (nodes_plugged h.trees x u)) ∙ sym h.shown) labelling

  all_in_place : (P : CellNode → Type 0) → All P (all_nodes_in 1 (plugged x (open_leaf l))) → All P (nodes_in (depth_in 1 x) u) → All P (all_nodes_in 1 (plugged x u))
  all_in_place P all own =
      let parts = subst (All P) (nodes_around 1 x (open_leaf l)) all in
      let after = All-tail P (node_at (depth_in 1 x) l None None) (nodes_after 1 x)
      (All-right P (nodes_before 1 x) (nodes_in (depth_in 1 x) (open_leaf l) ++ nodes_after 1 x) parts) in
      let before = All-left P (nodes_before 1 x) (nodes_in (depth_in 1 x) (open_leaf l) ++ nodes_after 1 x) parts in
      subst (All P) (sym (nodes_around 1 x u))
      (All-append P (nodes_before 1 x) (nodes_in (depth_in 1 x) u ++ nodes_after 1 x) before
      (All-append P (nodes_in (depth_in 1 x) u) (nodes_after 1 x) own after))

  pub built_in_place : IsSound new → length s.cells ≤ length new.cells → All (IsWithin (length new.cells)) (nodes_in (depth_in 1 x) u)
      → All (λ node. HasItsCount problem.symbols node.literal) (nodes_in (depth_in 1 x) u) → IsBuiltAs problem new root (plugged x u)
  built_in_place sound more within counted = record {
    sound = sound;
    cells = all_in_place (IsWithin (length new.cells)) (all_within_more (length s.cells) (length new.cells) (all_nodes_in 1 (plugged x (open_leaf l))) more old.cells) within;
    counts = all_in_place (λ (node : CellNode). HasItsCount problem.symbols node.literal) old.counts counted;
    labels = λ t. subst (λ us. IsLabelling problem.clauses (rooted root us) t ↔ IsShownOver new root (plugged x u) t) (sym (skeletons_plugged x u)) (labels_shown t, shown_labels t);
  }
