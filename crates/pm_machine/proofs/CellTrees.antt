-- The machine's nodes as trees over cells, and the context of their first open leaf.
use Rattle.std.proofs.Common.{◌≡◌, ℕ, ◌+◌, List, [], ◌∷◌, ◌++◌, map, Option, Some, None, refl, sym, ◌∙◌, ap, ap₂}
use Rattle.std.proofs.lemmas.List.{map-append}
use Rattle.pm_logic.specs.Term.{Term}
use Rattle.pm_logic.specs.Tableau.{Node, leaf, inner, Nodes, no_nodes, more_nodes, preorder_of, preorder_among, forest_of}
use Rattle.pm_logic.proofs.Tableaux.{forest_of-preorder}
use Rattle.pm_run.specs.State.{CellLiteral, literal_under}
use Rattle.pm_calculus.specs.Skeleton.{Face, Skeleton, unclosed, closed, extended, Skeletons, no_skeletons, more_skeletons, SkeletonNode, nodes_below, nodes_among}
use Rattle.pm_machine.specs.State.{CellNode, shape_of}
use Rattle.pm_machine.specs.Labels.{entry_under}

-- a leaf that is open, one that the ancestor at a depth closes, and a node with a clause
mutual
  pub data CellTree : Type 0 where
    open_leaf : CellLiteral → CellTree
    closed_leaf : CellLiteral → ℕ → CellTree
    grown : CellLiteral → ℕ → CellTrees → CellTree

  pub data CellTrees : Type 0 where
    no_trees : CellTrees
    more_trees : CellTree → CellTrees → CellTrees

abbrev pub face_at : CellLiteral → Face
face_at l = record { positive = l.positive; predicate = l.predicate }

abbrev mutual
  pub skeleton_of : CellTree → Skeleton
  skeleton_of (open_leaf l) = unclosed (face_at l)
  skeleton_of (closed_leaf l k) = closed (face_at l) k
  skeleton_of (grown l c ts) = extended (face_at l) c (skeletons_of ts)

  pub skeletons_of : CellTrees → Skeletons
  skeletons_of no_trees = no_skeletons
  skeletons_of (more_trees t ts) = more_skeletons (skeleton_of t) (skeletons_of ts)

abbrev pub node_at : ℕ → CellLiteral → Option ℕ → Option ℕ → CellNode
node_at d l c k = record { depth = d; literal = l; clause = c; closed_by = k }

-- the nodes in pre-order, the first of them at this depth
abbrev mutual
  pub nodes_in : ℕ → CellTree → List CellNode
  nodes_in d (open_leaf l) = node_at d l None None ∷ []
  nodes_in d (closed_leaf l k) = node_at d l None (Some k) ∷ []
  nodes_in d (grown l c ts) = node_at d l (Some c) None ∷ all_nodes_in (d + 1) ts

  pub all_nodes_in : ℕ → CellTrees → List CellNode
  all_nodes_in d no_trees = []
  all_nodes_in d (more_trees t ts) = nodes_in d t ++ all_nodes_in d ts

-- the nodes of a tableau, over the trees of the cells
abbrev mutual
  pub node_over : (ℕ → Term) → CellTree → Node
  node_over trees (open_leaf l) = leaf (literal_under trees l)
  node_over trees (closed_leaf l k) = leaf (literal_under trees l)
  node_over trees (grown l c ts) = inner (literal_under trees l) c (nodes_over trees ts)

  pub nodes_over : (ℕ → Term) → CellTrees → Nodes
  nodes_over trees no_trees = no_nodes
  nodes_over trees (more_trees t ts) = more_nodes (node_over trees t) (nodes_over trees ts)

mutual
  shapes_in : (d : ℕ) (t : CellTree) → map shape_of (nodes_in d t) ≡ nodes_below d (skeleton_of t)
  shapes_in d (open_leaf l) = refl
  shapes_in d (closed_leaf l k) = refl
  shapes_in d (grown l c ts) = ap (λ ns. shape_of (node_at d l (Some c) None) ∷ ns) (all_shapes_in (d + 1) ts)

  pub all_shapes_in : (d : ℕ) (ts : CellTrees) → map shape_of (all_nodes_in d ts) ≡ nodes_among d (skeletons_of ts)
  all_shapes_in d no_trees = refl
  all_shapes_in d (more_trees t ts) =
      map-append shape_of (nodes_in d t) (all_nodes_in d ts) ∙ ap₂ (λ ms ns. ms ++ ns) (shapes_in d t) (all_shapes_in d ts)

mutual
  entries_in : (trees : ℕ → Term) (d : ℕ) (t : CellTree) → preorder_of d (node_over trees t) ≡ map (entry_under trees) (nodes_in d t)
  entries_in trees d (open_leaf l) = refl
  entries_in trees d (closed_leaf l k) = refl
  entries_in trees d (grown l c ts) = ap (λ es. entry_under trees (node_at d l (Some c) None) ∷ es) (all_entries_in trees (d + 1) ts)

  pub all_entries_in : (trees : ℕ → Term) (d : ℕ) (ts : CellTrees) → preorder_among d (nodes_over trees ts) ≡ map (entry_under trees) (all_nodes_in d ts)
  all_entries_in trees d no_trees = refl
  all_entries_in trees d (more_trees t ts) =
      ap₂ (λ es fs. es ++ fs) (entries_in trees d t) (all_entries_in trees d ts) ∙ sym (map-append (entry_under trees) (nodes_in d t) (all_nodes_in d ts))

-- the forest of the nodes is that of the trees
pub forest_over : (trees : ℕ → Term) (ts : CellTrees) → forest_of (map (entry_under trees) (all_nodes_in 1 ts)) ≡ nodes_over trees ts
forest_over trees ts = ap forest_of (sym (all_entries_in trees 1 ts)) ∙ forest_of-preorder (nodes_over trees ts)

-- parts of a list that is an image
parts_of_map : {A B : Type 0} (f : A → B) (xs : List A) (ys zs : List B) → map f xs ≡ ys ++ zs
    → (us vs : List A) × (xs ≡ us ++ vs) × (map f us ≡ ys) × (map f vs ≡ zs)
parts_of_map f xs [] zs same = ([], xs, refl, refl, same)
parts_of_map f [] (y ∷ ys) zs same = absurd cc
parts_of_map f (x ∷ xs) (y ∷ ys) zs same =
    let first : f x ≡ y = cc in
    let rest = parts_of_map f xs ys zs cc in
    (x ∷ rest.0, rest.1, ap (λ us. x ∷ us) rest.2, ap₂ (λ v vs. v ∷ vs) first rest.3, rest.4)

node_is : (n : CellNode) (d : ℕ) (c k : Option ℕ) → n.depth ≡ d → n.clause ≡ c → n.closed_by ≡ k → n ≡ node_at d n.literal c k
node_is n d c k is_d is_c is_k =
    ap (λ m. node_at m n.literal n.clause n.closed_by) is_d ∙ ap (λ m. node_at d n.literal m n.closed_by) is_c ∙ ap (node_at d n.literal c) is_k

one_node : (ns : List CellNode) (s : SkeletonNode) → map shape_of ns ≡ s ∷ [] → (n : CellNode) × (ns ≡ n ∷ []) × (shape_of n ≡ s)
one_node [] s same = absurd cc
one_node (n ∷ []) s same = (n, refl, cc)
one_node (n ∷ m ∷ ns) s same = absurd cc

-- nodes with the shapes of a skeleton are those of trees with that skeleton
abbrev pub IsTreeOf : ℕ → Skeleton → List CellNode → Type 0
IsTreeOf d s ns = (t : CellTree) × (skeleton_of t ≡ s) × (ns ≡ nodes_in d t)

abbrev pub AreTreesOf : ℕ → Skeletons → List CellNode → Type 0
AreTreesOf d ss ns = (ts : CellTrees) × (skeletons_of ts ≡ ss) × (ns ≡ all_nodes_in d ts)

grown_from : (d c : ℕ) (face : Face) (ss : Skeletons) (n : CellNode) (ns : List CellNode)
    → shape_of n ≡ record { depth = d; face = face; clause = Some c; closed_by = None }
    → AreTreesOf (d + 1) ss ns → IsTreeOf d (extended face c ss) (n ∷ ns)
grown_from d c face ss n ns same below =
    let is_n = node_is n d (Some c) None (ap (λ (s : SkeletonNode). s.depth) same) (ap (λ (s : SkeletonNode). s.clause) same) (ap (λ (s : SkeletonNode). s.closed_by) same) in
    (grown n.literal c below.0, ap₂ (λ f ss'. extended f c ss') (ap (λ (s : SkeletonNode). s.face) same) below.1, ap₂ (λ m ms. m ∷ ms) is_n below.2)

mutual
  tree_from : (d : ℕ) (s : Skeleton) (ns : List CellNode) → map shape_of ns ≡ nodes_below d s → IsTreeOf d s ns
  tree_from d (unclosed face) ns same =
      let one = one_node ns (record { depth = d; face = face; clause = None; closed_by = None }) same in
      let is_n = node_is one.0 d None None (ap (λ (s : SkeletonNode). s.depth) one.2) (ap (λ (s : SkeletonNode). s.clause) one.2) (ap (λ (s : SkeletonNode). s.closed_by) one.2) in
      (open_leaf one.0.literal, ap unclosed (ap (λ (s : SkeletonNode). s.face) one.2), one.1 ∙ ap (λ n. n ∷ []) is_n)
  tree_from d (closed face k) ns same =
      let one = one_node ns (record { depth = d; face = face; clause = None; closed_by = Some k }) same in
      let is_n = node_is one.0 d None (Some k) (ap (λ (s : SkeletonNode). s.depth) one.2) (ap (λ (s : SkeletonNode). s.clause) one.2) (ap (λ (s : SkeletonNode). s.closed_by) one.2) in
      (closed_leaf one.0.literal k, ap (λ f. closed f k) (ap (λ (s : SkeletonNode). s.face) one.2), one.1 ∙ ap (λ n. n ∷ []) is_n)
  tree_from d (extended face c ss) [] same = absurd cc
  tree_from d (extended face c ss) (n ∷ ns) same =
      let first : shape_of n ≡ record { depth = d; face = face; clause = Some c; closed_by = None } = cc in
      let rest : map shape_of ns ≡ nodes_among (d + 1) ss = cc in
      grown_from d c face ss n ns first (trees_from (d + 1) ss ns rest)

  pub trees_from : (d : ℕ) (ss : Skeletons) (ns : List CellNode) → map shape_of ns ≡ nodes_among d ss → AreTreesOf d ss ns
  trees_from d no_skeletons [] same = (no_trees, refl, refl)
  trees_from d no_skeletons (n ∷ ns) same = absurd cc
  trees_from d (more_skeletons s ss) ns same =
      let parts = parts_of_map shape_of ns (nodes_below d s) (nodes_among d ss) same in
      let t = tree_from d s parts.0 parts.3 in
      let ts = trees_from d ss parts.1 parts.4 in
      (more_trees t.0 ts.0, ap₂ more_skeletons t.1 ts.1, parts.2 ∙ ap₂ (λ ms ms'. ms ++ ms') t.2 ts.2)
