-- Trees around one of their leaves, the first that is open.
use Rattle.std.proofs.Common.{◌≡◌, ℕ, zero, suc, ◌+◌, ◌<◌, ◌⊎◌, inl, inr, true, false, cond, ◌&&◌, List, [], ◌∷◌, ◌++◌, length, Some, None, slice_get, refl, sym, ◌∙◌, ap, ap₂, arith, append_assoc}
use Rattle.std.specs.Prelude.{All}
use Rattle.std.proofs.lemmas.List.{length_push}
use Rattle.std.proofs.lemmas.List.Elements.{All-nil, All-cons, All-append}
use Rattle.pm_logic.specs.Term.{Term}
use Rattle.pm_logic.specs.Tableau.{Node, inner, Nodes, more_nodes}
use Rattle.pm_run.specs.State.{CellLiteral, literal_under}
use Rattle.pm_calculus.specs.Skeleton.{Face, Skeleton, extended, Skeletons, more_skeletons, Subgoal, depth_of, is_closed_below, are_closed_below, selected_below, selected_among, filled_below, filled_among}
use Rattle.pm_calculus.proofs.Growth.{and_true}
use Rattle.pm_machine.specs.State.{CellNode, IsOpen, IsAncestorAt}
use Rattle.pm_machine.proofs.CellTrees.{CellTree, open_leaf, closed_leaf, grown, CellTrees, no_trees, more_trees, face_at, skeleton_of, skeletons_of, node_at, nodes_in, all_nodes_in, node_over, nodes_over}

-- The leaf stands first, before these trees; or below the first tree; or after it.
pub data Context : Type 0 where
  first : CellTrees → Context
  under : CellLiteral → ℕ → Context → CellTrees → Context
  beyond : CellTree → Context → Context

-- the trees with this in the leaf's place
abbrev pub plugged : Context → CellTree → CellTrees
plugged (first rest) t = more_trees t rest
plugged (under l c x rest) t = more_trees (grown l c (plugged x t)) rest
plugged (beyond u x) t = more_trees u (plugged x t)

-- the nodes of a tableau with this in the leaf's place
abbrev pub plugged_over : (ℕ → Term) → Context → Node → Nodes
plugged_over trees (first rest) n = more_nodes n (nodes_over trees rest)
plugged_over trees (under l c x rest) n = more_nodes (inner (literal_under trees l) c (plugged_over trees x n)) (nodes_over trees rest)
plugged_over trees (beyond u x) n = more_nodes (node_over trees u) (plugged_over trees x n)

pub nodes_plugged : (trees : ℕ → Term) (x : Context) (t : CellTree) → nodes_over trees (plugged x t) ≡ plugged_over trees x (node_over trees t)
nodes_plugged trees (first rest) t = refl
nodes_plugged trees (under l c x rest) t = ap (λ ns. more_nodes (inner (literal_under trees l) c ns) (nodes_over trees rest)) (nodes_plugged trees x t)
nodes_plugged trees (beyond u x) t = ap (more_nodes (node_over trees u)) (nodes_plugged trees x t)

-- the skeletons with this in the leaf's place
abbrev pub skeletons_around : Context → Skeleton → Skeletons
skeletons_around (first rest) s = more_skeletons s (skeletons_of rest)
skeletons_around (under l c x rest) s = more_skeletons (extended (face_at l) c (skeletons_around x s)) (skeletons_of rest)
skeletons_around (beyond u x) s = more_skeletons (skeleton_of u) (skeletons_around x s)

pub skeletons_plugged : (x : Context) (t : CellTree) → skeletons_of (plugged x t) ≡ skeletons_around x (skeleton_of t)
skeletons_plugged (first rest) t = refl
skeletons_plugged (under l c x rest) t = ap (λ ss. more_skeletons (extended (face_at l) c ss) (skeletons_of rest)) (skeletons_plugged x t)
skeletons_plugged (beyond u x) t = ap (more_skeletons (skeleton_of u)) (skeletons_plugged x t)

-- no leaf before it is open
abbrev pub IsFirst : Context → Type 0
IsFirst (first rest) = Unit {0}
IsFirst (under l c x rest) = IsFirst x
IsFirst (beyond u x) = (is_closed_below (skeleton_of u) ≡ true) × IsFirst x

-- the ancestors of the leaf, the nodes before it in pre-order and those after it, and its depth
abbrev pub ancestors_in : ℕ → Context → List CellNode
ancestors_in d (first rest) = []
ancestors_in d (under l c x rest) = node_at d l (Some c) None ∷ ancestors_in (d + 1) x
ancestors_in d (beyond u x) = ancestors_in d x

abbrev pub nodes_before : ℕ → Context → List CellNode
nodes_before d (first rest) = []
nodes_before d (under l c x rest) = node_at d l (Some c) None ∷ nodes_before (d + 1) x
nodes_before d (beyond u x) = nodes_in d u ++ nodes_before d x

abbrev pub nodes_after : ℕ → Context → List CellNode
nodes_after d (first rest) = all_nodes_in d rest
nodes_after d (under l c x rest) = nodes_after (d + 1) x ++ all_nodes_in d rest
nodes_after d (beyond u x) = nodes_after d x

abbrev pub depth_in : ℕ → Context → ℕ
depth_in d (first rest) = d
depth_in d (under l c x rest) = depth_in (d + 1) x
depth_in d (beyond u x) = depth_in d x

-- the nodes in pre-order, around those in the leaf's place
pub nodes_around : (d : ℕ) (x : Context) (t : CellTree) → all_nodes_in d (plugged x t) ≡ nodes_before d x ++ (nodes_in (depth_in d x) t ++ nodes_after d x)
nodes_around d (first rest) t = refl
nodes_around d (under l c x rest) t =
    ap (λ ns. node_at d l (Some c) None ∷ (ns ++ all_nodes_in d rest)) (nodes_around (d + 1) x t)
    ∙ ap (λ ns. node_at d l (Some c) None ∷ ns)
    (append_assoc (nodes_before (d + 1) x) (nodes_in (depth_in (d + 1) x) t ++ nodes_after (d + 1) x) (all_nodes_in d rest)
    ∙ ap (λ ns. nodes_before (d + 1) x ++ ns) (append_assoc (nodes_in (depth_in (d + 1) x) t) (nodes_after (d + 1) x) (all_nodes_in d rest)))
nodes_around d (beyond u x) t =
    ap (λ ns. nodes_in d u ++ ns) (nodes_around d x t)
    ∙ sym (append_assoc (nodes_in d u) (nodes_before d x) (nodes_in (depth_in d x) t ++ nodes_after d x))

pub depth_counts : (d : ℕ) (x : Context) → depth_in d x ≡ d + length (ancestors_in d x)
depth_counts d (first rest) = omega arith
depth_counts d (under l c x rest) = omega (arith, depth_counts (d + 1) x)
depth_counts d (beyond u x) = depth_counts d x

-- the nodes of closed trees aren't open
mutual
  none_open_in : (d : ℕ) (t : CellTree) → is_closed_below (skeleton_of t) ≡ true → All (λ node. ¬ IsOpen node) (nodes_in d t)
  none_open_in d (open_leaf l) is = absurd cc
  none_open_in d (closed_leaf l k) is =
      All-cons (λ (node : CellNode). ¬ IsOpen node) (node_at d l None (Some k)) [] (λ isopen. let u = isopen.unclosed in cc) (All-nil (λ (node : CellNode). ¬ IsOpen node))
  none_open_in d (grown l c ts) is =
      All-cons (λ (node : CellNode). ¬ IsOpen node) (node_at d l (Some c) None) (all_nodes_in (d + 1) ts) (λ isopen. let u = isopen.leaf in cc) (none_open_among (d + 1) ts is)

  pub none_open_among : (d : ℕ) (ts : CellTrees) → are_closed_below (skeletons_of ts) ≡ true → All (λ node. ¬ IsOpen node) (all_nodes_in d ts)
  none_open_among d no_trees is = All-nil (λ (node : CellNode). ¬ IsOpen node)
  none_open_among d (more_trees t ts) is =
      let both = and_true (is_closed_below (skeleton_of t)) (are_closed_below (skeletons_of ts)) is in
      All-append (λ (node : CellNode). ¬ IsOpen node) (nodes_in d t) (all_nodes_in d ts) (none_open_in d t both.0) (none_open_among d ts both.1)

pub none_open_before : (d : ℕ) (x : Context) → IsFirst x → All (λ node. ¬ IsOpen node) (nodes_before d x)
none_open_before d (first rest) is = All-nil (λ (node : CellNode). ¬ IsOpen node)
none_open_before d (under l c x rest) is =
    All-cons (λ (node : CellNode). ¬ IsOpen node) (node_at d l (Some c) None) (nodes_before (d + 1) x) (λ isopen. let u = isopen.leaf in cc) (none_open_before (d + 1) x is)
none_open_before d (beyond u x) is =
    All-append (λ (node : CellNode). ¬ IsOpen node) (nodes_in d u) (nodes_before d x) (none_open_in d u is.0) (none_open_before d x is.1)

-- all nodes lie at least as deep as the first
abbrev IsBelow : ℕ → CellNode → Type 0
IsBelow m node = m < node.depth

mutual
  deep_in : (m d : ℕ) (t : CellTree) → m < d → All (IsBelow m) (nodes_in d t)
  deep_in m d (open_leaf l) lt = All-cons (IsBelow m) (node_at d l None None) [] lt (All-nil (IsBelow m))
  deep_in m d (closed_leaf l k) lt = All-cons (IsBelow m) (node_at d l None (Some k)) [] lt (All-nil (IsBelow m))
  deep_in m d (grown l c ts) lt = All-cons (IsBelow m) (node_at d l (Some c) None) (all_nodes_in (d + 1) ts) lt (deep_among m (d + 1) ts (omega (arith, lt)))

  deep_among : (m d : ℕ) (ts : CellTrees) → m < d → All (IsBelow m) (all_nodes_in d ts)
  deep_among m d no_trees lt = All-nil (IsBelow m)
  deep_among m d (more_trees t ts) lt = All-append (IsBelow m) (nodes_in d t) (all_nodes_in d ts) (deep_in m d t lt) (deep_among m d ts lt)

deep_before : (m d : ℕ) (x : Context) → m < d → All (IsBelow m) (nodes_before d x)
deep_before m d (first rest) lt = All-nil (IsBelow m)
deep_before m d (under l c x rest) lt = All-cons (IsBelow m) (node_at d l (Some c) None) (nodes_before (d + 1) x) lt (deep_before m (d + 1) x (omega (arith, lt)))
deep_before m d (beyond u x) lt = All-append (IsBelow m) (nodes_in d u) (nodes_before d x) (deep_in m d u lt) (deep_before m d x lt)

-- each ancestor is the last node before the leaf that isn't deeper
pub ancestor_before : (d : ℕ) (x : Context) (place depth : ℕ) (a : CellNode) → slice_get (ancestors_in d x) place ≡ Some a → depth ≡ d + place
    → IsAncestorAt (nodes_before d x) depth a
ancestor_before d (first rest) place depth a is counted = absurd cc
ancestor_before d (under l c x rest) zero depth a is counted =
    let same : node_at d l (Some c) None ≡ a = cc in
    record {
      earlier = [];
      later = nodes_before (d + 1) x;
      stands = ap (λ n. n ∷ nodes_before (d + 1) x) same;
      at_depth = sym (ap (λ (n : CellNode). n.depth) same) ∙ omega (arith, counted);
      last = deep_before depth (d + 1) x (omega (arith, counted));
    }
ancestor_before d (under l c x rest) (suc place) depth a is counted =
    let h = ancestor_before (d + 1) x place depth a is (omega (arith, counted)) in
    record {
      earlier = node_at d l (Some c) None ∷ h.earlier;
      later = h.later;
      stands = ap (λ ns. node_at d l (Some c) None ∷ ns) h.stands;
      at_depth = h.at_depth;
      last = h.last;
    }
ancestor_before d (beyond u x) place depth a is counted =
    let h = ancestor_before d x place depth a is counted in
    record {
      earlier = nodes_in d u ++ h.earlier;
      later = h.later;
      stands = ap (λ ns. nodes_in d u ++ ns) h.stands ∙ sym (append_assoc (nodes_in d u) h.earlier (a ∷ h.later));
      at_depth = h.at_depth;
      last = h.last;
    }

-- the first open leaf is found, unless all are closed
abbrev pub HasFirst : CellTrees → Type 0
HasFirst ts = (x : Context) × (l : CellLiteral) × (ts ≡ plugged x (open_leaf l)) × IsFirst x

mutual
  first_in : (t : CellTree) → (is_closed_below (skeleton_of t) ≡ true) ⊎ ((rest : CellTrees) → HasFirst (more_trees t rest))
  first_in (open_leaf l) = inr (λ rest. (first rest, l, refl, tt))
  first_in (closed_leaf l k) = inl refl
  first_in (grown l c ts) =
      elim (first_among ts) [
        | inl is ↦ inl is
        | inr h ↦ inr (λ rest. (under l c h.0 rest, h.1, ap (λ us. more_trees (grown l c us) rest) h.2, h.3))
      ]

  pub first_among : (ts : CellTrees) → (are_closed_below (skeletons_of ts) ≡ true) ⊎ HasFirst ts
  first_among no_trees = inl refl
  first_among (more_trees t ts) =
      elim (first_in t) [
        | inr h ↦ inr (h ts)
        | inl is ↦ elim (first_among ts) [
          | inl are ↦ inl (ap₂ (λ a b. a && b) is are)
          | inr h ↦ inr (beyond t h.0, h.1, ap (more_trees t) h.2, (is, h.3))
        ]
      ]

-- the faces above the leaf, and its subgoal
abbrev pub faces_in : List Face → Context → List Face
faces_in faces (first rest) = faces
faces_in faces (under l c x rest) = faces_in (faces ++ face_at l ∷ []) x
faces_in faces (beyond u x) = faces_in faces x

abbrev pub goal_in : List Face → Context → CellLiteral → Subgoal
goal_in faces x l = record { above = faces_in faces x; face = face_at l }

pub depth_of_goal : (faces : List Face) (x : Context) (l : CellLiteral) (d : ℕ) → d ≡ length faces + 1 → depth_of (goal_in faces x l) ≡ depth_in d x
depth_of_goal faces (first rest) l d is = sym is
depth_of_goal faces (under k c x rest) l d is =
    let counted : length (faces ++ face_at k ∷ []) ≡ length faces + 1 = length_push faces (face_at k) in
    depth_of_goal (faces ++ face_at k ∷ []) x l (d + 1) (omega (arith, is, counted))
depth_of_goal faces (beyond u x) l d is = depth_of_goal faces x l d is

not_closed : (x : Context) (l : CellLiteral) → IsFirst x → are_closed_below (skeletons_of (plugged x (open_leaf l))) ≡ false
not_closed (first rest) l is = refl
not_closed (under k c x rest) l is = ap (λ b. b && are_closed_below (skeletons_of rest)) (not_closed x l is)
not_closed (beyond u x) l is = ap₂ (λ a b. a && b) is.0 (not_closed x l is.1)

-- the leaf is the selected one
pub selected_in : (faces : List Face) (x : Context) (l : CellLiteral) → IsFirst x
    → selected_among faces (skeletons_of (plugged x (open_leaf l))) ≡ Some (goal_in faces x l)
selected_in faces (first rest) l is = refl
selected_in faces (under k c x rest) l is =
    let ss : Skeletons = skeletons_of (plugged x (open_leaf l)) in
    ap (λ b. cond b (selected_among faces (skeletons_of rest)) (selected_among (faces ++ face_at k ∷ []) ss)) (not_closed x l is)
    ∙ selected_in (faces ++ face_at k ∷ []) x l is
selected_in faces (beyond u x) l is =
    ap (λ b. cond b (selected_among faces (skeletons_of (plugged x (open_leaf l)))) (selected_below faces (skeleton_of u))) is.0 ∙ selected_in faces x l is.1

-- what a step makes of the selected leaf stands in the leaf's place
pub filled_in : (made : Subgoal → Skeleton) (faces : List Face) (x : Context) (l : CellLiteral) → IsFirst x
    → filled_among made faces (skeletons_of (plugged x (open_leaf l))) ≡ skeletons_around x (made (goal_in faces x l))
filled_in made faces (first rest) l is = refl
filled_in made faces (under k c x rest) l is =
    let ss : Skeletons = skeletons_of (plugged x (open_leaf l)) in
    let s : Skeleton = extended (face_at k) c ss in
    ap (λ b. cond b (more_skeletons s (filled_among made faces (skeletons_of rest))) (more_skeletons (filled_below made faces s) (skeletons_of rest))) (not_closed x l is)
    ∙ ap (λ us. more_skeletons (extended (face_at k) c us) (skeletons_of rest)) (filled_in made (faces ++ face_at k ∷ []) x l is)
filled_in made faces (beyond u x) l is =
    let ss : Skeletons = skeletons_of (plugged x (open_leaf l)) in
    ap (λ b. cond b (more_skeletons (skeleton_of u) (filled_among made faces ss)) (more_skeletons (filled_below made faces (skeleton_of u)) ss)) is.0
    ∙ ap (more_skeletons (skeleton_of u)) (filled_in made faces x l is.1)
