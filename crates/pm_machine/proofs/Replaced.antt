-- Labellings of trees with something else in the place of an open leaf.
use Rattle.std.proofs.Common.{◌≡◌, ℕ, ◌+◌, List, [], ◌∷◌, ◌++◌, map, IsSomeAnd, slice_get, refl, sym, ◌∙◌, ap, ap₂, subst, append_assoc}
use Rattle.std.proofs.lemmas.List.{append-nil}
use Rattle.pm_logic.specs.Term.{Term}
use Rattle.pm_logic.specs.Problem.{Literal, Clause}
use Rattle.pm_logic.specs.Tableau.{Node, leaf, inner, Nodes, no_nodes, more_nodes}
use Rattle.pm_run.specs.State.{CellLiteral, literal_under}
use Rattle.pm_calculus.specs.Substitution.{IsInstance}
use Rattle.pm_calculus.specs.Connection.{literal_on, literals_on, IsFamily, HasFamilies, HaveFamilies}
use Rattle.pm_calculus.specs.Skeleton.{Skeleton, unclosed, closed, extended, Skeletons, no_skeletons, more_skeletons}
use Rattle.pm_calculus.specs.Choices.{FitsBelow, FitAmong}
use Rattle.pm_calculus.proofs.Pruned.{pruned_below, pruned_among}
use Rattle.pm_machine.specs.State.{CellNode}
use Rattle.pm_machine.proofs.CellTrees.{open_leaf, skeleton_of, skeletons_of, node_over, nodes_over}
use Rattle.pm_machine.proofs.Contexts.{Context, first, under, beyond, plugged_over, skeletons_around, ancestors_in}

-- the literals above the leaf, over the trees of their cells
abbrev pub literals_above : (ℕ → Term) → List Literal → Context → List Literal
literals_above trees above (first rest) = above
literals_above trees above (under l c x rest) = literals_above trees (above ++ literal_under trees l ∷ []) x
literals_above trees above (beyond u x) = literals_above trees above x

-- they are those of its ancestors
pub above_are_ancestors : (trees : ℕ → Term) (above : List Literal) (x : Context) (d : ℕ)
    → literals_above trees above x ≡ above ++ map (λ node. literal_under trees node.literal) (ancestors_in d x)
above_are_ancestors trees above (first rest) d = sym (append-nil above)
above_are_ancestors trees above (under l c x rest) d =
    above_are_ancestors trees (above ++ literal_under trees l ∷ []) x (d + 1)
    ∙ append_assoc above (literal_under trees l ∷ []) (map (λ (node : CellNode). literal_under trees node.literal) (ancestors_in (d + 1) x))
above_are_ancestors trees above (beyond u x) d = above_are_ancestors trees above x d

-- what stands in the leaf's place fits there
pub fits_inside : (trees : ℕ → Term) (above : List Literal) (x : Context) (s : Skeleton) (n : Node)
    → FitAmong above (skeletons_around x s) (plugged_over trees x n) → FitsBelow (literals_above trees above x) s n
fits_inside trees above (first rest) s n h = h.0
fits_inside trees above (under l c x rest) s n h = fits_inside trees (above ++ literal_under trees l ∷ []) x s n h.0.1
fits_inside trees above (beyond u x) s n h = fits_inside trees above x s n h.1

-- something else that fits may stand there
pub fits_replaced : (trees : ℕ → Term) (above : List Literal) (x : Context) (s t : Skeleton) (n m : Node)
    → FitAmong above (skeletons_around x s) (plugged_over trees x n) → FitsBelow (literals_above trees above x) t m
    → FitAmong above (skeletons_around x t) (plugged_over trees x m)
fits_replaced trees above (first rest) s t n m h fits = (fits, h.1)
fits_replaced trees above (under l c x rest) s t n m h fits =
    ((h.0.0, fits_replaced trees (above ++ literal_under trees l ∷ []) x s t n m h.0.1 fits), h.1)
fits_replaced trees above (beyond u x) s t n m h fits = (h.0, fits_replaced trees above x s t n m h.1 fits)

literals_replaced : (trees : ℕ → Term) (x : Context) (n m : Node) → literal_on n ≡ literal_on m
    → literals_on (plugged_over trees x n) ≡ literals_on (plugged_over trees x m)
literals_replaced trees (first rest) n m same = ap (λ l. l ∷ literals_on (nodes_over trees rest)) same
literals_replaced trees (under l c x rest) n m same = refl
literals_replaced trees (beyond u x) n m same = ap (λ ls. literal_on (node_over trees u) ∷ ls) (literals_replaced trees x n m same)

pub family_replaced : (clauses : List Clause) (c : ℕ) (trees : ℕ → Term) (x : Context) (n m : Node) → literal_on n ≡ literal_on m
    → IsFamily clauses c (plugged_over trees x n) → IsFamily clauses c (plugged_over trees x m)
family_replaced clauses c trees x n m same h =
    subst (λ (ls : List Literal). IsSomeAnd (slice_get clauses c) (λ clause. IsInstance clause ls)) (literals_replaced trees x n m same) h

pub families_inside : (clauses : List Clause) (trees : ℕ → Term) (x : Context) (n : Node) → HaveFamilies clauses (plugged_over trees x n) → HasFamilies clauses n
families_inside clauses trees (first rest) n h = h.0
families_inside clauses trees (under l c x rest) n h = families_inside clauses trees x n h.0.1
families_inside clauses trees (beyond u x) n h = families_inside clauses trees x n h.1

pub families_replaced : (clauses : List Clause) (trees : ℕ → Term) (x : Context) (n m : Node) → literal_on n ≡ literal_on m
    → HaveFamilies clauses (plugged_over trees x n) → HasFamilies clauses m → HaveFamilies clauses (plugged_over trees x m)
families_replaced clauses trees (first rest) n m same h has = (has, h.1)
families_replaced clauses trees (under l c x rest) n m same h has =
    ((family_replaced clauses c trees x n m same h.0.0, families_replaced clauses trees x n m same h.0.1 has), h.1)
families_replaced clauses trees (beyond u x) n m same h has = (h.0, families_replaced clauses trees x n m same h.1 has)

-- what fits a skeleton is cut nowhere
mutual
  uncut : (above : List Literal) (s : Skeleton) (n : Node) → FitsBelow above s n → pruned_below s n ≡ n
  uncut above (unclosed face) (leaf l) h = refl
  uncut above (unclosed face) (inner l c ns) h = absurd h
  uncut above (closed face k) n h = refl
  uncut above (extended face c ss) (leaf l) h = refl
  uncut above (extended face c ss) (inner l d ns) h = ap (inner l d) (all_uncut (above ++ l ∷ []) ss ns h.1)

  all_uncut : (above : List Literal) (ss : Skeletons) (ns : Nodes) → FitAmong above ss ns → pruned_among ss ns ≡ ns
  all_uncut above no_skeletons ns h = refl
  all_uncut above (more_skeletons s ss) no_nodes h = refl
  all_uncut above (more_skeletons s ss) (more_nodes n ns) h = ap₂ more_nodes (uncut above s n h.0) (all_uncut above ss ns h.1)

first_apart : (n m : Node) (ns ms : Nodes) → more_nodes n ns ≡ more_nodes m ms → (n ≡ m) × (ns ≡ ms)
first_apart n m ns ms same = (cc, cc)

inner_apart : (l k : Literal) (c d : ℕ) (ns ms : Nodes) → inner l c ns ≡ inner k d ms → (l ≡ k) × (c ≡ d) × (ns ≡ ms)
inner_apart l k c d ns ms same = (cc, cc, cc)

-- a labelling that gives, cut at the leaf, these nodes has a node in the leaf's place
pub taken_apart : (trees : ℕ → Term) (above : List Literal) (x : Context) (s : Skeleton) (l : CellLiteral) (ns : Nodes) → FitAmong above (skeletons_around x s) ns
    → pruned_among (skeletons_around x (skeleton_of (open_leaf l))) ns ≡ plugged_over trees x (leaf (literal_under trees l))
    → (n : Node) × (ns ≡ plugged_over trees x n) × (literal_on n ≡ literal_under trees l)
taken_apart trees above (first rest) s l no_nodes h same = absurd h
taken_apart trees above (first rest) s l (more_nodes n ns) h same =
    let parts = first_apart (leaf (literal_on n)) (leaf (literal_under trees l)) (pruned_among (skeletons_of rest) ns) (nodes_over trees rest) same in
    let own : leaf (literal_on n) ≡ leaf (literal_under trees l) = parts.0 in
    (n, ap (more_nodes n) (sym (all_uncut above (skeletons_of rest) ns h.1) ∙ parts.1), cc)
taken_apart trees above (under k c x rest) s l no_nodes h same = absurd h
taken_apart trees above (under k c x rest) s l (more_nodes (leaf m) ns) h same = absurd h.0
taken_apart trees above (under k c x rest) s l (more_nodes (inner m d ms) ns) h same =
    let cut : Nodes = pruned_among (skeletons_around x (skeleton_of (open_leaf l))) ms in
    let parts = first_apart (inner m d cut) (inner (literal_under trees k) c (plugged_over trees x (leaf (literal_under trees l)))) (pruned_among (skeletons_of rest) ns) (nodes_over trees rest) same in
    let own = inner_apart m (literal_under trees k) d c cut (plugged_over trees x (leaf (literal_under trees l))) parts.0 in
    let inside = taken_apart trees (above ++ m ∷ []) x s l ms h.0.1 own.2 in (
      inside.0,
      ap₂ more_nodes (ap₂ (λ j e. inner j e ms) own.0 own.1 ∙ ap (inner (literal_under trees k) c) inside.1) (sym (all_uncut above (skeletons_of rest) ns h.1) ∙ parts.1),
      inside.2,
    )
taken_apart trees above (beyond u x) s l no_nodes h same = absurd h
taken_apart trees above (beyond u x) s l (more_nodes n ns) h same =
    let cut : Nodes = pruned_among (skeletons_around x (skeleton_of (open_leaf l))) ns in
    let parts = first_apart (pruned_below (skeleton_of u) n) (node_over trees u) cut (plugged_over trees x (leaf (literal_under trees l))) same in
    let inside = taken_apart trees above x s l ns h.1 parts.1 in
    (inside.0, ap₂ more_nodes (sym (uncut above (skeleton_of u) n h.0) ∙ parts.0) inside.1, inside.2)

-- trees that show one thing around the leaf alike show another alike
pub around_alike : (trees others : ℕ → Term) (x : Context) (m m' n : Node) → plugged_over others x m ≡ plugged_over trees x m'
    → plugged_over others x n ≡ plugged_over trees x n
around_alike trees others (first rest) m m' n same =
    ap (more_nodes n) (first_apart m m' (nodes_over others rest) (nodes_over trees rest) same).1
around_alike trees others (under l c x rest) m m' n same =
    let parts = first_apart (inner (literal_under others l) c (plugged_over others x m)) (inner (literal_under trees l) c (plugged_over trees x m')) (nodes_over others rest) (nodes_over trees rest) same in
    let own = inner_apart (literal_under others l) (literal_under trees l) c c (plugged_over others x m) (plugged_over trees x m') parts.0 in
    ap₂ more_nodes (ap₂ (λ k ns. inner k c ns) own.0 (around_alike trees others x m m' n own.2)) parts.1
around_alike trees others (beyond u x) m m' n same =
    let parts = first_apart (node_over others u) (node_over trees u) (plugged_over others x m) (plugged_over trees x m') same in
    ap₂ more_nodes parts.0 (around_alike trees others x m m' n parts.1)
