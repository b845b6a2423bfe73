-- The tableau of nodes in pre-order, with one more node, and its depth.
use Rattle.std.proofs.Common.{◌≡◌, ℕ, ◌+◌, ◌<◌, ◌≤◌, max, List, [], ◌∷◌, ◌++◌, length, map, take, get_or, sym, ◌∙◌, ap, arith}
use Rattle.std.proofs.lemmas.List.{map_push, map_more, length-map, length-take-le}
use Rattle.std.proofs.lemmas.List.Elements.{All-push}
use Rattle.std.proofs.lemmas.List.Sums.{fold_push}
use Rattle.pm_logic.specs.declared.tableau.Node.{Node}
use Rattle.pm_logic.specs.Term.{Term}
use Rattle.pm_logic.specs.Tableau.{no_nodes, preorder, preorder_among, deepest_next, with_entry, forest_of}
use Rattle.pm_logic.specs.View.{HasRows, entry_of, tableau_of, IsPreorder}
use Rattle.pm_logic.proofs.Tableaux.{preorder-with_entry, deepest, deepest-append, inner_of, inner_count, inner_count-append, inner_count-few}

forest_of-push : (terms : List Term) (nodes : List Node) (node : Node)
    → forest_of (map (entry_of terms) (nodes ++ node ∷ [])) ≡ with_entry (forest_of (map (entry_of terms) nodes)) (entry_of terms node)
forest_of-push terms nodes node =
    ap forest_of (map_push (entry_of terms) nodes node)
    ∙ fold_push with_entry no_nodes (map (entry_of terms) nodes) (entry_of terms node)

-- one more node is the last in pre-order
pub preorder-push : (terms : List Term) (root : ℕ) (nodes : List Node) (node : Node) → 1 ≤ node.depth
    → node.depth ≤ deepest_next (preorder (tableau_of terms root nodes))
    → preorder (tableau_of terms root (nodes ++ node ∷ [])) ≡ preorder (tableau_of terms root nodes) ++ entry_of terms node ∷ []
preorder-push terms root nodes node below_root shallow =
    ap (preorder_among 1) (forest_of-push terms nodes node)
    ∙ preorder-with_entry (forest_of (map (entry_of terms) nodes)) (entry_of terms node) below_root shallow

pub IsPreorder-push : (terms : List Term) (root : ℕ) (nodes : List Node) (node : Node) → IsPreorder terms nodes → 1 ≤ node.depth
    → node.depth ≤ deepest_next (preorder (tableau_of terms root nodes)) → HasRows (length terms) node.literal
    → IsPreorder terms (nodes ++ node ∷ [])
IsPreorder-push terms root nodes node h below_root shallow in_table = record {
  rows = All-push (λ (n : Node). HasRows (length terms) n.literal) nodes node h.rows in_table;
  order = λ other.
      preorder-push terms other nodes node below_root shallow
      ∙ ap (λ es. es ++ entry_of terms node ∷ []) (h.order other)
      ∙ sym (map_push (entry_of terms) nodes node);
}

-- the largest depth of nodes, one node on
pub deepest-more : (terms : List Term) (nodes : List Node) (i : ℕ) (node : Node) (before after : ℕ) → i < length nodes → node ≡ get_or nodes i node
    → before ≡ deepest (map (entry_of terms) (take i nodes)) → after ≡ max before node.depth
    → after ≡ deepest (map (entry_of terms) (take (i + 1) nodes))
deepest-more terms nodes i node before after lt is was now =
    let more : deepest (map (entry_of terms) (take (i + 1) nodes)) ≡ deepest (map (entry_of terms) (take i nodes) ++ entry_of terms node ∷ []) =
    ap deepest (map_more (entry_of terms) nodes i node lt)
    ∙ ap (λ (n : Node). deepest (map (entry_of terms) (take i nodes) ++ entry_of terms n ∷ [])) (sym is) in
    omega (arith, more, deepest-append (map (entry_of terms) (take i nodes)) (entry_of terms node ∷ []))

-- how many nodes carry a clause, one node on
pub inner_count-more : (terms : List Term) (nodes : List Node) (i : ℕ) (node : Node) → i < length nodes → node ≡ get_or nodes i node
    → inner_count (map (entry_of terms) (take (i + 1) nodes)) ≡ inner_count (map (entry_of terms) (take i nodes)) + inner_of node.kind
inner_count-more terms nodes i node lt is =
    let more : inner_count (map (entry_of terms) (take (i + 1) nodes)) ≡ inner_count (map (entry_of terms) (take i nodes) ++ entry_of terms node ∷ []) =
    ap inner_count (map_more (entry_of terms) nodes i node lt)
    ∙ ap (λ (n : Node). inner_count (map (entry_of terms) (take i nodes) ++ entry_of terms n ∷ [])) (sym is) in
    omega (arith, more, inner_count-append (map (entry_of terms) (take i nodes)) (entry_of terms node ∷ []))

-- no more nodes carry a clause than there are
pub inner_count-within : (terms : List Term) (nodes : List Node) (i : ℕ) → i ≤ length nodes → inner_count (map (entry_of terms) (take i nodes)) ≤ i
inner_count-within terms nodes i le =
    omega (arith, inner_count-few (map (entry_of terms) (take i nodes)), length-map (take i nodes) (entry_of terms), length-take-le i nodes le)
