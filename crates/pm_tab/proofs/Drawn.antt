-- A machine's nodes, drawn.
use Rattle.std.proofs.Common.{◌≡◌, ℕ, ◌+◌, ◌<◌, ◌≤◌, List, [], ◌∷◌, ◌++◌, length, map, Some, get_or, take, fold, reverse, refl, sym, ◌∙◌, ap, ap₂, subst}
use Rattle.std.specs.Prelude.{All}
use Rattle.std.specs.List.{AllZip}
use Rattle.std.proofs.lemmas.List.{append_assoc, append-nil, map-append, reverse-append, take_more}
use Rattle.std.proofs.lemmas.List.Sums.{fold_push, fold-append}
use Rattle.std.proofs.lemmas.Grind.{flat_map-append}
use Rattle.std.proofs.lemmas.List.Elements.{All-nil, All-cons}
use Rattle.std.proofs.lemmas.Option.{get_or_from_slice_get, slice_get_within}
use Rattle.pm_logic.specs.declared.tableau.Node.{Node}
use Rattle.pm_logic.specs.Term.{Term, var, tree_at}
use Rattle.pm_logic.specs.Problem.{Problem}
use Rattle.pm_logic.specs.Filling.{fill}
use Rattle.pm_logic.specs.Tableau.{Tableau, Entry, preorder, deepest_next, forest_of}
use Rattle.pm_logic.specs.View.{HasRows, entry_of}
use Rattle.pm_logic.proofs.Tableaux.{forest_of-preorder}
use Rattle.pm_store.specs.Equations.{Equations}
use Rattle.pm_store.specs.Trees.{tree}
use Rattle.pm_store.specs.Resolved.{Resolved, IsResolved, row_of, with_variables, numbered}
use Rattle.pm_calculus.specs.Skeleton.{State, empty, rooted, built, nodes_of}
use Rattle.pm_machine.specs.declared.node.MachineNode.{MachineNode}
use Rattle.pm_machine.specs.Node.{node_of}
use Rattle.pm_machine.specs.State.{CellNode, MachineState, shape_of}
use Rattle.pm_machine.specs.Labels.{IsBuilt, entry_under}
use Rattle.pm_machine.proofs.CellTrees.{CellTrees, no_trees, all_nodes_in, nodes_over, all_entries_in, trees_from}
use Rattle.pm_tab.specs.Numbered.{args_over, numbered_tree, numbered_tableau}
use Rattle.pm_tab.specs.Inside.Drawing.{AreNested, Keeps, IsDrawn, AreDrawnBy, AreDrawn}
use Rattle.pm_tab.proofs.Nested.{nested_preorder, nested_at}

pub keeps_then : (r middle new : Resolved) → Keeps r middle → Keeps middle new → Keeps r new
keeps_then r middle new first next cell row is = next cell row (first cell row is)

same_rows : (n row : ℕ) (ns rows : List ℕ) (r : Resolved) (cell : ℕ) (cells : List ℕ) → map (row_of r) (cell ∷ cells) ≡ map Some (row ∷ rows)
    → (row_of r cell ≡ Some row) × (map (row_of r) cells ≡ map Some rows)
same_rows n row ns rows r cell cells same = (cc, cc)

pub rows_kept : (r new : Resolved) (cells rows : List ℕ) → Keeps r new → map (row_of r) cells ≡ map Some rows → map (row_of new) cells ≡ map Some rows
rows_kept r new [] [] keeps same = refl
rows_kept r new [] (row ∷ rows) keeps same = absurd cc
rows_kept r new (cell ∷ cells) [] keeps same = absurd cc
rows_kept r new (cell ∷ cells) (row ∷ rows) keeps same =
    let h = same_rows 0 row [] rows r cell cells same in
    ap₂ (λ o os. o ∷ os) (keeps cell row h.0) (rows_kept r new cells rows keeps h.1)

pub rows_push : (r : Resolved) (cells rows : List ℕ) (cell row : ℕ) → map (row_of r) cells ≡ map Some rows → row_of r cell ≡ Some row
    → map (row_of r) (cells ++ cell ∷ []) ≡ map Some (rows ++ row ∷ [])
rows_push r cells rows cell row same is =
    map-append (row_of r) cells (cell ∷ []) ∙ ap₂ (λ os o. os ++ o ∷ []) same is ∙ sym (map-append Some rows (row ∷ []))

drawn_kept : (r new : Resolved) (c : CellNode) (n : Node) → Keeps r new → IsDrawn r c n → IsDrawn new c n
drawn_kept r new c n keeps h = record {
  depth = h.depth;
  positive = h.positive;
  predicate = h.predicate;
  args = rows_kept r new c.literal.args n.literal.args.items keeps h.args;
  kind = h.kind;
}

pub all_kept : (r new : Resolved) (cs : List CellNode) (ns : List Node) → Keeps r new → AllZip (IsDrawn r) cs ns → AllZip (IsDrawn new) cs ns
all_kept r new [] [] keeps all = tt
all_kept r new [] (n ∷ ns) keeps all = absurd all
all_kept r new (c ∷ cs) [] keeps all = absurd all
all_kept r new (c ∷ cs) (n ∷ ns) keeps all = (drawn_kept r new c n keeps all.0, all_kept r new cs ns keeps all.1)

pub all_push : (r : Resolved) (cs : List CellNode) (ns : List Node) (c : CellNode) (n : Node) → AllZip (IsDrawn r) cs ns → IsDrawn r c n
    → AllZip (IsDrawn r) (cs ++ c ∷ []) (ns ++ n ∷ [])
all_push r [] [] c n all is = (is, tt)
all_push r [] (m ∷ ns) c n all is = absurd all
all_push r (b ∷ cs) [] c n all is = absurd all
all_push r (b ∷ cs) (m ∷ ns) c n all is = (all.0, all_push r cs ns c n all.1 is)

-- the entries of drawn nodes are those of the machine's over numbered trees
module _ (s : Equations) (r : Resolved) (table : List Term) (is : IsResolved s r table) where
  abbrev numbers : ℕ → Term
  numbers cell = fill (numbered r.free) (tree s cell)

  args_drawn : (cells rows : List ℕ) → map (row_of r) cells ≡ map Some rows → (map (tree_at table) rows ≡ map numbers cells) × All (λ row. row < length table) rows
  args_drawn [] [] same = (refl, All-nil (λ row. row < length table))
  args_drawn [] (row ∷ rows) same = absurd cc
  args_drawn (cell ∷ cells) [] same = absurd cc
  args_drawn (cell ∷ cells) (row ∷ rows) same =
      let h = same_rows 0 row [] rows r cell cells same in
      let stands = (is.rows cell row h.0).stands in
      let rest = args_drawn cells rows h.1 in (
        ap₂ (λ t ts. t ∷ ts) (get_or_from_slice_get table row (numbers cell) (var 0) stands) rest.0,
        All-cons (λ n. n < length table) row rows (slice_get_within table row (numbers cell) stands) rest.1,
      )

  entry_drawn : (c : CellNode) (n : Node) → IsDrawn r c n → entry_of table n ≡ entry_under numbers c
  entry_drawn c n h =
      let args = (args_drawn c.literal.args n.literal.args.items h.args).0 in
      λ k. record {
        depth = h.depth k;
        literal = record { positive = h.positive k; predicate = h.predicate k; args = args k };
        kind = h.kind k;
      }

  pub entries_drawn : (cs : List CellNode) (ns : List Node) → AllZip (IsDrawn r) cs ns
      → (map (entry_of table) ns ≡ map (entry_under numbers) cs) × All (λ node. HasRows (length table) node.literal) ns
  entries_drawn [] [] all = (refl, All-nil (λ (node : Node). HasRows (length table) node.literal))
  entries_drawn [] (n ∷ ns) all = absurd all
  entries_drawn (c ∷ cs) [] all = absurd all
  entries_drawn (c ∷ cs) (n ∷ ns) all =
      let rest = entries_drawn cs ns all.1 in (
        ap₂ (λ e es. e ∷ es) (entry_drawn c n all.0) rest.0,
        All-cons (λ (node : Node). HasRows (length table) node.literal) n ns (args_drawn c.literal.args n.literal.args.items all.0.args).1 rest.1,
      )

-- a machine's nodes are those of trees
cell_trees : (problem : Problem) (m : MachineState) → IsBuilt problem m → (ts : CellTrees) × (m.nodes ≡ all_nodes_in 1 ts)
cell_trees problem m is = by (built problem.clauses m.steps) is.shapes
  where
    none : (ns : List CellNode) → map shape_of ns ≡ [] → ns ≡ []
    none [] same = refl
    none (n ∷ ns) same = absurd cc

    by : (state : State) → map shape_of m.nodes ≡ nodes_of state → (ts : CellTrees) × (m.nodes ≡ all_nodes_in 1 ts)
    by empty shapes = (no_trees, none m.nodes shapes)
    by (rooted root below) shapes = let h = trees_from 1 below m.nodes shapes in (h.0, h.2)

module _ (problem : Problem) (m : MachineState) (is : IsBuilt problem m) (table : List Term) (ns : List Node) (drawn : AreDrawn m.equations table m.nodes ns) where
  abbrev entries : (map (entry_of table) ns ≡ map (entry_under (numbers m.equations drawn.0 table drawn.1.resolved)) m.nodes)
      × All (λ node. HasRows (length table) node.literal) ns
  entries = entries_drawn m.equations drawn.0 table drawn.1.resolved m.nodes ns drawn.1.each

  pub entries_numbered : map (entry_of table) ns ≡ map (entry_under (numbered_tree m)) m.nodes
  entries_numbered =
      entries.0 ∙ ap (λ free. map (entry_under (λ cell. fill (numbered free) (tree m.equations cell))) m.nodes) drawn.1.order

  pub rows_within : All (λ node. HasRows (length table) node.literal) ns
  rows_within = entries.1

  pub drawn_nested : AreNested 1 (map (entry_of table) ns)
  drawn_nested =
      let ts = cell_trees problem m is in
      subst (AreNested 1)
      (all_entries_in (numbered_tree m) 1 ts.0 ∙ ap (map (entry_under (numbered_tree m))) (sym ts.1) ∙ sym entries_numbered)
      (nested_preorder (nodes_over (numbered_tree m) ts.0))

  pub drawn_is : (root : ℕ) (tableau : Tableau) → tableau.root ≡ root → preorder tableau ≡ map (entry_of table) ns → tableau ≡ numbered_tableau root m
  drawn_is root tableau same order =
      let below : tableau.children ≡ forest_of (map (entry_under (numbered_tree m)) m.nodes) =
      sym (forest_of-preorder tableau.children) ∙ ap forest_of (order ∙ entries_numbered) in
      λ k. record { root = same k; children = below k }

-- the arguments of so many cells are drawn
pub record AreArgsDrawn (s : Equations) (initial r : Resolved) (table : List Term) (cells drawn : List ℕ) : Type 0 where
  pub rows : map (row_of r) cells ≡ map Some drawn
  pub order : r.free ≡ fold with_variables initial.free (map (tree s) cells)
  pub resolved : IsResolved s r table
  pub kept : Keeps initial r

pub one_more_arg : (s : Equations) (initial r new : Resolved) (table grown : List Term) (cells rows all : List ℕ) (i cell row : ℕ) → i < length all → cell ≡ get_or all i cell
    → cells ≡ take i all → AreArgsDrawn s initial r table cells rows → new.free ≡ with_variables r.free (tree s cell) → IsResolved s new grown → Keeps r new
    → row_of new cell ≡ Some row → AreArgsDrawn s initial new grown (take (i + 1) all) (rows ++ row ∷ [])
one_more_arg s initial r new table grown cells rows all i cell row less is are h order resolved kept noted =
    let longer : take (i + 1) all ≡ cells ++ cell ∷ [] = take_more all i cell less ∙ ap₂ (λ xs x. xs ++ x ∷ []) (sym are) (sym is) in
    subst (λ cs. AreArgsDrawn s initial new grown cs (rows ++ row ∷ [])) (sym longer) (record {
      rows = rows_push new cells rows cell row (rows_kept r new cells rows kept h.rows) noted;
      order = order ∙ ap (λ free. with_variables free (tree s cell)) h.order
          ∙ sym (ap (fold with_variables initial.free) (map-append (tree s) cells (cell ∷ [])) ∙ fold_push with_variables initial.free (map (tree s) cells) (tree s cell));
      resolved = resolved;
      kept = keeps_then initial r new h.kept kept;
    })

pub one_more_node : (s : Equations) (r new : Resolved) (table grown : List Term) (nodes : List MachineNode) (drawn : List Node) (i : ℕ) (node : MachineNode) (n : Node)
    → i < length nodes → node ≡ get_or nodes i node → AreDrawnBy s r table (map node_of (take i nodes)) drawn → IsDrawn new (node_of node) n
    → new.free ≡ fold with_variables r.free (map (tree s) (node_of node).literal.args) → IsResolved s new grown → Keeps r new
    → AreDrawnBy s new grown (map node_of (take (i + 1) nodes)) (drawn ++ n ∷ [])
one_more_node s r new table grown nodes drawn i node n less is h drawn_is order resolved kept =
    let cells : List CellNode = map node_of (take i nodes) in
    let longer : map node_of (take (i + 1) nodes) ≡ cells ++ node_of node ∷ [] =
    ap (map node_of) (take_more nodes i node less ∙ ap (λ x. take i nodes ++ x ∷ []) (sym is)) ∙ map-append node_of (take i nodes) (node ∷ []) in
    let args : List Term = map (tree s) (node_of node).literal.args in
    let more : args_over (tree s) (cells ++ node_of node ∷ []) ≡ args_over (tree s) cells ++ args =
    flat_map-append (λ (c : CellNode). map (tree s) c.literal.args) cells (node_of node ∷ []) ∙ ap (λ ts. args_over (tree s) cells ++ ts) (append-nil args) in
    subst (λ cs. AreDrawnBy s new grown cs (drawn ++ n ∷ [])) (sym longer) (record {
      each = all_push new cells drawn (node_of node) n (all_kept r new cells drawn kept h.each) drawn_is;
      order = order ∙ ap (λ free. fold with_variables free args) h.order
          ∙ sym (ap (fold with_variables []) more ∙ fold-append with_variables [] (args_over (tree s) cells) args);
      resolved = resolved;
    })

-- the last node of those that are left
module _ (before : List Entry) (f : Node → Entry) (all left rest : List Node) (node : Node) (whole : before ++ map f (reverse left) ≡ map f (reverse all)) (parts : left ≡ rest ++ node ∷ []) where
  pub next_first : before ++ f node ∷ map f (reverse rest) ≡ map f (reverse all)
  next_first = ap (λ ns. before ++ map f ns) (sym (ap reverse parts ∙ reverse-append rest (node ∷ []))) ∙ whole

  pub next_nested : AreNested 1 (map f (reverse all)) → (1 ≤ (f node).depth) × ((f node).depth ≤ deepest_next before)
  next_nested nested = nested_at before (f node) (map f (reverse rest)) (subst (AreNested 1) (sym next_first) nested)

  pub next_added : (after : List Entry) → after ≡ before ++ f node ∷ [] → after ++ map f (reverse rest) ≡ map f (reverse all)
  next_added after added = ap (λ es. es ++ map f (reverse rest)) added ∙ append_assoc before (f node ∷ []) (map f (reverse rest)) ∙ next_first

module _ {A : Type 0} where
  pub reversed_twice : (xs : List A) → reverse (reverse xs) ≡ xs
  reversed_twice [] = refl
  reversed_twice (x ∷ xs) = ap reverse (reverse-append (x ∷ []) xs) ∙ reverse-append (reverse xs) (x ∷ []) ∙ ap (λ ys. x ∷ ys) (reversed_twice xs)
