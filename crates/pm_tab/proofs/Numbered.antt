-- The tableau of numbered variables is the general one.
use Rattle.std.proofs.Common.{◌≡◌, ℕ, ◌<◌, inl, inr, List, [], ◌∷◌, ◌++◌, length, map, ◌+◌, Option, Some, IsSomeAnd, refl, sym, ◌∙◌, ap, ap₂, subst}
use Rattle.std.specs.Prelude.{All, Contains, fold}
use Rattle.std.specs.List.{flat_map}
use Rattle.std.proofs.lemmas.Bool.{cases_eq}
use Rattle.std.proofs.lemmas.List.{map-append}
use Rattle.std.proofs.lemmas.List.Elements.{All-nil, All-cons, All-head, All-tail, All-weaker}
use Rattle.std.proofs.lemmas.Grind.{flat_map-append}
use Rattle.pm_logic.specs.Term.{Term, var, app, Terms, no_terms, more_terms}
use Rattle.pm_logic.specs.Filling.{fill, put}
use Rattle.pm_logic.specs.Tableau.{leaf, inner, Nodes, more_nodes, Tableau, Entry, preorder}
use Rattle.pm_logic.specs.Variables.{variables, AreNumberedFrom, IsNumberedInOrder}
use Rattle.pm_store.specs.Equations.{Equations}
use Rattle.pm_store.specs.Solutions.{Solves}
use Rattle.pm_store.specs.Trees.{tree, Occurs, OccursAmong}
use Rattle.pm_store.specs.Resolved.{with_variable, with_variables, with_variables_among, numbered}
use Rattle.pm_store.proofs.TermLemmas.{fill_among-as_terms}
use Rattle.pm_store.proofs.TreeLemmas.{trees_solve, trees_are_general}
use Rattle.pm_store.proofs.NumberLemmas.{Contains-cases, Contains-later, Contains-first, Contains-none, put-numbered}
use Rattle.pm_store.proofs.OrderLemmas.{numbered_by_first_occurrence}
use Rattle.pm_store.proofs.ListLemmas.{if_same, if_other, All-left, All-right}
use Rattle.pm_run.specs.State.{CellLiteral, literal_under}
use Rattle.pm_run.specs.InStore.{HasArgsBelow}
use Rattle.pm_calculus.specs.Substitution.{put_in_literal, put_in_tableau, each_below, each_among, IsInstanceOf}
use Rattle.pm_calculus.specs.Connection.{Level}
use Rattle.pm_calculus.specs.Skeleton.{Skeletons, State, rooted, built, nodes_of}
use Rattle.pm_calculus.specs.Alternatives.{state_after}
use Rattle.pm_calculus.specs.Choices.{IsLabelling, IsGeneral}
use Rattle.pm_machine.specs.State.{CellNode, MachineState}
use Rattle.pm_machine.specs.Labels.{IsBuilt, entry_under}
use Rattle.pm_machine.proofs.CellTrees.{CellTree, CellTrees, open_leaf, closed_leaf, grown, no_trees, more_trees, skeletons_of, nodes_in, all_nodes_in, node_over, nodes_over, all_entries_in, trees_from}
use Rattle.pm_tab.specs.Numbered.{args_over, numbering, numbered_tree, numbered_tableau}
use Rattle.pm_tab.proofs.Generals.{under_trees}

map_map : {A B C : Type 0} (f : A → B) (g : B → C) (xs : List A) → map g (map f xs) ≡ map (λ x. g (f x)) xs
map_map f g [] = refl
map_map f g (x ∷ xs) = ap (λ ys. g (f x) ∷ ys) (map_map f g xs)

-- a list with a variable more has it, and what it had
has_variable : (vs : List ℕ) (v : ℕ) → Contains (with_variable vs v) v
has_variable [] v = Contains-first v v [] refl
has_variable (w ∷ ws) v =
    elim (cases_eq w v) [
      | inl e ↦ subst (λ us. Contains us v) (sym (if_same w v (w ∷ ws) (w ∷ with_variable ws v) e)) (Contains-first w v ws e)
      | inr ne ↦ subst (λ us. Contains us v) (sym (if_other w v (w ∷ ws) (w ∷ with_variable ws v) ne)) (Contains-later w v (with_variable ws v) (has_variable ws v))
    ]

keeps_variable : (vs : List ℕ) (v u : ℕ) → Contains vs u → Contains (with_variable vs v) u
keeps_variable [] v u has = absurd (Contains-none u has)
keeps_variable (w ∷ ws) v u has =
    elim (cases_eq w v) [
      | inl e ↦ subst (λ us. Contains us u) (sym (if_same w v (w ∷ ws) (w ∷ with_variable ws v) e)) has
      | inr ne ↦ subst (λ us. Contains us u) (sym (if_other w v (w ∷ ws) (w ∷ with_variable ws v) ne))
          (elim (Contains-cases w u ws has) [
            | inl first ↦ Contains-first w u (with_variable ws v) first
            | inr later ↦ Contains-later w u (with_variable ws v) (keeps_variable ws v u later)
          ])
    ]

mutual
  keeps_variables : (vs : List ℕ) (t : Term) (u : ℕ) → Contains vs u → Contains (with_variables vs t) u
  keeps_variables vs (var v) u has = keeps_variable vs v u has
  keeps_variables vs (app symbol args) u has = keeps_among vs args u has

  keeps_among : (vs : List ℕ) (ts : Terms) (u : ℕ) → Contains vs u → Contains (with_variables_among vs ts) u
  keeps_among vs no_terms u has = has
  keeps_among vs (more_terms t ts) u has = keeps_among (with_variables vs t) ts u (keeps_variables vs t u has)

mutual
  has_variables : (vs : List ℕ) (t : Term) (v : ℕ) → Occurs v t → Contains (with_variables vs t) v
  has_variables vs (var n) v is = subst (λ u. Contains (with_variable vs n) u) (sym is) (has_variable vs n)
  has_variables vs (app symbol args) v occurs = has_among vs args v occurs

  has_among : (vs : List ℕ) (ts : Terms) (v : ℕ) → OccursAmong v ts → Contains (with_variables_among vs ts) v
  has_among vs no_terms v occurs = absurd occurs
  has_among vs (more_terms t ts) v (inl here) = keeps_among (with_variables vs t) ts v (has_variables vs t v here)
  has_among vs (more_terms t ts) v (inr later) = has_among (with_variables vs t) ts v later

fold_keeps : (vs : List ℕ) (ts : List Term) (u : ℕ) → Contains vs u → Contains (fold with_variables vs ts) u
fold_keeps vs [] u has = has
fold_keeps vs (t ∷ ts) u has = fold_keeps (with_variables vs t) ts u (keeps_variables vs t u has)

-- each variable of each of the terms has a number
abbrev HasNumbers : List ℕ → Term → Type 0
HasNumbers free t = (v : ℕ) → Occurs v t → Contains free v

all_numbered : (vs : List ℕ) (ts : List Term) → All (HasNumbers (fold with_variables vs ts)) ts
all_numbered vs [] = All-nil (HasNumbers vs)
all_numbered vs (t ∷ ts) =
    All-cons (HasNumbers (fold with_variables (with_variables vs t) ts)) t ts
    (λ v occurs. fold_keeps (with_variables vs t) ts v (has_variables vs t v occurs)) (all_numbered (with_variables vs t) ts)

-- the trees of a solution, all filled alike, are a solution
filled_solve : (s : Equations) (f trees : ℕ → Term) → Solves s trees → Solves s (λ c. fill f (trees c))
filled_solve s f trees solves = record {
  applications = λ cell symbol args is. ap (fill f) (solves.applications cell symbol args is) ∙ ap (app symbol) (fill_among-as_terms f trees args);
  bindings = All-weaker (λ b. trees b.variable ≡ trees b.target) (λ b. fill f (trees b.variable) ≡ fill f (trees b.target)) (λ b same. ap (fill f) same)
      s.bindings solves.bindings;
}

-- a node's arguments over trees that are all instances by one list
module _ (trees general : ℕ → Term) (terms : List Term) where
  abbrev IsPut : ℕ → Type 0
  IsPut c = trees c ≡ put terms (general c)

  args_put : (cs : List ℕ) → All IsPut cs → map trees cs ≡ map (put terms) (map general cs)
  args_put [] all = refl
  args_put (c ∷ cs) all = ap₂ (λ t ts. t ∷ ts) (All-head IsPut c cs all) (args_put cs (All-tail IsPut c cs all))

  abbrev IsPutNode : CellNode → Type 0
  IsPutNode node = All IsPut node.literal.args

  literal_put : (l : CellLiteral) → All IsPut l.args → literal_under trees l ≡ put_in_literal terms (literal_under general l)
  literal_put l all = λ k. record { positive = l.positive; predicate = l.predicate; args = args_put l.args all k }

  mutual
    node_put : (d : ℕ) (t : CellTree) → All IsPutNode (nodes_in d t) → node_over trees t ≡ each_below (put_in_literal terms) (node_over general t)
    node_put d (open_leaf l) all = ap leaf (literal_put l (All-head IsPutNode _ [] all))
    node_put d (closed_leaf l k) all = ap leaf (literal_put l (All-head IsPutNode _ [] all))
    node_put d (grown l c ts) all =
        ap₂ (λ k ks. inner k c ks) (literal_put l (All-head IsPutNode _ (all_nodes_in (d + 1) ts) all))
        (nodes_put (d + 1) ts (All-tail IsPutNode _ (all_nodes_in (d + 1) ts) all))

    nodes_put : (d : ℕ) (ts : CellTrees) → All IsPutNode (all_nodes_in d ts) → nodes_over trees ts ≡ each_among (put_in_literal terms) (nodes_over general ts)
    nodes_put d no_trees all = refl
    nodes_put d (more_trees t ts) all =
        ap₂ more_nodes (node_put d t (All-left IsPutNode (nodes_in d t) (all_nodes_in d ts) all))
        (nodes_put d ts (All-right IsPutNode (nodes_in d t) (all_nodes_in d ts) all))

-- what holds of all arguments holds of each node's
pub all_mapped : {A B : Type 0} (P : B → Type 0) (f : A → B) (xs : List A) → All P (map f xs) → All (λ x. P (f x)) xs
all_mapped P f [] all = All-nil (λ x. P (f x))
all_mapped P f (x ∷ xs) all = All-cons (λ y. P (f y)) x xs (All-head P (f x) (map f xs) all) (all_mapped P f xs (All-tail P (f x) (map f xs) all))

all_args : (P : Term → Type 0) (f : ℕ → Term) (nodes : List CellNode) → All P (args_over f nodes) → All (λ node. All (λ c. P (f c)) node.literal.args) nodes
all_args P f [] all = All-nil (λ (node : CellNode). All (λ c. P (f c)) node.literal.args)
all_args P f (node ∷ nodes) all =
    All-cons (λ (n : CellNode). All (λ c. P (f c)) n.literal.args) node nodes
    (all_mapped P f node.literal.args (All-left P (map f node.literal.args) (args_over f nodes) all))
    (all_args P f nodes (All-right P (map f node.literal.args) (args_over f nodes) all))

both_hold : {A : Type 0} (P Q R : A → Type 0) → ((x : A) → P x → Q x → R x) → (xs : List A) → All P xs → All Q xs → All R xs
both_hold P Q R join [] ps qs = All-nil R
both_hold P Q R join (x ∷ xs) ps qs =
    All-cons R x xs (join x (All-head P x xs ps) (All-head Q x xs qs)) (both_hold P Q R join xs (All-tail P x xs ps) (All-tail Q x xs qs))

-- the variables of nodes over filled trees
listed : (f general : ℕ → Term) (nodes : List CellNode)
    → flat_map (λ (e : Entry). flat_map variables e.literal.args) (map (entry_under (λ c. fill f (general c))) nodes)
    ≡ flat_map variables (map (fill f) (args_over general nodes))
listed f general [] = refl
listed f general (node ∷ nodes) =
    ap₂ (λ xs ys. xs ++ ys) (ap (flat_map variables) (sym (map_map general (fill f) node.literal.args))) (listed f general nodes)
    ∙ sym (ap (flat_map variables) (map-append (fill f) (map general node.literal.args) (args_over general nodes))
    ∙ flat_map-append variables (map (fill f) (map general node.literal.args)) (map (fill f) (args_over general nodes)))

module _ (level : Level) (path : List ℕ) (m : MachineState) (root : ℕ) (below : Skeletons) (is : IsBuilt level.problem m)
    (builds : built level.problem.clauses m.steps ≡ rooted root below) (state : state_after level path ≡ Some (rooted root below)) where
  abbrev s : Equations
  s = m.equations

  abbrev free : List ℕ
  free = numbering s m.nodes

  abbrev general : Tableau
  general = numbered_tableau root m

  parts : (ts : CellTrees) × (skeletons_of ts ≡ below) × (m.nodes ≡ all_nodes_in 1 ts)
  parts = trees_from 1 below m.nodes (is.shapes ∙ ap nodes_of builds)

  is_labelling : IsLabelling level.problem.clauses (rooted root below) general
  is_labelling = (is.labels root below builds general).1 (record {
    trees = numbered_tree m;
    solves = filled_solve s (numbered free) (tree s) (trees_solve s is.sound);
    shown = refl;
  })

  cell_put : (trees : ℕ → Term) → Solves s trees → (c : ℕ) → c < length s.cells → HasNumbers free (tree s c) → trees c ≡ put (map trees free) (numbered_tree m c)
  cell_put trees solves c low known = trees_are_general s trees is.sound solves c low ∙ sym (put-numbered free trees (tree s c) known)

  args_numbered : All (λ node. All (λ c. HasNumbers free (tree s c)) node.literal.args) m.nodes
  args_numbered = all_args (HasNumbers free) (tree s) m.nodes (all_numbered [] (args_over (tree s) m.nodes))

  nodes_are_put : (trees : ℕ → Term) → Solves s trees → All (IsPutNode trees (numbered_tree m) (map trees free)) m.nodes
  nodes_are_put trees solves =
      both_hold (λ (node : CellNode). HasArgsBelow (length s.cells) node.literal) (λ (node : CellNode). All (λ c. HasNumbers free (tree s c)) node.literal.args)
      (IsPutNode trees (numbered_tree m) (map trees free))
      (λ node low known. both_hold (λ c. c < length s.cells) (λ c. HasNumbers free (tree s c)) (IsPut trees (numbered_tree m) (map trees free)) (cell_put trees solves) node.literal.args low known)
      m.nodes is.cells args_numbered

  is_most : (other : Tableau) → IsLabelling level.problem.clauses (rooted root below) other → IsInstanceOf other general
  is_most other labelling =
      let shown = (is.labels root below builds other).0 labelling in
      let terms : List Term = map shown.trees free in
      let put = nodes_put shown.trees (numbered_tree m) terms 1 parts.0
      (subst (All (IsPutNode shown.trees (numbered_tree m) terms)) parts.2 (nodes_are_put shown.trees shown.solves)) in (
        terms,
        shown.shown ∙ under_trees shown.trees root m.nodes parts.0 parts.2
            ∙ ap (λ (ns : Nodes). let t : Tableau = record { root = root; children = ns } in t) put
            ∙ ap (put_in_tableau terms) (sym (under_trees (numbered_tree m) root m.nodes parts.0 parts.2)),
      )

  pub preorder_is : preorder general ≡ map (entry_under (numbered_tree m)) m.nodes
  preorder_is =
      ap preorder (under_trees (numbered_tree m) root m.nodes parts.0 parts.2)
      ∙ all_entries_in (numbered_tree m) 1 parts.0 ∙ ap (map (entry_under (numbered_tree m))) (sym parts.2)

  is_numbered : IsNumberedInOrder general
  is_numbered =
      subst (AreNumberedFrom 0)
      (sym (ap (flat_map (λ (e : Entry). flat_map variables e.literal.args)) preorder_is ∙ listed (numbered free) (tree s) m.nodes))
      (numbered_by_first_occurrence [] (args_over (tree s) m.nodes))

  pub numbered_general : IsGeneral level path general
  numbered_general = record {
    labelling = subst (λ (o : Option State). IsSomeAnd o (λ st. IsLabelling level.problem.clauses st general)) (sym state) is_labelling;
    most = λ other labelling.
        is_most other (subst (λ (o : Option State). IsSomeAnd o (λ st. IsLabelling level.problem.clauses st other)) state labelling);
    numbered = is_numbered;
  }
