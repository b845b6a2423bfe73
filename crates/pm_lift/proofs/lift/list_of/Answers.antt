use Rattle.std.proofs.Common.{◌≡◌, ◌≤◌, ◌<◌, ◌+◌, ◌-◌, [], ◌∷◌, ◌++◌, List, ℕ, length, map, take, drop, All, refl, sym, ◌∙◌, ap, ap₂, subst, arith}
use Rattle.std.proofs.lemmas.List.Elements.{All-nil, All-push, All-drop}
use Rattle.std.proofs.lemmas.List.{append-nil, drop_all}
use Rattle.pm_logic.specs.Tableau.{Tableau, preorder}
use Rattle.pm_logic.specs.View.{literal_of, entry_of, HasRows}
use Rattle.pm_logic.specs.declared.tableau.Node.{Node}
use Rattle.pm_logic.specs.declared.problem.Start.{Start}
use Rattle.pm_logic.specs.Term.{Term}
use Rattle.pm_logic.specs.Problem.{Clause}
use Rattle.pm_calculus.specs.Connection.{AreConnectedBelow}
use Rattle.pm_lift.specs.declared.branch.Ancestor.{Ancestor}
use Rattle.pm_lift.specs.Lift.{IsLeastAtEach}
use Rattle.pm_lift.specs.Inside.Tree.{start_choice, least_choices}
use Rattle.pm_lift.specs.Inside.Walk.{walk, closing_at}
use Rattle.pm_lift.specs.Inside.View.{branch_of, HaveRows}
use Rattle.pm_lift.proofs.LeastLemmas.{least_at_each, follows, complete_at_each}
use Rattle.pm_lift.proofs.WalkLemmas.{walk_whole}
use Rattle.pm_lift.proofs.CodeLemmas.{node_depth, leaf_adds, leaf_leaves, cut_rows, cut_length, walk_step, rest_whole, inner_adds, inner_leaves, number_fits}
use Rattle.pm_lift.proofs.lift.list_of.Goals as goal
use Rattle.pm_lift.proofs.lift.list_of.Goals.{in-Leaf+in_ok-add_leaf-in-Leaf, in-Inner+in_ok-push-in-Inner+in_ok-push-in-Inner-2}

pub nodes-init : goal.nodes-init
nodes-init c =
    let P = λ (a : Ancestor). HasRows (length c.terms-terms.result.now) a.literal.now in
    let clauses = c.args.problem.now.clauses in
    let later = map (entry_of c.terms-terms.result.now) c.nodes-nodes.result.now in (
      subst (All P) (sym c.new-branch.ensures.items) (All-nil P),
      ap₂ (λ ms bs. ms ++ walk clauses (branch_of c.terms-terms.result.now bs) later)
          (c.in_ok-push.ensures.items ∙ ap₂ (λ ms n. ms ++ n ∷ []) c.new-list.ensures.items (c.in_ok-start_choice.ensures ∙ ap (start_choice clauses c.args.start) c.root.ensures))
          c.new-branch.ensures.items,
    )

pub overflow_sub-node : goal.overflow_sub-node
overflow_sub-node c =
    (node_depth c.args.tableau.now.terms c.nodes-nodes.result.now c.args.tableau.now.tableau c.nodes.place c.index-nodes-place.result c.nodes-nodes.ensures.nodes c.nodes-test.true c.index-nodes-place.is).0

pub add_leaf-requires-clause-rows : goal.add_leaf-requires-clause-rows
add_leaf-requires-clause-rows c =
    subst (HaveRows (length c.terms-terms.result.now)) (sym c.truncate.ensures.items)
    (cut_rows (length c.terms-terms.result.now) (c.index-nodes-place.result.depth - 1) c.nodes.branch.items c.nodes.invariant.0)

pub add_leaf-requires-clause-shallow : goal.add_leaf-requires-clause-shallow
add_leaf-requires-clause-shallow c =
    let deep = node_depth c.args.tableau.now.terms c.nodes-nodes.result.now c.args.tableau.now.tableau c.nodes.place c.index-nodes-place.result c.nodes-nodes.ensures.nodes c.nodes-test.true c.index-nodes-place.is in
    omega (arith, deep.0, deep.1, c.requires.shallow, ap length c.truncate.ensures.items, cut_length (c.index-nodes-place.result.depth - 1) c.nodes.branch.items)

pub overflow_add-node : goal.overflow_add-node
overflow_add-node c =
    let deep = node_depth c.args.tableau.now.terms c.nodes-nodes.result.now c.args.tableau.now.tableau c.nodes.place c.index-nodes-place.result c.nodes-nodes.ensures.nodes c.nodes-test.true c.index-nodes-place.is in
    omega (arith, deep.1, c.requires.shallow)

pub closing_place-closing-requires-clause-rows : goal.closing_place-closing-requires-clause-rows
closing_place-closing-requires-clause-rows c =
    let nodes = c.nodes-nodes.result.now in
    let P = λ (n : Node). HasRows (length c.terms-terms.result.now) n.literal in
    let count : length c.args.tableau.now.terms ≡ length c.terms-terms.result.now = ap length (sym c.terms-terms.ensures) in
    let rows : All P nodes = subst (λ (n : ℕ). All (λ (m : Node). HasRows n m.literal) nodes) count c.nodes-nodes.ensures.rows in
    subst (All P) (sym (rest_whole (c.nodes.place + 1) nodes)) (All-drop P (c.nodes.place + 1) nodes rows)

pub overflow_add-len : goal.overflow_add-len
overflow_add-len c =
    let deep = node_depth c.args.tableau.now.terms c.nodes-nodes.result.now c.args.tableau.now.tableau c.nodes.place c.index-nodes-place.result c.nodes-nodes.ensures.nodes c.nodes-test.true c.index-nodes-place.is in
    let short : c.len.result < 250 = omega (arith, deep.0, deep.1, c.requires.shallow, c.len.ensures, c.truncate.new.self.ok, ap length c.truncate.ensures.items, cut_length (c.index-nodes-place.result.depth - 1) c.nodes.branch.items) in
    omega (arith, number_fits c.args.problem.now c.args.contras.now _ c.len.result c.place_of_head-head.result c.clauses-count.ensures.valid c.requires.index short c.place_of_head-head.ensures.within)

pub overflow_cast-len : goal.overflow_cast-len
overflow_cast-len c =
    let deep = node_depth c.args.tableau.now.terms c.nodes-nodes.result.now c.args.tableau.now.tableau c.nodes.place c.index-nodes-place.result c.nodes-nodes.ensures.nodes c.nodes-test.true c.index-nodes-place.is in
    let short : c.len.result < 250 = omega (arith, deep.0, deep.1, c.requires.shallow, c.len.ensures, c.truncate.new.self.ok, ap length c.truncate.ensures.items, cut_length (c.index-nodes-place.result.depth - 1) c.nodes.branch.items) in
    omega (arith, number_fits c.args.problem.now c.args.contras.now _ c.len.result c.place_of_head-head.result c.clauses-count.ensures.valid c.requires.index short c.place_of_head-head.ensures.within)

pub nodes-preserved : goal.nodes-preserved
nodes-preserved c =
    let clauses = c.args.problem.now.clauses in
    let terms = c.terms-terms.result.now in
    let nodes = c.nodes-nodes.result.now in
    let node = c.index-nodes-place.result in
    let branch = c.nodes.branch.items in
    let above = take (node.depth - 1) branch in
    let next = c.match-node.branch'.items in
    let later = map (entry_of terms) (drop (c.nodes.place + 1) nodes) in
    let list = c.nodes.list.items in
    let more = c.match-node.list.items in
    let total = start_choice clauses c.args.start c.args.tableau.now.tableau.root ∷ walk clauses [] (map (entry_of terms) nodes) in
    elim c.match-node.branch [
      | in-Leaf+in_ok-add_leaf-in-Leaf w ↦
          let adds = leaf_adds clauses terms above c.truncate.new.self.items node later list more w.in-Leaf.is c.truncate.ensures.items
          (ap (λ v. v.items) w.list-is ∙ w.in_ok-add_leaf-in-Leaf.ensures.list) in
          let moves = leaf_leaves terms above c.truncate.new.self.items next node w.in-Leaf.is c.truncate.ensures.items
          (ap (λ v. branch_of terms v.items) w.branch'-is ∙ w.in_ok-add_leaf-in-Leaf.ensures.branch) in (
            subst (HaveRows (length terms)) (sym (ap (λ v. v.items) w.branch'-is)) w.in_ok-add_leaf-in-Leaf.ensures.rows,
            walk_step clauses terms nodes branch next c.nodes.place node list more total c.nodes-test.true c.index-nodes-place.is adds moves c.nodes.invariant.1,
          )
      | in-Inner+in_ok-push-in-Inner+in_ok-push-in-Inner-2 w ↦
          let slice = rest_whole (c.nodes.place + 1) nodes in
          let head_is = w.place_of_head-head.ensures.place clauses c.requires.index in
          let number : w.len.result ≡ length above = omega (arith, w.len.ensures, c.truncate.new.self.ok, ap length c.truncate.ensures.items) in
          let adds = inner_adds clauses terms above node w.in-Inner.clause later list more w.place_of_head-head.result w.closing_place-closing.result w.in-Inner.is
          (w.closing_place-closing.ensures ∙ ap (λ (ns : List Node). closing_at (literal_of terms node.literal) (node.depth + 1) (map (entry_of terms) ns)) slice)
          head_is
          (ap (λ v. v.items) w.list-is ∙ w.in_ok-push-in-Inner.ensures.items ∙ ap (λ n. list ++ (n + w.place_of_head-head.result) ∷ []) number) in
          let pushed = ap (λ v. v.items) w.branch'-is ∙ w.in_ok-push-in-Inner-2.ensures.items in
          let moves = inner_leaves terms above c.truncate.new.self.items next node _ w.in-Inner.clause w.in-Inner.is pushed c.truncate.ensures.items refl in
          let P = λ (a : Ancestor). HasRows (length terms) a.literal.now in
          let above_rows : All P c.truncate.new.self.items = subst (All P) (sym c.truncate.ensures.items) (cut_rows (length terms) (node.depth - 1) branch c.nodes.invariant.0) in
          let Q = λ (n : Node). HasRows (length terms) n.literal in
          let count : length c.args.tableau.now.terms ≡ length terms = ap length (sym c.terms-terms.ensures) in
          let rows : All Q nodes = subst (λ (n : ℕ). All (λ (m : Node). HasRows n m.literal) nodes) count c.nodes-nodes.ensures.rows in
          let own : Q node = subst Q (sym c.index-nodes-place.is) (rows c.nodes.place node c.nodes-test.true) in (
            subst (All P) (sym pushed) (All-push P c.truncate.new.self.items _ above_rows own),
            walk_step clauses terms nodes branch next c.nodes.place node list more total c.nodes-test.true c.index-nodes-place.is adds moves c.nodes.invariant.1,
          )
    ]

-- the list that the loop ends with is the one that is read off the tree
the_list : (clauses : List Clause) (terms known : List Term) (nodes : List Node) (branch : List Ancestor) (rule : Start) (t : Tableau) (i : ℕ) (list : List ℕ)
    → AreConnectedBelow t.children → terms ≡ known → map (entry_of known) nodes ≡ preorder t → length nodes ≤ i
    → list ++ walk clauses (branch_of terms branch) (map (entry_of terms) (drop i nodes)) ≡ start_choice clauses rule t.root ∷ walk clauses [] (map (entry_of terms) nodes)
    → list ≡ least_choices clauses rule t
the_list clauses terms known nodes branch rule t i list connected same are ends total =
    sym (append-nil list)
    ∙ sym (ap (λ (ns : List Node). list ++ walk clauses (branch_of terms branch) (map (entry_of terms) ns)) (drop_all i nodes ends))
    ∙ total
    ∙ ap (λ es. start_choice clauses rule t.root ∷ walk clauses [] es) (ap (λ (ts : List Term). map (entry_of ts) nodes) same ∙ are)
    ∙ ap (λ ms. start_choice clauses rule t.root ∷ ms) (walk_whole clauses t connected)

pub returns-clause-least : goal.returns-clause-least
returns-clause-least c =
    let problem = c.args.problem.now in
    let t = c.args.tableau.now.tableau in
    let is = the_list problem.clauses c.terms-terms.result.now c.args.tableau.now.terms c.nodes-nodes.result.now c.nodes.branch.items c.args.start t c.nodes.place c.nodes.list.items c.requires.proof.connected c.terms-terms.ensures c.nodes-nodes.ensures.nodes c.nodes-test.false c.nodes.invariant.1 in
    subst (IsLeastAtEach problem c.args.start t) (sym is) (least_at_each problem c.args.start t c.requires.proof)

pub returns-clause-complete : goal.returns-clause-complete
returns-clause-complete c =
    let problem = c.args.problem.now in
    let t = c.args.tableau.now.tableau in
    let is = the_list problem.clauses c.terms-terms.result.now c.args.tableau.now.terms c.nodes-nodes.result.now c.nodes.branch.items c.args.start t c.nodes.place c.nodes.list.items c.requires.proof.connected c.terms-terms.ensures c.nodes-nodes.ensures.nodes c.nodes-test.false c.nodes.invariant.1 in
    complete_at_each problem c.args.start t c.nodes.list.items c.requires.proof
    (subst (IsLeastAtEach problem c.args.start t) (sym is) (least_at_each problem c.args.start t c.requires.proof))

pub returns-clause-follows : goal.returns-clause-follows
returns-clause-follows c =
    let problem = c.args.problem.now in
    let t = c.args.tableau.now.tableau in
    let is = the_list problem.clauses c.terms-terms.result.now c.args.tableau.now.terms c.nodes-nodes.result.now c.nodes.branch.items c.args.start t c.nodes.place c.nodes.list.items c.requires.proof.connected c.terms-terms.ensures c.nodes-nodes.ensures.nodes c.nodes-test.false c.nodes.invariant.1 in
    follows problem c.args.start t c.nodes.list.items
    (subst (IsLeastAtEach problem c.args.start t) (sym is) (least_at_each problem c.args.start t c.requires.proof))
