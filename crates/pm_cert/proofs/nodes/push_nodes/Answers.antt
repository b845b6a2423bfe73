use Rattle.std.proofs.Common.{◌≡◌, ◌∙◌, ◌-◌, ◌+◌, ◌++◌, [], ◌∷◌, ℕ, List, Bor, length, map, take, refl, sym, ap, subst}
use Rattle.std.specs.List.{All}
use Rattle.std.proofs.lemmas.List.{append-nil, length-map}
use Rattle.std.proofs.lemmas.List.Elements.{All-nil}
use Rattle.pm_logic.specs.declared.problem.Literal.{Literal as Rows}
use Rattle.pm_logic.specs.declared.tableau.Node.{Node as RowNode}
use Rattle.pm_logic.specs.Problem.{Literal}
use Rattle.pm_logic.specs.Term.{Term, tree_at}
use Rattle.pm_logic.specs.View.{HasRows, literal_of, entry_of}
use Rattle.pm_certread.specs.Lines.{Ending}
use Rattle.pm_cert.specs.Text.{IsEndingOf}
use Rattle.pm_cert.specs.Inside.Nodes.{IsClosedAt, IsWritableNode, ending_text, literals_on, placed_from}
use Rattle.pm_cert.proofs.LineLemmas.{args_there}
use Rattle.pm_cert.proofs.NodeLemmas.{placed-preorder, above_cut, of_next, more_placed, rows_cut, node_more}
use Rattle.pm_cert.proofs.nodes.push_nodes.Goals as goal

pub loop-node-init : goal.loop-node-init
loop-node-init c =
    let terms = c.args.tableau.now.terms in
    let none : c.new-branch.result.items ≡ [] = c.new-branch.ensures.items in (
      subst (All (λ literal. HasRows (length terms) literal.now)) (sym none) (All-nil (λ literal. HasRows (length terms) literal.now)),
      [],
      [],
      tt,
      ap (λ (ls : List (Bor Rows)). placed_from (literals_on terms ls) (map (entry_of terms) c.nodes-node-items.result.now)) none
          ∙ ap (placed_from []) c.nodes-node-items.ensures.nodes
          ∙ placed-preorder c.args.tableau.now.tableau.children,
      sym (append-nil c.args.text.now.items),
    )

pub push_front-requires-clause-predicate : goal.push_front-requires-clause-predicate
push_front-requires-clause-predicate c =
    let so_far = c.loop-node.invariant in
    let writable = of_next c.args.tableau.now.terms c.loop-node.branch.items c.nodes-node-items.result.now c.loop-node.node-index c.node-item.result c.loop-node-test.true c.node-item.is
    so_far.1 _ so_far.4 (IsWritableNode c.args.symbols.now (map (tree_at c.args.tableau.now.terms) c.args.list.now.keys)) c.requires.writable in
    writable.predicate

pub push_front-requires-clause-args : goal.push_front-requires-clause-args
push_front-requires-clause-args c =
    let terms = c.args.tableau.now.terms in
    let so_far = c.loop-node.invariant in
    let writable = of_next terms c.loop-node.branch.items c.nodes-node-items.result.now c.loop-node.node-index c.node-item.result c.loop-node-test.true c.node-item.is
    so_far.1 _ so_far.4 (IsWritableNode c.args.symbols.now (map (tree_at terms) c.args.list.now.keys)) c.requires.writable in
    args_there terms c.args.list.now.keys c.node-item.result.literal.args.items c.requires.rows
    (subst (λ (n : RowNode). HasRows (length terms) n.literal) (sym c.node-item.is) (c.nodes-node-items.ensures.rows c.loop-node.node-index c.node-item.result c.loop-node-test.true))
    writable.args

pub push_ending-requires-clause-closed : goal.push_ending-requires-clause-closed
push_ending-requires-clause-closed c =
    let terms = c.args.tableau.now.terms in
    let so_far = c.loop-node.invariant in
    let node = c.node-item.result in
    let writable = of_next terms c.loop-node.branch.items c.nodes-node-items.result.now c.loop-node.node-index node c.loop-node-test.true c.node-item.is
    so_far.1 _ so_far.4 (IsWritableNode c.args.symbols.now (map (tree_at terms) c.args.list.now.keys)) c.requires.writable in
    let cut : c.deref.result.now ≡ take (node.depth - 1) c.loop-node.branch.items =
    c.deref.ensures.value ∙ c.truncate.ensures.items ∙ ap (λ (n : ℕ). take n c.loop-node.branch.items) c.saturating_sub.ensures in
    subst (λ (ts : List Term). IsClosedAt node.kind (literals_on ts c.deref.result.now) (literal_of ts node.literal)) (sym c.terms.ensures)
    (subst (λ (above : List Literal). IsClosedAt node.kind above (literal_of terms node.literal)) (sym (above_cut terms c.loop-node.branch.items c.deref.result.now (node.depth - 1) cut)) writable.closed)

pub loop-node-preserved : goal.loop-node-preserved
loop-node-preserved c =
    let terms = c.args.tableau.now.terms in
    let trees : List Term = map (tree_at terms) c.args.list.now.keys in
    let so_far = c.loop-node.invariant in
    let node = c.node-item.result in
    let nodes = c.nodes-node-items.result.now in
    let branch = c.loop-node.branch.items in
    let above : List Literal = take (node.depth - 1) (literals_on terms branch) in
    let truncated : c.truncate.new.self.items ≡ take (node.depth - 1) branch =
    c.truncate.ensures.items ∙ ap (λ (n : ℕ). take n branch) c.saturating_sub.ensures in
    let cut : literals_on terms c.deref.result.now ≡ above = above_cut terms branch c.deref.result.now (node.depth - 1) (c.deref.ensures.value ∙ truncated) in
    let has : HasRows (length terms) node.literal =
    subst (λ (n : RowNode). HasRows (length terms) n.literal) (sym c.node-item.is) (c.nodes-node-items.ensures.rows c.loop-node.node-index node c.loop-node-test.true) in
    let ending : (ending : Ending) × IsEndingOf node.kind above (literal_of terms node.literal) ending × (c.push_ending.new.text.items ≡ c.push_front.new.text.items ++ ending_text ending) =
    subst (λ (ls : List Literal). (ending : Ending) × IsEndingOf node.kind ls (literal_of terms node.literal) ending × (c.push_ending.new.text.items ≡ c.push_front.new.text.items ++ ending_text ending)) cut
    (subst (λ (ts : List Term). (ending : Ending) × IsEndingOf node.kind (literals_on ts c.deref.result.now) (literal_of ts node.literal) ending × (c.push_ending.new.text.items ≡ c.push_front.new.text.items ++ ending_text ending)) c.terms.ensures
    c.in_ok-push_ending.ensures) in
    let deep : c.len.result + 1 ≡ length above + 1 =
    ap (λ (n : ℕ). n + 1)
    (c.len.ensures ∙ c.truncate.new.self.ok.0 ∙ sym (length-map c.truncate.new.self.items (λ (l : Bor Rows). literal_of terms l.now))
    ∙ ap length (above_cut terms branch c.truncate.new.self.items (node.depth - 1) truncated)) in
    let more = node_more c.args.symbols.now terms trees c.args.list.now.keys above node so_far.1 so_far.2 (c.len.result + 1) c.args.text.now.items c.loop-node.text.items c.push_front.new.text.items c.push_ending.new.text.items
    refl deep so_far.3 so_far.5 c.in_ok-push_front.ensures ending in (
      rows_cut (length terms) branch c.truncate.new.self.items c.push.new.self.items _ (node.depth - 1) truncated c.in_ok-push.ensures.items has so_far.0,
      so_far.1 ++ record { above = above; literal = literal_of terms node.literal; kind = node.kind } ∷ [],
      more.0,
      more.1,
      more_placed terms branch nodes c.loop-node.node-index node c.loop-node-test.true c.node-item.is so_far.1 _ so_far.4 c.truncate.new.self.items c.push.new.self.items _ truncated c.in_ok-push.ensures.items refl,
      more.2,
    )
