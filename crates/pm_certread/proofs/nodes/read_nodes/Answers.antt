use Rattle.std.proofs.Common.{◌≡◌, ◌∙◌, ◌<◌, length, map, inl, refl, subst, ap, ℕ, List}
use Rattle.std.proofs.lemmas.List.{length-map}
use Rattle.pm_logic.specs.Term.{Term, tree_at}
use Rattle.pm_certread.specs.Reading.{Head, GivesNode, NodeLineOffends, nodes, no_nodes}
use Rattle.pm_certread.specs.Inside.Head.{header_of}
use Rattle.pm_certread.specs.Inside.Terms.{IsFault, lines_of}
use Rattle.pm_certread.specs.Inside.Nodes.{nodes_of}
use Rattle.pm_certread.proofs.ProgressLemmas.{leads_on, fault_refuses, refuses_before}
use Rattle.pm_certread.proofs.nodes.read_nodes.Goals as goal

same_count : {A B : Type 0} (f : A → B) (xs : List A) (ys : List B) (n : ℕ) → map f xs ≡ ys → length xs < n → length ys < n
same_count {B = B} f xs ys n same lt = subst (λ (l : List B). length l < n) same (rw (length-map xs f) lt)

same_trees : (terms table : List Term) (rows others : List ℕ) → terms ≡ table → rows ≡ others → map (tree_at terms) rows ≡ map (tree_at table) others
same_trees terms table rows others same same_rows = ap (λ (t : List Term). map (tree_at t) rows) same ∙ ap (map (tree_at table)) same_rows

pub nodes-preserved : goal.nodes-preserved
nodes-preserved c = (
  c.in-Ok.ensures.terms ∙ c.nodes.invariant.0,
  c.in-Ok.ensures.deepest,
  λ line outcome later.
      let head : Head = record { header = header_of c.args.header.now; line = line } in
      let each = lines_of c.args.given in
      let gives = c.in-Ok.ensures.ok in
      c.nodes.invariant.2 line outcome
      (leads_on c.args.problem.now (nodes head each (nodes_of c.nodes.all)) (nodes head each (nodes_of c.read_node.new.given)) c.nodes.lines c.take.new.self c.in_ok-raw.raw.now
      (record { cut = c.in_ok-raw.ensures.ok; count = c.in_ok-raw.ensures.taken }) (
        same_count _ c.nodes-in-nodes.result.now _ c.args.header.now.nodes c.nodes-in-nodes.ensures.nodes c.nodes-test.true,
        gives.0,
        gives.1,
        nodes_of c.read_node.new.given,
        gives.2,
        subst (λ (ts : List Term). GivesNode c.args.problem.now ts (nodes_of c.nodes.all) (nodes_of c.read_node.new.given) gives.0 gives.1)
            (same_trees c.nodes.all.tableau.terms c.args.given.table c.deref.result.now c.args.given.rows.items c.nodes.invariant.0 c.deref.ensures.value) gives.3,
        refl,
      ) outcome later),
)

pub returns-in-Err-clause-err : goal.returns-in-Err-clause-err
returns-in-Err-clause-err c line =
    let head : Head = record { header = header_of c.args.header.now; line = line } in
    let each = lines_of c.args.given in
    refuses_before c.args.problem.now (nodes head each (no_nodes c.args.root)) (nodes head each (nodes_of c.nodes.all)) c.args.lines.now c.nodes.lines c.error.result (c.nodes.invariant.2 line)
    (fault_refuses c.args.problem.now (nodes head each (nodes_of c.nodes.all)) c.nodes.lines c.take.new.self c.in_ok-raw.raw.now
    (NodeLineOffends c.args.problem.now each.each (nodes_of c.nodes.all) c.in_ok-raw.raw.now) c.in-Err.fault c.error.result
    (record { cut = c.in_ok-raw.ensures.ok; count = c.in_ok-raw.ensures.taken })
    (λ kind bad. inl (same_count _ c.nodes-in-nodes.result.now _ c.args.header.now.nodes c.nodes-in-nodes.ensures.nodes c.nodes-test.true, bad))
    (subst (λ (ts : List Term). IsFault (NodeLineOffends c.args.problem.now ts (nodes_of c.nodes.all) c.in_ok-raw.raw.now) c.in-Err.fault)
    (same_trees c.nodes.all.tableau.terms c.args.given.table c.deref.result.now c.args.given.rows.items c.nodes.invariant.0 c.deref.ensures.value) c.in-Err.ensures.err)
    c.error.ensures)
