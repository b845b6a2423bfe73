use Rattle.std.proofs.Common.{◌≡◌, ◌∙◌, ◌-◌, ◌<◌, ◌≤◌, ℕ, List, Bor, take, length, get_or, refl, sym, ap, subst, arith}
use Rattle.std.proofs.lemmas.Option.{slice_get_read}
use Rattle.pm_logic.specs.declared.problem.Literal.{Literal}
use Rattle.pm_logic.specs.declared.tableau.Node.{Node}
use Rattle.pm_logic.specs.Problem.{Problem}
use Rattle.pm_logic.specs.View.{HasRows}
use Rattle.pm_certread.specs.Certificate.{Certificate, certificate_of}
use Rattle.pm_check.specs.Inside.Passing.{IsFit}
use Rattle.pm_check.specs.Inside.Ready.{IsCheckable}
use Rattle.pm_check.proofs.MatchingLemmas.{All-stands}
use Rattle.pm_check.proofs.BranchLemmas.{some_node}
use Rattle.pm_check.proofs.PlaceLemmas.{AreNodesOf, IsWalked, IsAt, node_rows, node_places, node_steps, node_counts, node_deep, take_length, seen_same, walked_at, walked_more, walked_wrong, walked_all, pushed}
use Rattle.pm_check.proofs.checker.check_nodes.Goals as goal

-- the node and the closer at a place
here : (over : Problem) (certificate : Certificate) (nodes : List Node) (branch : List (Bor Literal)) (place : ℕ) (node : Node) (ancestor : ℕ) → IsCheckable over certificate → AreNodesOf certificate certificate.tableau.terms nodes
    → IsWalked over certificate certificate.tableau.terms nodes branch place → place < length nodes → node ≡ get_or nodes place node → ancestor ≡ get_or certificate.closers place ancestor
    → IsAt over certificate certificate.tableau.terms nodes branch place node ancestor
here over certificate nodes branch place node ancestor ready are walked within is named =
    let counts = node_counts over certificate certificate.tableau.terms nodes ready are in
    let closer : place < length certificate.closers = omega (arith, counts.0) in
    walked_at over certificate certificate.tableau.terms nodes branch place node ancestor ready are walked
    (slice_get_read nodes (length nodes) place node refl within is) (slice_get_read certificate.closers (length certificate.closers) place ancestor refl closer named)

pub overflow_sub-node : goal.overflow_sub-node
overflow_sub-node c =
    let list = c.nodes-list.result.now in
    (node_deep c.args.problem.now (certificate_of c.args.cert.now) list c.nodes.place c.index-list-place.result c.requires.checkable (record { terms_are = refl; nodes_are = c.nodes-list.ensures.nodes; rows = c.nodes-list.ensures.rows })
    (slice_get_read list (length list) c.nodes.place c.index-list-place.result refl c.nodes-test.true c.index-list-place.is)).0

pub invariant_of-nodes : goal.invariant_of-nodes
invariant_of-nodes c =
    let are : AreNodesOf (certificate_of c.args.cert.now) c.terms.result.now c.nodes-list.result.now = record { terms_are = c.terms.ensures; nodes_are = c.nodes-list.ensures.nodes; rows = c.nodes-list.ensures.rows } in
    record {
      rows = node_rows (certificate_of c.args.cert.now) c.terms.result.now c.nodes-list.result.now are;
      places = node_places (certificate_of c.args.cert.now) c.terms.result.now c.nodes-list.result.now c.args.next.now are c.requires.places;
    }

pub index-requires : goal.index-requires
index-requires c =
    let counts = node_counts c.args.problem.now (certificate_of c.args.cert.now) c.args.cert.now.tableau.terms c.nodes-list.result.now c.requires.checkable (record { terms_are = refl; nodes_are = c.nodes-list.ensures.nodes; rows = c.nodes-list.ensures.rows }) in
    omega (arith, counts.0, c.nodes-test.true, c.args.cert.now.closers.ok.0)

pub offence-found-requires-clause-steps : goal.offence-found-requires-clause-steps
offence-found-requires-clause-steps c =
    node_steps (certificate_of c.args.cert.now) c.args.cert.now.tableau.terms c.nodes-list.result.now (record { terms_are = refl; nodes_are = c.nodes-list.ensures.nodes; rows = c.nodes-list.ensures.rows })

pub offence-found-requires-clause-node : goal.offence-found-requires-clause-node
offence-found-requires-clause-node c =
    let over = c.args.problem.now in
    let list = c.nodes-list.result.now in
    let node = c.index-list-place.result in
    let at_place = here over (certificate_of c.args.cert.now) list c.nodes.branch.items c.nodes.place node c.index.result.now c.requires.checkable (record { terms_are = refl; nodes_are = c.nodes-list.ensures.nodes; rows = c.nodes-list.ensures.rows })
    c.nodes.invariant.2 c.nodes-test.true c.index-list-place.is c.index.ensures in
    some_node (IsFit (length over.clauses) (length c.as_slice.result.now) c.index.result.now) list c.nodes.place node at_place.stands
    (subst (λ (bs : List (Bor Literal)). IsFit (length over.clauses) (length bs) c.index.result.now node) (sym (c.as_slice.ensures.value ∙ c.truncate.ensures.items)) at_place.fit)

pub returns-in-Some-clause-err : goal.returns-in-Some-clause-err
returns-in-Some-clause-err c =
    let over = c.args.problem.now in
    let certificate = certificate_of c.args.cert.now in
    let terms = certificate.tableau.terms in
    let list = c.nodes-list.result.now in
    let node = c.index-list-place.result in
    let branch = c.nodes.branch.items in
    let are : AreNodesOf certificate terms list = record { terms_are = refl; nodes_are = c.nodes-list.ensures.nodes; rows = c.nodes-list.ensures.rows } in
    let at_place = here over certificate list branch c.nodes.place node c.index.result.now c.requires.checkable are c.nodes.invariant.2 c.nodes-test.true c.index-list-place.is c.index.ensures in
    walked_wrong over certificate terms list branch c.nodes.place node c.index.result.now _ c.in-Some.kind are c.nodes.invariant.2 at_place refl
    (λ placed seen. c.in-Some.ensures.answer placed
    (seen_same terms c.terms.result.now list (take (node.depth - 1) branch) c.as_slice.result.now c.nodes.place placed c.terms.ensures (c.as_slice.ensures.value ∙ c.truncate.ensures.items) seen))

pub push_reserved-requires : goal.push_reserved-requires
push_reserved-requires c =
    let list = c.nodes-list.result.now in
    let deep = node_deep c.args.problem.now (certificate_of c.args.cert.now) list c.nodes.place c.index-list-place.result c.requires.checkable (record { terms_are = refl; nodes_are = c.nodes-list.ensures.nodes; rows = c.nodes-list.ensures.rows })
    (slice_get_read list (length list) c.nodes.place c.index-list-place.result refl c.nodes-test.true c.index-list-place.is) in
    let few : length c.truncate.new.self.items ≤ c.index-list-place.result.depth - 1 = omega (arith, ap length c.truncate.ensures.items, take_length (c.index-list-place.result.depth - 1) c.nodes.branch.items) in
    omega (arith, few, deep.0, deep.1, c.truncate.new.self.ok.0, c.truncate.ensures.capacity, c.nodes.invariant.1, c.requires.branch)

pub nodes-preserved : goal.nodes-preserved
nodes-preserved c =
    let over = c.args.problem.now in
    let certificate = certificate_of c.args.cert.now in
    let terms = certificate.tableau.terms in
    let list = c.nodes-list.result.now in
    let node = c.index-list-place.result in
    let branch = c.nodes.branch.items in
    let are : AreNodesOf certificate terms list = record { terms_are = refl; nodes_are = c.nodes-list.ensures.nodes; rows = c.nodes-list.ensures.rows } in
    let at_place = here over certificate list branch c.nodes.place node c.index.result.now c.requires.checkable are c.nodes.invariant.2 c.nodes-test.true c.index-list-place.is c.index.ensures in (
      c.in_default.ensures.images ∙ c.nodes.invariant.0,
      c.push_reserved.ensures.capacity ∙ c.truncate.ensures.capacity ∙ c.nodes.invariant.1,
      walked_more over certificate terms list branch c.push_reserved.new.self.items c.nodes.place node _ c.index.result.now c.nodes.invariant.2 at_place
          (pushed c.push_reserved.new.self.items c.truncate.new.self.items (take (node.depth - 1) branch) _ c.push_reserved.ensures.items c.truncate.ensures.items) refl
          (All-stands (λ (n : Node). HasRows (length terms) n.literal) list c.nodes.place node are.rows at_place.stands)
          (λ placed seen. c.in_default.ensures.answer placed
          (seen_same terms c.terms.result.now list (take (node.depth - 1) branch) c.as_slice.result.now c.nodes.place placed c.terms.ensures (c.as_slice.ensures.value ∙ c.truncate.ensures.items) seen)),
    )

pub returns-clause-ok : goal.returns-clause-ok
returns-clause-ok c =
    walked_all c.args.problem.now (certificate_of c.args.cert.now) c.args.cert.now.tableau.terms c.nodes-list.result.now c.nodes.branch.items c.nodes.place
    (record { terms_are = refl; nodes_are = c.nodes-list.ensures.nodes; rows = c.nodes-list.ensures.rows }) c.nodes-test.false c.nodes.invariant.2
