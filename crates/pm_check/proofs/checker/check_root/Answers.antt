use Rattle.std.proofs.Common.{◌≡◌, true}
use Rattle.pm_certread.specs.Certificate.{certificate_of}
use Rattle.pm_check.proofs.PlaceLemmas.{AreNodesOf, node_rows, node_places, first_shallow, root_instance, root_no_instance}
use Rattle.pm_check.proofs.checker.check_root.Goals as goal

pub invariant_of-nodes : goal.invariant_of-nodes
invariant_of-nodes c =
    let are : AreNodesOf (certificate_of c.args.cert.now) c.terms.result.now c.nodes.result.now = record { terms_are = c.terms.ensures; nodes_are = c.nodes.ensures.nodes; rows = c.nodes.ensures.rows } in
    record {
      rows = node_rows (certificate_of c.args.cert.now) c.terms.result.now c.nodes.result.now are;
      places = node_places (certificate_of c.args.cert.now) c.terms.result.now c.nodes.result.now c.args.next.now are c.requires.places;
    }

pub is_family-requires-clause-shallow : goal.is_family-requires-clause-shallow
is_family-requires-clause-shallow c =
    first_shallow (certificate_of c.args.cert.now) c.terms.result.now c.nodes.result.now
    (record { terms_are = c.terms.ensures; nodes_are = c.nodes.ensures.nodes; rows = c.nodes.ensures.rows })

pub returns-then-not-is_family-clause-err : goal.returns-then-not-is_family-clause-err
returns-then-not-is_family-clause-err c =
    let certificate = certificate_of c.args.cert.now in
    let says = root_instance c.args.problem.now certificate c.terms.result.now c.nodes.result.now c.root.result (record { terms_are = c.terms.ensures; nodes_are = c.nodes.ensures.nodes; rows = c.nodes.ensures.rows }) c.root.ensures in
    root_no_instance c.args.problem.now certificate (c.requires.root.0 c.if-not-starts.false)
    (λ h. let family : c.is_family.result ≡ true = c.is_family.ensures.answer.1 (says.1 h) in cc)

pub returns-clause-ok : goal.returns-clause-ok
returns-clause-ok c =
    let certificate = certificate_of c.args.cert.now in
    let says = root_instance c.args.problem.now certificate c.terms.result.now c.nodes.result.now c.root.result (record { terms_are = c.terms.ensures; nodes_are = c.nodes.ensures.nodes; rows = c.nodes.ensures.rows }) c.root.ensures in
    record { start = c.requires.root.0 c.if-not-starts.false; family = says.0 (c.is_family.ensures.answer.0 c.if-not-is_family.false) }
