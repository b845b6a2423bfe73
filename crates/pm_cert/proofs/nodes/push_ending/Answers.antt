use Rattle.pm_logic.specs.View.{literal_of}
use Rattle.pm_cert.specs.Inside.Nodes.{literals_on}
use Rattle.pm_cert.proofs.NodeLemmas.{leaf_told, inner_told}
use Rattle.pm_cert.proofs.nodes.push_ending.Goals as goal
use Rattle.pm_cert.proofs.nodes.push_ending.Goals.{in-Leaf+in_ok-extend_from_slice-in-Leaf+in_ok-push_number-in-Leaf, in-Inner+in_ok-extend_from_slice-in-Inner+in_ok-push_number-in-Inner}

pub returns : goal.returns
returns c =
    let terms = c.args.terms.now in
    let above = literals_on terms c.args.branch.now in
    let literal = literal_of terms c.args.node.now.literal in
    elim c.match-node.branch [
      | in-Leaf+in_ok-extend_from_slice-in-Leaf+in_ok-push_number-in-Leaf w ↦ leaf_told c.args.node.now.kind above literal c.args.text.now.items _ _ _ _ w.in-Leaf.is w.closer.ensures
          w.in_ok-extend_from_slice-in-Leaf.ensures.items (rw w.text-is w.in_ok-push_number-in-Leaf.ensures) c.in_ok-push.ensures.items
      | in-Inner+in_ok-extend_from_slice-in-Inner+in_ok-push_number-in-Inner w ↦ inner_told c.args.node.now.kind above literal c.args.text.now.items _ _ _ _ w.in-Inner.is
          w.in_ok-extend_from_slice-in-Inner.ensures.items (rw w.text-is (rw w.from.ensures at w.in_ok-push_number-in-Inner.ensures)) c.in_ok-push.ensures.items
    ]
