use Rattle.std.proofs.Common.{◌∙◌}
use Rattle.pm_lift.proofs.ExampleLemmas.{nodes_more, deepest_more, deepest_leaf, deepest_inner}
use Rattle.pm_lift.proofs.lift.tests.tableau.Goals as goal
use Rattle.pm_lift.proofs.lift.tests.tableau.Goals.{in-Leaf, in-Inner}

pub nodes-preserved : goal.nodes-preserved
nodes-preserved g c = (
  c.in_ok-add.ensures.root ∙ c.nodes.invariant.0,
  c.in_ok-add.ensures.terms ∙ c.nodes.invariant.1,
  nodes_more c.terms-in-nodes.result.now c.nodes.tableau.terms c.args.nodes.now c.nodes.depth-index _ _ _ c.in_ok-literal.literal c.nodes.invariant.1 c.terms-in-nodes.ensures c.nodes-test.true
      c.in_ok-add.ensures.nodes c.in_ok-literal.ensures.literal c.nodes.invariant.2,
  deepest_more _ _ _ c.match-kind.deepest c.in_ok-add.ensures.nodes
      (elim c.match-kind.branch [
        | in-Leaf w ↦ deepest_leaf _ _ _ w.in-Leaf.is w.deepest-is
        | in-Inner w ↦ deepest_inner _ _ _ _ w.in-Inner.is w.deepest-is
      ]),
)
