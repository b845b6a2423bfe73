use Rattle.std.proofs.Common.{◌∙◌, ap, map, List}
use Rattle.std.proofs.lemmas.List.{take_all}
use Rattle.pm_logic.specs.declared.tableau.Node.{Node}
use Rattle.pm_logic.specs.View.{entry_of}
use Rattle.pm_logic.proofs.NodeLemmas.{deepest-more}
use Rattle.pm_logic.proofs.Tableaux.{deepest, deepest-preorder}
use Rattle.pm_logic.proofs.tableau.tableau_depth.Goals as goal

pub loop-node-preserved : goal.loop-node-preserved
loop-node-preserved c =
    deepest-more c.args.tableau.now.terms c.nodes-node-items.result.now c.loop-node.node-index c.node-item.result c.loop-node.deepest c.max-deepest.result
    c.loop-node-test.true c.node-item.is c.loop-node.invariant c.max-deepest.ensures

pub returns : goal.returns
returns c =
    c.loop-node.invariant
    ∙ ap (λ (ns : List Node). deepest (map (entry_of c.args.tableau.now.terms) ns)) (take_all c.loop-node.node-index c.nodes-node-items.result.now c.loop-node-test.false)
    ∙ ap deepest c.nodes-node-items.ensures.nodes
    ∙ deepest-preorder c.args.tableau.now.tableau
