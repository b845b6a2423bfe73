use Rattle.pm_lift.proofs.RowLemmas.{propositional_proof, propositional_depth}
use Rattle.pm_lift.proofs.lift.tests.reductions.Goals as goal

pub list-requires-clause-proof : goal.list-requires-clause-proof
list-requires-clause-proof g c =
    propositional_proof _ _ c.in_ok-problem.ensures c.in_ok-tableau.ensures.root c.in_ok-tableau.ensures.nodes

pub list-requires-clause-shallow : goal.list-requires-clause-shallow
list-requires-clause-shallow g c =
    propositional_depth _ c.in_ok-tableau.ensures.root c.in_ok-tableau.ensures.nodes
