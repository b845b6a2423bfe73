use Rattle.pm_lift.proofs.RowLemmas.{variable_proof, variable_depth}
use Rattle.pm_lift.proofs.lift.tests.a_free_variable.Goals as goal

pub list-requires-clause-proof : goal.list-requires-clause-proof
list-requires-clause-proof g c =
    variable_proof _ _ c.in_ok-problem.ensures c.in_ok-tableau.ensures.root c.in_ok-tableau.ensures.nodes

pub list-requires-clause-shallow : goal.list-requires-clause-shallow
list-requires-clause-shallow g c =
    variable_depth _ c.in_ok-tableau.ensures.root c.in_ok-tableau.ensures.nodes
