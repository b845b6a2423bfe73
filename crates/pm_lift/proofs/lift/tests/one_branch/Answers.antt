use Rattle.pm_lift.proofs.RowLemmas.{branch_proof, branch_depth}
use Rattle.pm_lift.proofs.lift.tests.one_branch.Goals as goal

pub list-requires-clause-proof : goal.list-requires-clause-proof
list-requires-clause-proof g c =
    branch_proof _ _ c.in_ok-problem.ensures c.in_ok-tableau.ensures.root c.in_ok-tableau.ensures.nodes

pub list-requires-clause-shallow : goal.list-requires-clause-shallow
list-requires-clause-shallow g c =
    branch_depth _ c.in_ok-tableau.ensures.root c.in_ok-tableau.ensures.nodes
