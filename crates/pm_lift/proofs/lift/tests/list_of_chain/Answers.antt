use Rattle.std.proofs.Common.{map, ◌∙◌, ap}
use Rattle.pm_lift.specs.Inside.Example.{example_terms, described_entry}
use Rattle.pm_lift.proofs.RowLemmas.{chain_proof, chain_depth}
use Rattle.pm_lift.proofs.lift.tests.list_of_chain.Goals as goal

pub list-requires-clause-proof : goal.list-requires-clause-proof
list-requires-clause-proof g c =
    chain_proof _ _ c.args.count c.in_ok-problem.ensures c.in_ok-tableau.ensures.root
    (c.in_ok-tableau.ensures.nodes ∙ ap (map (described_entry example_terms)) (c.as_slice.ensures.value ∙ c.in_ok-nodes.ensures))

pub list-requires-clause-shallow : goal.list-requires-clause-shallow
list-requires-clause-shallow g c =
    chain_depth _ c.args.count c.requires c.in_ok-tableau.ensures.root
    (c.in_ok-tableau.ensures.nodes ∙ ap (map (described_entry example_terms)) (c.as_slice.ensures.value ∙ c.in_ok-nodes.ensures))
