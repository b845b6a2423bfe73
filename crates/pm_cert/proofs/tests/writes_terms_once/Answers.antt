use Rattle.pm_cert.proofs.ExampleLemmas.{chain_closed, chain_over}
use Rattle.pm_cert.proofs.tests.writes_terms_once.Goals as goal

pub write_cert-requires-clause-closed : goal.write_cert-requires-clause-closed
write_cert-requires-clause-closed g c = chain_closed c.in_ok-tableau.tableau.tableau c.in_ok-tableau.ensures

pub write_cert-requires-clause-symbols : goal.write_cert-requires-clause-symbols
write_cert-requires-clause-symbols g c =
    chain_over c.in_ok-problem.problem.symbols c.in_ok-tableau.tableau.tableau c.in_ok-problem.ensures c.in_ok-tableau.ensures
