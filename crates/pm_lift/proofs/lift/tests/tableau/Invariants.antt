use Rattle.std.proofs.Common.{◌≡◌, map, take}
use Rattle.pm_logic.specs.Tableau.{deepest_next, preorder}
use Rattle.pm_lift.specs.Inside.Example.{example_terms, described_entry}
use Rattle.pm_lift.proofs.lift.tests.tableau.Given as goal

abbrev pub invariant-nodes : goal.invariant-nodes
invariant-nodes g l =
    (l.tableau.tableau.root ≡ l.fn.root)
    × (l.tableau.terms ≡ example_terms)
    × (preorder l.tableau.tableau ≡ map (described_entry example_terms) (take l.depth-index l.nodes))
    × (l.deepest ≡ deepest_next (preorder l.tableau.tableau))
