use Rattle.std.proofs.Common.{◌≡◌, ◌∙◌, ap, sym, subst, map}
use Rattle.pm_logic.specs.Tableau.{TableauWithTerms, preorder}
use Rattle.pm_logic.specs.View.{entry_of}
use Rattle.pm_logic.proofs.tableau.Tableau.nodes.Goals as goal

pub returns-clause-nodes : goal.returns-clause-nodes
returns-clause-nodes c =
    subst (λ (t : TableauWithTerms). map (entry_of t.terms) c.as_slice.result.now ≡ preorder t.tableau) c.self.view_is
    (ap (map (entry_of c.self.inside.terms)) c.as_slice.ensures.value ∙ sym (c.self.invariant.order c.self.inside.root))
