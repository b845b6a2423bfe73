use Rattle.std.proofs.Common.{◌≤◌, ◌∷◌, [], ◌++◌, ◌∙◌, ap, sym, subst, length}
use Rattle.pm_logic.specs.Tableau.{TableauWithTerms, preorder, deepest_next}
use Rattle.pm_logic.specs.View.{HasRows, entry_of, tableau_of}
use Rattle.pm_logic.proofs.NodeLemmas.{preorder-push, IsPreorder-push}
use Rattle.pm_logic.proofs.tableau.Tableau.add.Goals as goal

pub invariant_of-self-2 : goal.invariant_of-self-2
invariant_of-self-2 c =
    let shallow = subst (λ (t : TableauWithTerms). c.args.node.depth ≤ deepest_next (preorder t.tableau)) (sym c.self.view_is) c.requires.shallow in
    let in_table = subst (λ (t : TableauWithTerms). HasRows (length t.terms) c.args.node.literal) (sym c.self.view_is) c.requires.rows in
    rw c.in_ok-push.ensures.items
    (IsPreorder-push c.self.inside.terms c.self.inside.root c.self.inside.nodes.items c.args.node c.self.invariant c.requires.below_root shallow in_table)

pub returns-clause-nodes : goal.returns-clause-nodes
returns-clause-nodes c =
    let shallow = subst (λ (t : TableauWithTerms). c.args.node.depth ≤ deepest_next (preorder t.tableau)) (sym c.self.view_is) c.requires.shallow in
    ap (λ nodes. preorder (tableau_of c.self.inside.terms c.self.inside.root nodes)) c.in_ok-push.ensures.items
    ∙ preorder-push c.self.inside.terms c.self.inside.root c.self.inside.nodes.items c.args.node c.requires.below_root shallow
    ∙ ap (λ (t : TableauWithTerms). preorder t.tableau ++ entry_of t.terms c.args.node ∷ []) c.self.view_is
