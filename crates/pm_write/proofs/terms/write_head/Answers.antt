use Rattle.std.proofs.Common.{◌≡◌, List, map, subst}
use Rattle.pm_logic.specs.Term.{Term, app, as_terms, tree_at}
use Rattle.pm_write.proofs.OverSymbols.{args-over}
use Rattle.pm_write.proofs.terms.write_head.Goals as goal

pub returns-in_ok-write_symbol-in-App-clause-terms : goal.returns-in_ok-write_symbol-in-App-clause-terms
returns-in_ok-write_symbol-in-App-clause-terms c =
    let f = c.in-App.symbol in
    let args = c.in-App.args.now in
    args-over c.args.problem.now.symbols c.args.problem.now.terms c.args.term f args c.requires
    (subst (λ (terms : List Term). tree_at terms c.args.term ≡ app f (as_terms (map (tree_at terms) args))) c.terms.ensures c.in-App.ensures.0) c.in-App.ensures.1
