use Rattle.std.proofs.Common.{◌≡◌, ◌<◌, ℕ, map, subst}
use Rattle.std.specs.List.{All}
use Rattle.pm_logic.specs.Term.{app, as_terms, tree_at}
use Rattle.pm_report.proofs.MarkLemmas.{args_marked, new_mark}
use Rattle.pm_report.proofs.terms.mark_arguments_of.Goals as goal

pub returns-in-App-clause-new : goal.returns-in-App-clause-new
returns-in-App-clause-new c other =
    let terms = c.args.terms.now in
    let args = c.in-App.args.now in
    let shows = subst (λ (r : ℕ). tree_at terms r ≡ app c.in-App.symbol (as_terms (map (tree_at terms) args))) c.id.ensures c.in-App.ensures.0 in
    let below = subst (λ (r : ℕ). All (λ arg. arg < r) args) c.id.ensures c.in-App.ensures.1 in
    new_mark terms c.args.marks.now.items c.mark_all.new.marks.items c.args.row c.in-App.symbol other args shows below (c.mark_all.ensures.marked other)

pub returns-in-App-clause-marked : goal.returns-in-App-clause-marked
returns-in-App-clause-marked c =
    let terms = c.args.terms.now in
    let args = c.in-App.args.now in
    let shows = subst (λ (r : ℕ). tree_at terms r ≡ app c.in-App.symbol (as_terms (map (tree_at terms) args))) c.id.ensures c.in-App.ensures.0 in
    args_marked terms c.args.marks.now.items c.mark_all.new.marks.items c.args.row c.in-App.symbol args shows c.mark_all.ensures.marked
