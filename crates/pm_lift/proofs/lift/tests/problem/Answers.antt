use Rattle.std.proofs.Common.{List, length, map, ap, ◌≡◌, ◌∙◌, sym, subst, arith}
use Rattle.std.specs.List.{All}
use Rattle.std.proofs.lemmas.List.{length-map}
use Rattle.pm_logic.specs.Problem.{Problem, IsClauseOver}
use Rattle.pm_logic.specs.Term.{Term}
use Rattle.pm_logic.specs.View.{clause_of}
use Rattle.pm_lift.specs.Inside.Example.{example_symbols, example_terms, described_clause}
use Rattle.pm_lift.proofs.ExampleLemmas.{valid_example, clauses_valid}
use Rattle.pm_lift.proofs.lift.tests.problem.Goals as goal

pub new-requires-clause-valid : goal.new-requires-clause-valid
new-requires-clause-valid g c =
    let lists = c.args.lists.now in
    let same : map (clause_of c.in_ok-terms.terms) c.in_ok-clauses.clauses.items ≡ map (λ atoms. described_clause example_terms atoms.now) lists =
    c.in_ok-clauses.ensures.clauses ∙ ap (λ (ts : List Term). map (λ atoms. described_clause ts atoms.now) lists) c.in_ok-terms.ensures in
    valid_example _ c.in_ok-symbols.ensures
    (omega (arith, c.in_ok-clauses.ensures.few, ap length same, length-map lists (λ atoms. described_clause example_terms atoms.now)))
    (subst (All (IsClauseOver example_symbols)) (sym same) (clauses_valid lists c.in_ok-clauses.ensures.small))

pub returns : goal.returns
returns g c =
    let lists = c.args.lists.now in
    ap (λ (p : Problem). p.clauses) c.new.ensures
    ∙ c.in_ok-clauses.ensures.clauses
    ∙ ap (λ (ts : List Term). map (λ atoms. described_clause ts atoms.now) lists) c.in_ok-terms.ensures
