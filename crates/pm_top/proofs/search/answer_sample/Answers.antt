use Rattle.std.proofs.Common.{ℕ, length, Option, ap, subst, ◌∙◌}
use Rattle.std.specs.Option.{option_map}
use Rattle.pm_logic.specs.Problem.{Problem}
use Rattle.pm_logic.specs.Tableau.{TableauWithTerms}
use Rattle.pm_deepen.specs.Levels.{IsAnswerOf}
use Rattle.pm_report.specs.Summary.{IsSummary}
use Rattle.pm_top.specs.Output.{searched_with}
use Rattle.pm_top.proofs.search.answer_sample.Goals as goal

pub returns : goal.returns
returns c =
    let found = c.args.found.now in
    let n = c.args.n in
    let text = c.in_ok-summary.field-0.items in
    let count = c.clauses.ensures.count ∙ ap (λ (p : Problem). length p.clauses) c.requires.sample in
    let drawn = subst (λ (t : Option TableauWithTerms). IsSummary n c.clauses.result found.outcome t text) c.as_ref-tableau.ensures.value c.in_ok-summary.ensures in
    record {
      outcome = found.outcome;
      tableau = found.tableau;
      answer = subst (λ (p : Problem). IsAnswerOf p (searched_with c.args.options.now) found.outcome.works.items found.outcome.end (option_map (λ d. d.tableau) found.tableau))
          c.requires.sample c.requires.found;
      status_is = c.status_of.ensures;
      text_is = subst (λ (k : ℕ). IsSummary n k found.outcome found.tableau text) count drawn;
    }
