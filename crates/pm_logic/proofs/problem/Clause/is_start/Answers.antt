use Rattle.std.proofs.Common.{◌∙◌, sym, ap, not}
use Rattle.std.proofs.lemmas.List.Folds.{list_all-map}
use Rattle.pm_logic.specs.Problem.{is_start}
use Rattle.pm_logic.specs.Problem as spec
use Rattle.pm_logic.specs.View.{literal_of, clause_of}
use Rattle.pm_logic.proofs.problem.Clause.is_start.Goals as goal

pub returns-in-Negative : goal.returns-in-Negative
returns-in-Negative c = λ terms.
    c.is_negative.ensures
    ∙ sym (list_all-map (λ (l : spec.Literal). not l.positive) (literal_of terms) c.args.self.now.literals.items)
    ∙ ap (λ start. is_start start (clause_of terms c.args.self.now)) (sym c.in-Negative.is)
