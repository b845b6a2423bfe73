use Rattle.std.proofs.Common.{◌∙◌, ◌∷◌, ◌++◌, [], List, ℕ, sym, ap, codes, length}
use Rattle.pm_report.specs.Text.{budget_line, level_lines, text_of}
use Rattle.pm_report.proofs.TextLemmas.{text_of-append}
use Rattle.pm_report.proofs.texts.resource_out.Goals as goal

pub returns : goal.returns
returns c =
    c.in_ok-push_budget.ensures
    ∙ ap (λ (t : List ℕ). t ++ text_of (budget_line (length c.args.works.now) ∷ [])) c.in_ok-push_levels.ensures
    ∙ ap (λ (t : List ℕ). (t ++ text_of (level_lines c.args.works.now)) ++ text_of (budget_line (length c.args.works.now) ∷ [])) c.in_ok-text.ensures.items
    ∙ ap (λ (t : List ℕ). codes "% SZS status ResourceOut\n" ++ t) (sym (text_of-append (level_lines c.args.works.now) (budget_line (length c.args.works.now) ∷ [])))
