use Rattle.std.proofs.Common.{◌≡◌, ◌++◌, codes, decimal, drop}
use Rattle.std.specs.List.{flat_map}
use Rattle.pm_report.proofs.texts.push_choices.Given as goal

abbrev pub invariant-loop-choice : goal.invariant-loop-choice
invariant-loop-choice l =
    l.text.items ++ flat_map (λ choice. codes " " ++ decimal choice) (drop l.choice-index l.choices)
    ≡ l.fn.text.items ++ flat_map (λ choice. codes " " ++ decimal choice) l.choices
