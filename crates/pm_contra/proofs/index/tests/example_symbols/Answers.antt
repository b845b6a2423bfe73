use Rattle.pm_contra.proofs.ExampleLemmas.{three_numbers}
use Rattle.pm_contra.proofs.index.tests.example_symbols.Goals as goal

pub returns : goal.returns
returns c = three_numbers _ _ _ _ _ _ _ c.new-symbols.ensures c.in_ok-number.ensures.numbered c.in_ok-number-2.ensures.numbered c.in_ok-number-3.ensures.numbered
