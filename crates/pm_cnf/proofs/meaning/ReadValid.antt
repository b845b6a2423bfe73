-- A problem that was read is valid.
use Rattle.std.proofs.Common.{arith}
use Rattle.std.specs.Prelude.{All}
use Rattle.std.proofs.lemmas.List.Elements.{All-from_recursion}
use Rattle.pm_logic.specs.Problem.{IsPrintable}
use Rattle.pm_cnf.specs.Meaning.{item_symbols}
use Rattle.pm_cnf.specs.Laws.{ReadProblemsAreValid}
use Rattle.pm_cnf.proofs.meaning.ValidItems.{problem_valid}
use Rattle.pm_cnf.proofs.offences.Within.{sound_within, file_within}
use Rattle.pm_cnf.proofs.parsed.Kept.{items_printable, file_formed}

pub read_valid : ReadProblemsAreValid
read_valid limits bytes problem usual p =
    let within = file_within limits p.items (sound_within limits bytes p.text.lexemes p.items p.text.leads p.text.are p.text.file p.text.sound) in
    let words = items_printable p.items 0 (file_formed bytes p.text.lexemes p.items p.text.leads p.text.file) in
    problem_valid p.items problem p.means (omega (arith, within.0, usual.clauses)) (λ k d lt. omega (arith, within.1 k d lt, usual.literals))
    (All-from_recursion (λ item. All (λ s. IsPrintable s.text) (item_symbols item)) p.items words.1)
