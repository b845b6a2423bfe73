use Rattle.std.proofs.Common.{ap, ◌∙◌, List, ℕ, subst}
use Rattle.std.specs.Option.{option_map}
use Rattle.pm_logic.specs.Tableau.{TableauWithTerms}
use Rattle.pm_cert.specs.Laws.{HasSmallNumbers}
use Rattle.pm_cert.specs.Text.{IsDocument}
use Rattle.pm_report.specs.Text.{text_of, gave_up_lines, resource_out_lines}
use Rattle.pm_top.specs.Output.{report}
use Rattle.pm_top.proofs.Says.{depth_answer, budget_answer, proof_closed, proof_symbols, proof_answer}
use Rattle.pm_top.proofs.search.answer_search.Goals as goal

pub returns-in_ok-gave_up-in-DepthReached : goal.returns-in_ok-gave_up-in-DepthReached
returns-in_ok-gave_up-in-DepthReached c =
    let found = c.args.found.now in
    let both = depth_answer c.args.problem.now c.args.options.now c.requires.limits found.outcome.works.items found.outcome.end (option_map (λ d. d.tableau) found.tableau) c.requires.found
    c.in_ok-gave_up-in-DepthReached.field-0.items c.in-DepthReached.is
    (c.in_ok-gave_up-in-DepthReached.ensures ∙ ap (λ (ws : List ℕ). text_of (gave_up_lines ws)) c.deref.ensures.value) in
    record { ends = both.0; says = both.1 }

pub returns-in_ok-resource_out-in-BudgetOut : goal.returns-in_ok-resource_out-in-BudgetOut
returns-in_ok-resource_out-in-BudgetOut c =
    let found = c.args.found.now in
    let both = budget_answer c.args.problem.now c.args.options.now c.requires.limits found.outcome.works.items found.outcome.end (option_map (λ d. d.tableau) found.tableau) c.requires.found
    c.in-BudgetOut.depth c.in_ok-resource_out-in-BudgetOut.field-0.items c.in-BudgetOut.is
    (c.in_ok-resource_out-in-BudgetOut.ensures ∙ ap (λ (ws : List ℕ). text_of (resource_out_lines ws)) c.deref-in-BudgetOut.ensures.value) in
    record { ends = both.0; says = both.1 }

pub write_cert-requires-clause-closed : goal.write_cert-requires-clause-closed
write_cert-requires-clause-closed c =
    let found = c.args.found.now in
    proof_closed c.args.problem.now c.args.options.now c.requires.limits found.outcome.works.items found.outcome.end (option_map (λ d. d.tableau) found.tableau) c.requires.found
    c.requires.valid _ _ _ c.in-Some.tableau.tableau c.in-Proof.is (ap (option_map (λ d. d.tableau)) c.in-Some.is)

pub write_cert-requires-clause-symbols : goal.write_cert-requires-clause-symbols
write_cert-requires-clause-symbols c =
    let found = c.args.found.now in
    proof_symbols c.args.problem.now c.args.options.now c.requires.limits found.outcome.works.items found.outcome.end (option_map (λ d. d.tableau) found.tableau) c.requires.found
    c.requires.valid _ _ _ c.in-Some.tableau.tableau c.in-Proof.is (ap (option_map (λ d. d.tableau)) c.in-Some.is)

pub returns-in_ok-write_cert-in-Proof : goal.returns-in_ok-write_cert-in-Proof
returns-in_ok-write_cert-in-Proof c =
    let found = c.args.found.now in
    let problem = c.args.problem.now in
    let options = c.args.options.now in
    let works = found.outcome.works.items in
    let t = c.in-Some.tableau.tableau in
    let last = c.in-Proof.work in
    let text = c.in_ok-write_cert-in-Proof.field-0.items in
    let document = subst (λ (ws : List ℕ). IsDocument problem.symbols (report options ws last) t text) c.deref-in-Proof.ensures.value c.in_ok-write_cert-in-Proof.ensures.document in
    let numbers = subst (λ (ws : List ℕ). HasSmallNumbers (report options ws last) t) c.deref-in-Proof.ensures.value c.in_ok-write_cert-in-Proof.ensures.numbers in
    let both = proof_answer problem options c.requires.limits works found.outcome.end (option_map (λ d. d.tableau) found.tableau) c.requires.found
    c.requires.valid _ last _ t c.in-Proof.is (ap (option_map (λ d. d.tableau)) c.in-Some.is) text document numbers in
    record { ends = both.0; says = both.1 }
