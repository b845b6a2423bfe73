use Rattle.std.proofs.Common.{◌≡◌, ◌∙◌, ◌+◌, ap, ap₂, sum, refl}
use Rattle.std.proofs.lemmas.Result.{on_ok_weaker}
use Rattle.pm_report.proofs.SummaryLemmas.{budget_told, depth_told, proof_told}
use Rattle.pm_report.proofs.sample_text.push_end.Goals as goal

pub returns-in-Some : goal.returns-in-Some
returns-in-Some c =
    let works : c.total-attempts.result ≡ sum c.args.outcome.now.works.items = c.total-attempts.ensures.sum ∙ ap sum c.deref.ensures.value in
    let all : c.total-attempts.result + c.from.result ≡ sum c.args.outcome.now.works.items + c.in-Proof.work = ap₂ (λ a b. a + b) works c.from.ensures in
    on_ok_weaker c.push_proof.result
    (proof_told c.args.outcome.now.end (sum c.args.outcome.now.works.items) c.args.tableau c.args.text.now.items c.push_proof.new.text.items
    c.in-Proof.depth c.in-Proof.work (c.total-attempts.result + c.from.result) c.in-Proof.path c.in-Some.tableau c.in-Proof.is c.in-Some.is all)
    c.push_proof.ensures

pub returns-in-DepthReached : goal.returns-in-DepthReached
returns-in-DepthReached c =
    let works : c.total-attempts.result ≡ sum c.args.outcome.now.works.items = c.total-attempts.ensures.sum ∙ ap sum c.deref.ensures.value in
    on_ok_weaker c.push_depth_reached.result
    (depth_told c.args.outcome.now.end (sum c.args.outcome.now.works.items) c.args.tableau c.args.text.now.items c.push_depth_reached.new.text.items
    c.total-attempts.result c.in-DepthReached.is works)
    c.push_depth_reached.ensures

pub returns-in-BudgetOut : goal.returns-in-BudgetOut
returns-in-BudgetOut c =
    on_ok_weaker c.push_budget_out.result
    (budget_told c.args.outcome.now.end (sum c.args.outcome.now.works.items) c.args.tableau c.args.text.now.items c.push_budget_out.new.text.items
    c.in-BudgetOut.depth c.in-BudgetOut.depth c.in-BudgetOut.is refl)
    c.push_budget_out.ensures
