use Rattle.std.proofs.Common.{◌≡◌, ◌∙◌, ◌+◌, ap, arith, length}
use Rattle.std.specs.List.{All}
use Rattle.pm_logic.specs.View.{HasRows}
use Rattle.pm_report.proofs.SampleLemmas.{all_push, length-sample_terms}
use Rattle.pm_report.proofs.chain.sample_clauses.Goals as goal

pub goal_clause-requires : goal.goal_clause-requires
goal_clause-requires c =
    let size : length c.args.terms.now ≡ c.args.edges + 4 = ap length c.requires.terms ∙ length-sample_terms c.args.edges in
    omega arith

pub returns-clause-rows : goal.returns-clause-rows
returns-clause-rows c =
    let first = all_push (λ clause. All (HasRows (length c.args.terms.now)) clause.literals.items) _ c.push.new.self.items _ c.in_ok-clauses.ensures.rows
    c.in_ok-same_clause.ensures.rows c.in_ok-push.ensures.items in
    let second = all_push (λ clause. All (HasRows (length c.args.terms.now)) clause.literals.items) _ c.push-2.new.self.items _ first
    c.in_ok-step_clause.ensures.rows c.in_ok-push-2.ensures.items in
    all_push (λ clause. All (HasRows (length c.args.terms.now)) clause.literals.items) _ c.push-3.new.self.items _ second
    c.in_ok-goal_clause.ensures.rows c.in_ok-push-3.ensures.items
