use Rattle.std.proofs.Common.{◌≡◌, ◌∙◌, ◌+◌, ap, arith, length, refl}
use Rattle.std.specs.List.{All}
use Rattle.std.proofs.lemmas.List.Elements.{All-nil}
use Rattle.pm_logic.specs.View.{HasRows}
use Rattle.pm_report.specs.Sample.{edge_clauses}
use Rattle.pm_report.proofs.SampleLemmas.{all_push, edges_after, length-sample_terms}
use Rattle.pm_report.proofs.chain.edge_clauses.Goals as goal

pub loop-i-init : goal.loop-i-init
unfolding edge_clauses
loop-i-init c = rw c.new-clauses.ensures.items (refl, All-nil (λ clause. All (HasRows (length c.args.terms.now)) clause.literals.items))

pub edge_clause-requires-clause-rows : goal.edge_clause-requires-clause-rows
edge_clause-requires-clause-rows c =
    let size : length c.args.terms.now ≡ c.args.edges + 4 = ap length c.requires.terms ∙ length-sample_terms c.args.edges in
    omega arith

pub loop-i-preserved : goal.loop-i-preserved
loop-i-preserved c = (
  edges_after c.args.terms.now c.loop-i.clauses.items c.push.new.self.items _ c.loop-i.i c.loop-i.invariant.0
      (c.in_ok-edge_clause.ensures.clause c.args.edges c.requires.terms (omega arith)) c.in_ok-push.ensures.items,
  all_push (λ clause. All (HasRows (length c.args.terms.now)) clause.literals.items) c.loop-i.clauses.items c.push.new.self.items _ c.loop-i.invariant.1
      c.in_ok-edge_clause.ensures.rows c.in_ok-push.ensures.items,
)
