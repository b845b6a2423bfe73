use Rattle.std.proofs.Common.{List, sym, subst, arith}
use Rattle.pm_logic.specs.Term.{Term}
use Rattle.std.proofs.lemmas.List.{length-map}
use Rattle.pm_logic.specs.View.{literal_of, clause_of}
use Rattle.pm_tab.specs.Inside.Numbering.{all_literals}
use Rattle.pm_tab.specs.Inside.Known.{StandAfter, TellsGround}
use Rattle.pm_tab.proofs.Kept.{clause_stands, counted_more, clauses_more, few_literals, all_numbered}
use Rattle.pm_tab.proofs.numbers.number.Goals as goal

pub clauses-preserved : goal.clauses-preserved
clauses-preserved c =
    let problem = c.args.problem.now in
    let clause = clause_of problem.terms c.clause.result.now in
    let few = few_literals problem c.clauses.i clause c.clauses-i-end.ensures.valid c.clause.ensures.clause in
    let long = length-map c.clause.result.now.literals.items (literal_of problem.terms) in
    let stand = subst (λ n. StandAfter (all_literals problem.clauses) n clause.literals) (sym c.clauses.invariant.counted)
    (clause_stands problem.clauses c.clauses.i clause c.clause.ensures.clause) in
    let tells = subst (TellsGround problem.terms) (sym c.deref.ensures.value)
    (subst (λ (ts : List Term). TellsGround ts c.in_ok-ground.ground.items) c.terms.ensures c.in_ok-ground.ensures) in
    let its = c.in_ok-own.ensures.numbers problem.terms (all_literals problem.clauses) tells c.clauses.invariant.kept stand in
    record {
      counted = omega (arith, counted_more problem.clauses c.clauses.i clause c.clause.ensures.clause, c.in_ok-own.ensures.count, c.clauses.invariant.counted, long);
      few = omega (arith, c.in_ok-own.ensures.count, few, long, c.clauses.invariant.few);
      kept = its.1;
      numbered = clauses_more problem.clauses c.clauses.i clause c.in_ok-own.own c.clauses.numbers.items c.push.new.self.items c.clause.ensures.clause
          c.clauses.invariant.numbered its.0 c.in_ok-push.ensures.items;
    }

pub returns : goal.returns
returns c =
    all_numbered c.args.problem.now.clauses c.clauses.i _ (omega (arith, c.clauses-test.false, c.clauses-i-end.ensures.count)) c.clauses.invariant.numbered
