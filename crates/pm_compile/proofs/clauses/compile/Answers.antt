use Rattle.std.proofs.Common.{◌≡◌, ◌+◌, List, length, sym, ◌∙◌, ap, subst, arith}
use Rattle.std.proofs.lemmas.List.{length_push}
use Rattle.pm_logic.specs.Problem.{Problem}
use Rattle.pm_compile.specs.Code.{ClauseCode, IsCodeOf}
use Rattle.pm_compile.specs.Inside.Clauses.{AddsClause}
use Rattle.pm_compile.specs.Inside.Heads.{IsReadyFor}
use Rattle.pm_compile.proofs.ClauseLemmas.{compiled-push, laid-out, compiled-all}
use Rattle.pm_compile.proofs.clauses.compile.Goals as goal

pub clauses-preserved : goal.clauses-preserved
clauses-preserved c =
    let problem = c.args.problem.now in
    let adds : AddsClause problem c.clauses.c c.clauses.instrs.items c.clauses.extensions.items c.append_clause.new.instrs.items c.append_clause.new.extensions.items c.in_ok-spans.spans =
    subst (λ (p : Problem). AddsClause p c.clauses.c c.clauses.instrs.items c.clauses.extensions.items c.append_clause.new.instrs.items c.append_clause.new.extensions.items c.in_ok-spans.spans)
    c.in_ok-source.ensures c.in_ok-spans.ensures.clause in
    record {
      compiled = compiled-push problem c.clauses.c _ _ _ _ _ _ c.in_ok-spans.spans c.clauses.invariant.count adds c.in_ok-push.ensures.items c.clauses.invariant.compiled;
      count = ap length c.in_ok-push.ensures.items ∙ length_push c.clauses.clauses.items c.in_ok-spans.spans ∙ ap (λ n. n + 1) c.clauses.invariant.count;
      ready =
          subst (λ (p : Problem). IsReadyFor p.terms (length c.append_clause.new.instrs.items + 1) c.append_clause.new.seen)
          c.in_ok-source.ensures c.in_ok-spans.ensures.seen;
    }

pub new-requires-3 : goal.new-requires-3
new-requires-3 c = laid-out c.args.problem.now c.clauses.instrs.items c.clauses.extensions.items c.clauses.clauses.items c.clauses.invariant.compiled

pub returns : goal.returns
returns c =
    let problem = c.args.problem.now in
    let counted : length c.clauses.clauses.items ≡ length problem.clauses =
    omega (arith, c.clauses.invariant.count, c.clauses-test.false, c.clauses.auto.c-end, c.clauses-c-end.ensures.count) in
    subst (λ (code : List ClauseCode). IsCodeOf problem code) (sym c.new-3.ensures)
    (compiled-all problem c.clauses.instrs.items c.clauses.extensions.items c.clauses.clauses.items counted c.clauses.invariant.compiled)
