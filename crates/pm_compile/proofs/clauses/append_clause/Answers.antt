use Rattle.std.proofs.Common.{◌<◌, ◌^◌, List, All, length, map, sym, ◌∙◌, ap, subst, arith}
use Rattle.std.proofs.lemmas.List.{length-map}
use Rattle.pm_logic.specs.declared.problem.Literal.{Literal}
use Rattle.pm_logic.specs.Problem.{IsClauseOver}
use Rattle.pm_logic.specs.View.{clause_of, literal_of}
use Rattle.pm_compile.specs.Inside.Appended.{Appends}
use Rattle.pm_compile.specs.Inside.Clauses.{IsOver, AddsExtensions}
use Rattle.pm_compile.specs.Scheme.{body_code}
use Rattle.pm_compile.proofs.ClauseLemmas.{clause-added, ready-later}
use Rattle.pm_compile.proofs.OverLemmas.{clause-over, literals-over}
use Rattle.pm_compile.proofs.clauses.append_clause.Goals as goal

pub append_body-requires : goal.append_body-requires
append_body-requires c =
    let problem = c.args.source.now.problem.now in
    let clause = c.clause-clause.result.now in
    let small : clause.vars < 2 ^ 32 = omega arith in
    subst (All (IsOver problem.symbols problem.terms)) (sym c.deref.ensures.value)
    (literals-over problem.symbols problem.terms clause small
    (clause-over problem.symbols problem.clauses c.args.c (clause_of problem.terms clause) c.requires.valid.clauses c.clause-clause.ensures.clause)
    c.clause-clause.ensures.rows)

pub append_extensions-requires-clause-few : goal.append_extensions-requires-clause-few
append_extensions-requires-clause-few c =
    let problem = c.args.source.now.problem.now in
    let clause = c.clause-clause.result.now in
    let over : IsClauseOver problem.symbols (clause_of problem.terms clause) =
    clause-over problem.symbols problem.clauses c.args.c (clause_of problem.terms clause) c.requires.valid.clauses c.clause-clause.ensures.clause in
    omega (arith, over.few, length-map clause.literals.items (literal_of problem.terms), ap length c.deref-2.ensures.value)

pub append_extensions-requires-clause-literals : goal.append_extensions-requires-clause-literals
append_extensions-requires-clause-literals c =
    let problem = c.args.source.now.problem.now in
    let clause = c.clause-clause.result.now in
    let small : clause.vars < 2 ^ 32 = omega arith in
    subst (All (IsOver problem.symbols problem.terms)) (sym c.deref-2.ensures.value)
    (literals-over problem.symbols problem.terms clause small
    (clause-over problem.symbols problem.clauses c.args.c (clause_of problem.terms clause) c.requires.valid.clauses c.clause-clause.ensures.clause)
    c.clause-clause.ensures.rows)

pub append_extensions-requires-clause-seen : goal.append_extensions-requires-clause-seen
append_extensions-requires-clause-seen c =
    let terms = c.args.source.now.problem.now.terms in
    ready-later terms _ _ _ _ c.args.c c.args.seen.now c.in_ok-append_body.ensures (c.in_ok-append_start.ensures terms) c.requires.seen

pub returns-clause-clause : goal.returns-clause-clause
returns-clause-clause c =
    let problem = c.args.source.now.problem.now in
    let terms = problem.terms in
    let clause = c.clause-clause.result.now in
    let first = c.args.instrs.now.items in
    let second = c.append_body.new.instrs.items in
    let third = c.append_start.new.instrs.items in
    let last = c.append_extensions.new.instrs.items in
    let body : Appends terms first second (body_code (map (literal_of terms) clause.literals.items)) =
    subst (λ (ls : List Literal). Appends terms first second (body_code (map (literal_of terms) ls))) c.deref.ensures.value c.in_ok-append_body.ensures in
    let added : AddsExtensions terms c.args.c (map (literal_of terms) clause.literals.items) third c.args.extensions.now.items last c.append_extensions.new.extensions.items =
    subst (λ (ls : List Literal). AddsExtensions terms c.args.c (map (literal_of terms) ls) third c.args.extensions.now.items last c.append_extensions.new.extensions.items)
    c.deref-2.ensures.value c.in_ok-extended.ensures.added in
    clause-added problem c.args.c (clause_of terms clause) first second third last _ _ c.len-from.result c.len-middle.result c.len-to.result c.in_ok-extended.extended
    c.clause-clause.ensures.clause body (c.in_ok-append_start.ensures terms) added
    (c.len-from.ensures ∙ c.args.instrs.now.ok.0) (c.len-middle.ensures ∙ c.append_body.new.instrs.ok.0) (c.len-to.ensures ∙ c.append_start.new.instrs.ok.0)
    c.in_ok-extended.ensures.place
