use Rattle.std.proofs.Common.{◌<◌, ◌≤◌, [], length, sym, ap, ◌∙◌, arith}
use Rattle.std.proofs.lemmas.List.{take_all}
use Rattle.std.proofs.lemmas.Option.{get_or_from_slice_get}
use Rattle.std.specs.List.{flat_map}
use Rattle.pm_logic.specs.Problem.{Clause}
use Rattle.pm_logic.specs.View.{clause_of}
use Rattle.pm_write.specs.Text.{clause_text}
use Rattle.pm_write.proofs.OverSymbols.{literals-over}
use Rattle.pm_write.proofs.PendingText.{flat_map-next}
use Rattle.pm_write.proofs.clauses.write.Goals as goal

pub loop-i-preserved : goal.loop-i-preserved
loop-i-preserved c =
    let problem = c.args.problem.now in
    let clause : Clause = clause_of problem.terms c.clause.result.now in
    let within : c.loop-i.i < length problem.clauses = omega (arith, c.loop-i-test.true, c.clauses-i-end.ensures.count) in
    flat_map-next (clause_text problem.symbols) [] _ _ problem.clauses c.loop-i.i clause within
    (sym (get_or_from_slice_get problem.clauses c.loop-i.i clause clause c.clause.ensures.clause)) c.loop-i.invariant c.in_ok-write_clause.ensures

pub returns : goal.returns
returns c =
    let problem = c.args.problem.now in
    let done : length problem.clauses ≤ c.loop-i.i = omega (arith, c.loop-i-test.false, c.clauses-i-end.ensures.count) in
    c.loop-i.invariant ∙ ap (flat_map (clause_text problem.symbols)) (take_all c.loop-i.i problem.clauses done)

pub write_clause-requires : goal.write_clause-requires
write_clause-requires c =
    let problem = c.args.problem.now in
    literals-over problem.symbols problem.terms problem.clauses c.loop-i.i c.clause.result.now c.clauses-i-end.ensures.valid.clauses c.clause.ensures.clause c.clause.ensures.rows
