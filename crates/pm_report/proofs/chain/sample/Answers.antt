use Rattle.std.proofs.Common.{◌*◌, arith, subst, sym}
use Rattle.pm_logic.specs.Problem.{IsValid}
use Rattle.pm_report.proofs.SampleLemmas.{problem_is}
use Rattle.pm_report.proofs.ValidLemmas.{sample_valid}
use Rattle.pm_report.proofs.chain.sample.Goals as goal

pub new-requires-clause-valid : goal.new-requires-clause-valid
new-requires-clause-valid c =
    let edges = 1000 * c.args.n in
    let same = problem_is edges c.in_ok-symbols.symbols c.in_ok-terms.terms _ c.in_ok-symbols.ensures c.in_ok-terms.ensures c.in_ok-clauses.ensures.clauses in
    subst IsValid (sym same) (sample_valid edges (omega arith) (omega arith))
