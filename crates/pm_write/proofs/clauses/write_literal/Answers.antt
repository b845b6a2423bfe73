use Rattle.std.proofs.Common.{All, sym, subst}
use Rattle.pm_write.specs.Rows.{IsTerm}
use Rattle.pm_write.proofs.OverSymbols.{literal_args-over}
use Rattle.pm_write.proofs.clauses.write_literal.Goals as goal

pub write_arguments-requires : goal.write_arguments-requires
write_arguments-requires c =
    let symbols = c.args.problem.now.symbols in
    let terms = c.args.problem.now.terms in
    subst (All (IsTerm symbols terms)) (sym c.deref.ensures.value) (literal_args-over symbols terms c.args.literal.now c.requires)
