use Rattle.pm_run.proofs.GroundLemmas.{next_arg, arg_without}
use Rattle.pm_run.proofs.ground_terms.cells_of_args.Goals as goal

pub returns-in-None : goal.returns-in-None
returns-in-None c = λ terms s are.
    arg_without terms c.args.cells.now s c.args.args.now c.args-2.arg-index _ _ _ are c.args-2-test.true c.arg-item.is c.row.ensures c.cell_at.ensures c.in-None.is

pub args-2-preserved : goal.args-2-preserved
args-2-preserved c = λ terms s are.
    next_arg terms c.args.cells.now s c.args.args.now _ _ c.args-2.arg-index _ _ _ _ are c.args-2-test.true c.arg-item.is c.row.ensures c.cell_at.ensures c.in-Some.is
    (c.args-2.invariant terms s are) c.in_ok-push-in-Some.ensures.ok
