use Rattle.std.proofs.lemmas.Result.{IfOk-weaker}
use Rattle.pm_run.proofs.InstructionLemmas.{again_done}
use Rattle.pm_run.proofs.instructions.unify_local.Goals as goal

pub returns-clause-unified : goal.returns-clause-unified
returns-clause-unified c =
    IfOk-weaker c.unify_top.result _ _
    (λ answer done children branch.
    again_done c.args.locals.now children branch c.args.store.now c.unify_top.new.store c.args.stack.now.items c.unify_top.new.stack.items c.args.x done.0 _ answer
    done.1 c.cell_in.ensures done.2)
    c.unify_top.ensures.answers
