use Rattle.std.proofs.Common.{◌-◌, arith}
use Rattle.pm_lift.proofs.CodeLemmas.{answered_last}
use Rattle.pm_lift.proofs.branch.answer.Goals as goal

pub returns-clause-branch : goal.returns-clause-branch
returns-clause-branch c terms =
    answered_last terms c.args.branch.now.items (c.len-last.result - 1) c.index_mut.result.now c.requires (omega (arith, c.len-last.ensures, c.args.branch.now.ok)) c.index_mut.ensures.value
