use Rattle.std.proofs.lemmas.Result.{IfOk-weaker}
use Rattle.pm_logic.specs.Term.{tree_at}
use Rattle.pm_run.proofs.InstructionLemmas.{ground_done, found_cell}
use Rattle.pm_run.proofs.instructions.unify_ground.Goals as goal

pub returns-clause-unified : goal.returns-clause-unified
returns-clause-unified c =
    let program = c.args.program.now in
    let terms = program.problem.now.terms in
    let its = found_cell terms program.cells.items c.args.store.now c.args.t c.cell.result c.requires.cells c.requires.row c.requires.finds.1 c.cell.ensures in
    IfOk-weaker c.unify_top.result _ _
    (λ answer done locals children branch.
    ground_done locals children branch c.args.store.now c.unify_top.new.store c.args.stack.now.items c.unify_top.new.stack.items (tree_at terms c.args.t) done.0 _ answer
    done.1 its done.2)
    c.unify_top.ensures.answers
