use Rattle.pm_logic.specs.Term.{tree_at}
use Rattle.pm_run.proofs.InstructionLemmas.{constant_done, found_cell}
use Rattle.pm_run.proofs.instructions.push_ground.Goals as goal

pub returns : goal.returns
returns c = λ s ground locals children branch.
    let program = c.args.program.now in
    let terms = program.problem.now.terms in
    constant_done locals children branch s c.args.stack.now.items c.push.new.self.items (tree_at terms c.args.t) c.cell.result
    (found_cell terms program.cells.items s c.args.t c.cell.result ground c.requires.row c.requires.term c.cell.ensures) c.in_ok-push.ensures.items
