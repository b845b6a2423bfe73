use Rattle.std.proofs.Common.{[], map, sym, subst, ◌<◌, length}
use Rattle.std.proofs.lemmas.List.Elements.{All-nil}
use Rattle.pm_store.specs.Marks.{HasMark}
use Rattle.pm_compile.specs.Scheme.{start_code}
use Rattle.pm_run.specs.Bodies.{variables_at}
use Rattle.pm_run.specs.Runner.{child_of}
use Rattle.pm_machine.proofs.MachineLemmas.{run_grows, has_mark}
use Rattle.pm_machine.proofs.machine.start_tree.Goals as goal

pub undo-requires : goal.undo-requires
undo-requires c =
    let clauses = c.args.runner.now.problem.clauses in
    let grown = run_grows clauses (start_code c.args.clause) (variables_at clauses c.args.clause) [] c.args.store.now c.start.new.store
    (map child_of c.start.new.children.items) c.in_ok-start.ensures.comes c.mark-mark.ensures.sound (All-nil (λ n. n < length c.args.store.now.cells)) in
    subst (HasMark c.start.new.store) (sym c.mark-mark.ensures.counts) (has_mark c.args.store.now c.start.new.store c.mark-mark.ensures.sound grown.0)

pub returns-in-Err-clause-err : goal.returns-in-Err-clause-err
returns-in-Err-clause-err c =
    let clauses = c.args.runner.now.problem.clauses in
    let grown = run_grows clauses (start_code c.args.clause) (variables_at clauses c.args.clause) [] c.args.store.now c.start.new.store
    (map child_of c.start.new.children.items) c.in_ok-start.ensures.comes c.mark-mark.ensures.sound (All-nil (λ n. n < length c.args.store.now.cells)) in
    (c.undo.ensures.before c.args.store.now grown.0 c.mark-mark.ensures.counts, c.in-Err.ensures.err)
