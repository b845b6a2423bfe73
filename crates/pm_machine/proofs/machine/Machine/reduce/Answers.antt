use Rattle.std.proofs.Common.{sym, subst}
use Rattle.std.specs.Prelude.{IfOk}
use Rattle.pm_calculus.specs.Skeleton.{reduce}
use Rattle.pm_calculus.specs.Alternatives.{MayTake}
use Rattle.pm_machine.specs.Value.{MachineValue, Answers, skeleton}
use Rattle.pm_machine.proofs.MachineLemmas.{value_of, stands_now}
use Rattle.pm_machine.proofs.AnswerLemmas.{reduced_history, reduced_answer}
use Rattle.pm_machine.proofs.machine.Machine.reduce.Goals as goal

pub reduce_tree-requires-clause-standing : goal.reduce_tree-requires-clause-standing
reduce_tree-requires-clause-standing c = stands_now _ _ _ _ _ c.self.invariant.1

pub invariant_of-self : goal.invariant_of-self
invariant_of-self c =
    let may = subst (λ (v : MachineValue). MayTake v.problem.clauses (skeleton v) (reduce c.args.k)) (sym c.self.view_is) c.requires in (
      c.self.invariant.0,
      reduced_history _ _ _ _ _ _ c.self.invariant.1 c.args.k may c.reduce_tree.result
          c.reduce_tree.ensures.done c.reduce_tree.ensures.before c.reduce_tree.ensures.err,
    )

pub returns-clause-answer : goal.returns-clause-answer
returns-clause-answer c =
    let may = subst (λ (v : MachineValue). MayTake v.problem.clauses (skeleton v) (reduce c.args.k)) (sym c.self.view_is) c.requires in
    subst (λ (v : MachineValue). IfOk c.reduce_tree.result (Answers (reduce c.args.k) v
    (value_of c.self.inside.runner.problem c.reduce_tree.new.store c.reduce_tree.new.tree))) c.self.view_is
    (reduced_answer _ c.self.inside.runner.cells _ _ _ _ c.self.invariant.1 c.args.k may c.reduce_tree.result
    c.reduce_tree.ensures.done c.reduce_tree.ensures.fails c.reduce_tree.ensures.before)
