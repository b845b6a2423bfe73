use Rattle.std.proofs.Common.{◌<◌, length, sym, ◌∙◌, ap, subst}
use Rattle.std.specs.Prelude.{IfOk}
use Rattle.pm_calculus.specs.Skeleton.{start}
use Rattle.pm_run.specs.Runner.{GroundProblem}
use Rattle.pm_machine.specs.Value.{MachineValue, Answers}
use Rattle.pm_machine.specs.Inside.History.{IsHistory}
use Rattle.pm_machine.proofs.MachineLemmas.{value_of, stands_now}
use Rattle.pm_machine.proofs.AnswerLemmas.{no_nodes_first, started_history, started_answer}
use Rattle.pm_machine.proofs.machine.Machine.start.Goals as goal

pub start_tree-requires-clause-standing : goal.start_tree-requires-clause-standing
start_tree-requires-clause-standing c = stands_now _ _ _ _ _ c.self.invariant.1

pub start_tree-requires-clause-nodes : goal.start_tree-requires-clause-nodes
start_tree-requires-clause-nodes c =
    no_nodes_first _ _ _ _ (stands_now _ _ _ _ _ c.self.invariant.1) (ap (λ (v : MachineValue). v.state.steps) c.self.view_is ∙ c.requires.first)

pub invariant_of-self : goal.invariant_of-self
invariant_of-self c =
    let first = ap (λ (v : MachineValue). v.state.steps) c.self.view_is ∙ c.requires.first in
    let clause = subst (λ (v : MachineValue). c.args.clause < length v.problem.clauses) (sym c.self.view_is) c.requires.clause in
    let none = no_nodes_first _ _ _ _ (stands_now _ _ _ _ _ c.self.invariant.1) first in (
      c.start_tree.ensures.children,
      subst (λ (r : GroundProblem). IsHistory r.problem r.cells c.start_tree.new.tree.taken c.start_tree.new.store c.start_tree.new.tree) (sym c.start_tree.ensures.runner)
          (started_history _ _ _ _ _ _ c.self.invariant.1 c.args.clause clause first none c.start_tree.result c.start_tree.ensures.done c.start_tree.ensures.err),
    )

pub returns-clause-answer : goal.returns-clause-answer
returns-clause-answer c =
    let first = ap (λ (v : MachineValue). v.state.steps) c.self.view_is ∙ c.requires.first in
    let clause = subst (λ (v : MachineValue). c.args.clause < length v.problem.clauses) (sym c.self.view_is) c.requires.clause in
    let none = no_nodes_first _ _ _ _ (stands_now _ _ _ _ _ c.self.invariant.1) first in
    subst (λ (v : MachineValue). IfOk c.start_tree.result (Answers (start c.args.clause) v
    (value_of c.start_tree.new.runner.problem c.start_tree.new.store c.start_tree.new.tree))) c.self.view_is
    (subst (λ (r : GroundProblem). IfOk c.start_tree.result (Answers (start c.args.clause) (value_of c.self.inside.runner.problem c.self.inside.store c.self.inside.tree)
    (value_of r.problem c.start_tree.new.store c.start_tree.new.tree))) (sym c.start_tree.ensures.runner)
    (started_answer _ c.self.inside.runner.cells _ _ _ _ c.self.invariant.1 c.args.clause clause first none c.start_tree.result c.start_tree.ensures.done c.start_tree.ensures.taken))
