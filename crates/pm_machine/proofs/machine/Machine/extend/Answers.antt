use Rattle.std.proofs.Common.{sym, subst}
use Rattle.std.specs.Prelude.{IfOk}
use Rattle.pm_calculus.specs.Skeleton.{extend}
use Rattle.pm_calculus.specs.Alternatives.{MayTake}
use Rattle.pm_run.specs.Runner.{GroundProblem}
use Rattle.pm_machine.specs.Value.{MachineValue, Answers, IsNotDeeper, skeleton}
use Rattle.pm_machine.specs.Inside.History.{IsHistory}
use Rattle.pm_machine.proofs.MachineLemmas.{value_of, stands_now}
use Rattle.pm_machine.proofs.AnswerLemmas.{shallow_leaf, extended_history, extended_answer}
use Rattle.pm_machine.proofs.machine.Machine.extend.Goals as goal

pub extend_tree-requires-clause-standing : goal.extend_tree-requires-clause-standing
extend_tree-requires-clause-standing c = stands_now _ _ _ _ _ c.self.invariant.1

pub extend_tree-requires-clause-depth : goal.extend_tree-requires-clause-depth
extend_tree-requires-clause-depth c =
    shallow_leaf _ _ _ _ (stands_now _ _ _ _ _ c.self.invariant.1) (subst (IsNotDeeper 250) (sym c.self.view_is) c.requires.depth)

pub invariant_of-self : goal.invariant_of-self
invariant_of-self c =
    let may = subst (λ (v : MachineValue). MayTake v.problem.clauses (skeleton v) (extend c.args.clause c.args.literal)) (sym c.self.view_is) c.requires.may in
    let shallow = shallow_leaf _ _ _ _ (stands_now _ _ _ _ _ c.self.invariant.1) (subst (IsNotDeeper 250) (sym c.self.view_is) c.requires.depth) in (
      c.extend_tree.ensures.children,
      subst (λ (r : GroundProblem). IsHistory r.problem r.cells c.extend_tree.new.tree.taken c.extend_tree.new.store c.extend_tree.new.tree) (sym c.extend_tree.ensures.runner)
          (extended_history _ _ _ _ _ _ c.self.invariant.1 c.args.clause c.args.literal may shallow c.extend_tree.result
          c.extend_tree.ensures.done c.extend_tree.ensures.before c.extend_tree.ensures.err),
    )

pub returns-clause-answer : goal.returns-clause-answer
returns-clause-answer c =
    let may = subst (λ (v : MachineValue). MayTake v.problem.clauses (skeleton v) (extend c.args.clause c.args.literal)) (sym c.self.view_is) c.requires.may in
    let shallow = shallow_leaf _ _ _ _ (stands_now _ _ _ _ _ c.self.invariant.1) (subst (IsNotDeeper 250) (sym c.self.view_is) c.requires.depth) in
    subst (λ (v : MachineValue). IfOk c.extend_tree.result (Answers (extend c.args.clause c.args.literal) v
    (value_of c.extend_tree.new.runner.problem c.extend_tree.new.store c.extend_tree.new.tree))) c.self.view_is
    (subst (λ (r : GroundProblem). IfOk c.extend_tree.result (Answers (extend c.args.clause c.args.literal) (value_of c.self.inside.runner.problem c.self.inside.store c.self.inside.tree)
    (value_of r.problem c.extend_tree.new.store c.extend_tree.new.tree))) (sym c.extend_tree.ensures.runner)
    (extended_answer _ c.self.inside.runner.cells _ _ _ _ c.self.invariant.1 c.args.clause c.args.literal may shallow c.extend_tree.result
    c.extend_tree.ensures.done c.extend_tree.ensures.fails c.extend_tree.ensures.before))
