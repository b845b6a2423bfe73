use Rattle.std.proofs.Common.{◌-◌, drop, ◌∙◌, ap, arith}
use Rattle.std.proofs.lemmas.List.{take_rest}
use Rattle.pm_run.specs.Meaning.{new_child}
use Rattle.pm_run.specs.Runner.{child_of}
use Rattle.pm_run.proofs.InstructionLemmas.{goal_done}
use Rattle.pm_run.proofs.instructions.append_child.Goals as goal

pub returns : goal.returns
returns c = λ locals s branch.
    let stack = c.args.stack.now.items in
    let rest = c.len.result - c.args.n in
    goal_done child_of locals s branch stack c.truncate.new.self.items c.args.children.now.items c.push.new.self.items _ c.args.positive c.args.predicate c.args.n rest
    c.requires (omega (arith, c.len.ensures, c.args.stack.now.ok.0)) c.truncate.ensures.items c.in_ok-push.ensures.items
    (ap (new_child c.args.positive c.args.predicate) (c.in_ok-args.ensures.ok ∙ take_rest c.deref.result.now rest ∙ ap (drop rest) c.deref.ensures.value))
