use Rattle.std.proofs.Common.{map, refl, arith}
use Rattle.std.proofs.lemmas.List.{length-map}
use Rattle.pm_run.specs.State.{closed_child}
use Rattle.pm_run.specs.Runner.{child_of}
use Rattle.pm_run.proofs.InstructionLemmas.{map_set, changed_past}
use Rattle.pm_run.proofs.instructions.close_child.Goals as goal

pub returns-then-place-len : goal.returns-then-place-len
returns-then-place-len c =
    map_set child_of closed_child c.args.children.now.items c.args.j c.index_mut.result.now _
    (omega (arith, c.if-place-len.true, c.len.ensures, c.args.children.now.ok.0)) c.index_mut.ensures.value refl

pub returns-else-place-len : goal.returns-else-place-len
returns-else-place-len c =
    changed_past closed_child (map child_of c.args.children.now.items) c.args.j
    (omega (arith, c.if-place-len.false, c.len.ensures, c.args.children.now.ok.0, length-map c.args.children.now.items child_of))
