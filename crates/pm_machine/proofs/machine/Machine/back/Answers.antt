use Rattle.std.proofs.Common.{refl, sym, subst}
use Rattle.pm_store.specs.Equations.{Equations}
use Rattle.pm_machine.specs.Value.{MachineValue, IsBack}
use Rattle.pm_machine.proofs.MachineLemmas.{value_of, stands_now}
use Rattle.pm_machine.proofs.AnswerLemmas.{history_back}
use Rattle.pm_machine.proofs.machine.Machine.back.Goals as goal

pub returns-in-Some : goal.returns-in-Some
returns-in-Some c =
    let back = history_back _ _ _ _ _ c.undo.new.self c.in-Some.mark c.self.invariant.1 c.in-Some.ensures.undone in
    subst (λ (v : MachineValue). IsBack v (value_of c.self.inside.runner.problem c.undo-in-Some.new.self c.undo.new.self)) c.self.view_is
    (subst (λ (e : Equations). IsBack (value_of c.self.inside.runner.problem c.self.inside.store c.self.inside.tree) (value_of c.self.inside.runner.problem e c.undo.new.self)) (sym c.undo-in-Some.ensures.at_mark)
    (record { problem = refl; states = back.1; built = (stands_now _ _ _ _ _ back.0).built }))
