use Rattle.std.proofs.Common.{List, sym, ◌∙◌, ap}
use Rattle.pm_store.specs.declared.slots.Slot.{Slot}
use Rattle.pm_store.specs.Inside.Slots.{start_at}
use Rattle.pm_store.proofs.SlotLemmas.{start_at-there, start_at-past}
use Rattle.pm_store.proofs.slots.start_before.Goals as goal

pub returns-in-Some : goal.returns-in-Some
returns-in-Some c =
    c.start_of.ensures ∙ sym (start_at-there c.deref.result.now c.args.all c.args.cell c.in-Some.slot.now c.in-Some.ensures.lookup.3.0 c.in-Some.ensures.lookup.1)
    ∙ ap (λ (ss : List Slot). start_at ss c.args.all c.args.cell) c.deref.ensures.value

pub returns-in-None : goal.returns-in-None
returns-in-None c =
    sym (start_at-past c.deref.result.now c.args.all c.args.cell c.in-None.ensures.lookup.3)
    ∙ ap (λ (ss : List Slot). start_at ss c.args.all c.args.cell) c.deref.ensures.value
