use Rattle.std.proofs.Common.{◌++◌, inl, inr, ℕ, List, reverse, refl, ◌∙◌, ap, subst}
use Rattle.pm_store.specs.Equations.{IsFree}
use Rattle.pm_run.specs.Meaning.{with_application}
use Rattle.pm_run.proofs.InstructionLemmas.{application_there, meet_done, meet_fails}
use Rattle.pm_run.proofs.instructions.meet.Goals as goal

pub returns-then-symbol-f-clause-met : goal.returns-then-symbol-f-clause-met
returns-then-symbol-f-clause-met c = λ locals children branch.
    meet_fails locals children branch c.args.store.now c.args.store.now c.args.stack.now.items c.pop-cell.new.stack.items c.args.f c.args.n c.pop-cell.result
    c.in-App.symbol c.in-App.args.now c.pop-cell.ensures c.in-App.ensures.shown.0 (λ same. c.if-symbol-f.true same.0)

pub returns-then-args-n-clause-met : goal.returns-then-args-n-clause-met
returns-then-args-n-clause-met c = λ locals children branch.
    meet_fails locals children branch c.args.store.now c.args.store.now c.args.stack.now.items c.pop-cell.new.stack.items c.args.f c.args.n c.pop-cell.result
    c.in-App.symbol c.in-App.args.now c.pop-cell.ensures c.in-App.ensures.shown.0 (λ same. c.if-args-n.true same.1)

pub returns-in_ok-push_reversed-in-App-clause-met : goal.returns-in_ok-push_reversed-in-App-clause-met
returns-in_ok-push_reversed-in-App-clause-met c = λ locals children branch.
    meet_done locals children branch c.args.store.now c.args.store.now c.args.stack.now.items c.pop-cell.new.stack.items c.push_reversed.new.stack.items
    c.in-App.args.now c.args.f c.args.n c.pop-cell.result c.pop-cell.ensures
    (inl (application_there c.args.store.now c.pop-cell.result c.in-App.symbol c.args.f c.args.n c.in-App.args.now c.in-App.ensures.shown.0 c.if-symbol-f.false c.if-args-n.false, refl))
    c.in_ok-push_reversed-in-App.ensures

pub returns-in_ok-push_reversed-in-Free-clause-met : goal.returns-in_ok-push_reversed-in-Free-clause-met
returns-in_ok-push_reversed-in-Free-clause-met c = λ locals children branch.
    let s = c.args.store.now in
    let v = c.in-Free.v in
    let args = c.in_ok-args-in-Free.ensures.args in
    meet_done locals children branch s c.bind_to_application.new.store c.args.stack.now.items c.pop-cell.new.stack.items
    c.push_reversed-in-Free.new.stack.items c.in_ok-args-in-Free.args.items c.args.f c.args.n c.pop-cell.result c.pop-cell.ensures
    (inr (
      subst (λ (n : ℕ). IsFree s n) c.in-Free.ensures.shown.0 c.in-Free.ensures.shown.1,
      args,
      c.in_ok-args-in-Free.ensures.store ∙ ap (λ n. with_application s n c.args.f c.args.n) c.in-Free.ensures.shown.0,
    ))
    (c.in_ok-push_reversed-in-Free.ensures ∙ ap (λ (cs : List ℕ). c.pop-cell.new.stack.items ++ reverse cs) c.deref.ensures)
