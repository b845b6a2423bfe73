use Rattle.std.proofs.Common.{◌≡◌, ℕ, List, length, sym, ◌∙◌, ap, ap₂, subst, subst₂}
use Rattle.std.specs.List.{range_with_len}
use Rattle.pm_store.specs.Entries.{Application}
use Rattle.pm_store.specs.Equations.{Equations, with_binding, with_cell, with_new_variables}
use Rattle.pm_store.specs.Sound.{CanBind}
use Rattle.pm_store.specs.Marks.{IsLater}
use Rattle.pm_run.specs.InStore.{AreBelow}
use Rattle.pm_run.specs.Meaning.{with_application, new_cells}
use Rattle.pm_run.proofs.StoreLemmas.{args_below, can_bind, application_later}
use Rattle.pm_run.proofs.instructions.bind_to_application.Goals as goal

pub make-requires : goal.make-requires
make-requires c =
    let s = c.args.store.now in
    let n = c.args.n in
    let args : c.deref.result.now ≡ new_cells s n = c.deref.ensures ∙ c.in_ok-args.ensures ∙ ap (λ first. range_with_len first n) c.in_ok-first.ensures.place in
    subst₂ (λ (e : Equations) (cs : List ℕ). AreBelow (length e.cells) cs) (sym c.in_ok-first.ensures.ok) (sym args)
    (args_below s c.args.v c.args.f n c.requires.sound c.requires.free)

pub bind-requires : goal.bind-requires
bind-requires c =
    let s = c.args.store.now in
    let n = c.args.n in
    let args : c.deref.result.now ≡ new_cells s n = c.deref.ensures ∙ c.in_ok-args.ensures ∙ ap (λ first. range_with_len first n) c.in_ok-first.ensures.place in
    let made : c.make.new.self ≡ with_cell (with_new_variables s n) (Application c.args.f (new_cells s n)) =
    c.in_ok-made.ensures.ok ∙ ap₂ (λ (e : Equations) (cs : List ℕ). with_cell e (Application c.args.f cs)) c.in_ok-first.ensures.ok args in
    let place : c.in_ok-made.made ≡ length (with_new_variables s n).cells =
    c.in_ok-made.ensures.place ∙ ap (λ (e : Equations). length e.cells) c.in_ok-first.ensures.ok in
    subst₂ (λ (e : Equations) (k : ℕ). CanBind e c.args.v k) (sym made) (sym place) (can_bind s c.args.v c.args.f n c.requires.sound c.requires.free)

pub returns-clause-later : goal.returns-clause-later
returns-clause-later c =
    let s = c.args.store.now in
    let n = c.args.n in
    let args : c.deref.result.now ≡ new_cells s n = c.deref.ensures ∙ c.in_ok-args.ensures ∙ ap (λ first. range_with_len first n) c.in_ok-first.ensures.place in
    let made : c.make.new.self ≡ with_cell (with_new_variables s n) (Application c.args.f (new_cells s n)) =
    c.in_ok-made.ensures.ok ∙ ap₂ (λ (e : Equations) (cs : List ℕ). with_cell e (Application c.args.f cs)) c.in_ok-first.ensures.ok args in
    let place : c.in_ok-made.made ≡ length (with_new_variables s n).cells =
    c.in_ok-made.ensures.place ∙ ap (λ (e : Equations). length e.cells) c.in_ok-first.ensures.ok in
    let bound : c.bind.new.self ≡ with_application s c.args.v c.args.f n =
    c.in_ok-bind.ensures.ok ∙ ap₂ (λ (e : Equations) (k : ℕ). with_binding e c.args.v k) made place in
    subst (IsLater s) (sym bound) (application_later s c.args.v c.args.f n)
