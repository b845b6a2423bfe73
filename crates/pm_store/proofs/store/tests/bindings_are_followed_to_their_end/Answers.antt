use Rattle.std.proofs.Common.{◌≡◌, ◌<◌, length, sym, subst, rules}
use Rattle.pm_store.specs.Equations.{Equations}
use Rattle.pm_store.specs.Marks.{IsLater}
use Rattle.pm_store.proofs.MarkLemmas.{growth_is_later, later_is_transitive, marks_last}
use Rattle.pm_store.proofs.store.tests.bindings_are_followed_to_their_end.Goals as goal

pub undo-requires : goal.undo-requires
undo-requires g c =
    let first = subst (λ (s : Equations). IsLater c.bind.new.self s) (sym c.in_ok-a.ensures.ok) ((growth_is_later c.bind.new.self).cell _) in
    let second = subst (λ (s : Equations). IsLater c.make.new.self s) (sym c.in_ok-t.ensures.ok) ((growth_is_later c.make.new.self).cell _) in
    let third = subst (λ (s : Equations). IsLater c.make-2.new.self s) (sym c.in_ok-bind-2.ensures.ok) ((growth_is_later c.make-2.new.self).binding _ _) in
    marks_last _ _ _ (later_is_transitive _ _ _ first (later_is_transitive _ _ _ second third)) c.mark-mark.ensures.can

pub is_free-requires-2 : goal.is_free-requires-2
is_free-requires-2 g c =
    let first = subst (λ (s : Equations). IsLater c.bind.new.self s) (sym c.in_ok-a.ensures.ok) ((growth_is_later c.bind.new.self).cell _) in
    let second = subst (λ (s : Equations). IsLater c.make.new.self s) (sym c.in_ok-t.ensures.ok) ((growth_is_later c.make.new.self).cell _) in
    let third = subst (λ (s : Equations). IsLater c.make-2.new.self s) (sym c.in_ok-bind-2.ensures.ok) ((growth_is_later c.make-2.new.self).binding _ _) in
    let restored : c.undo.new.self ≡ c.bind.new.self =
    c.undo.ensures.before _ (later_is_transitive _ _ _ first (later_is_transitive _ _ _ second third)) c.mark-mark.ensures.counts in
    let within : c.in_ok-x.x < length c.bind.new.self.cells = search rules in
    subst (λ (s : Equations). c.in_ok-x.x < length s.cells) (sym restored) within
