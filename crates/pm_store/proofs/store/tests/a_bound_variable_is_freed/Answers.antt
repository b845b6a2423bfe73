use Rattle.std.proofs.Common.{◌≡◌, ◌<◌, length, sym, subst, rules}
use Rattle.pm_store.specs.Equations.{Equations}
use Rattle.pm_store.specs.Marks.{IsLater}
use Rattle.pm_store.proofs.MarkLemmas.{growth_is_later, marks_last}
use Rattle.pm_store.proofs.store.tests.a_bound_variable_is_freed.Goals as goal

pub undo-requires : goal.undo-requires
undo-requires g c =
    let later = subst (λ (s : Equations). IsLater c.make.new.self s) (sym c.in_ok-bind.ensures.ok) ((growth_is_later c.make.new.self).binding _ _) in
    marks_last _ _ _ later c.mark-mark.ensures.can

pub is_free-requires-3 : goal.is_free-requires-3
is_free-requires-3 g c =
    let later = subst (λ (s : Equations). IsLater c.make.new.self s) (sym c.in_ok-bind.ensures.ok) ((growth_is_later c.make.new.self).binding _ _) in
    let restored : c.undo.new.self ≡ c.make.new.self = c.undo.ensures.before _ later c.mark-mark.ensures.counts in
    let within : c.in_ok-x.x < length c.make.new.self.cells = search rules in
    subst (λ (s : Equations). c.in_ok-x.x < length s.cells) (sym restored) within
