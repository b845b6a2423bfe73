use Rattle.std.proofs.Common.{sym, subst}
use Rattle.pm_store.specs.Equations.{Equations}
use Rattle.pm_store.specs.Marks.{IsLater}
use Rattle.pm_store.proofs.MarkLemmas.{growth_is_later, marks_last}
use Rattle.pm_store.proofs.store.tests.variables_bound_since_a_mark_are_listed.Goals as goal

pub bound_since-requires : goal.bound_since-requires
bound_since-requires g c =
    let later = subst (λ (s : Equations). IsLater c.bind.new.self s) (sym c.in_ok-bind-2.ensures.ok) ((growth_is_later c.bind.new.self).binding _ _) in
    marks_last _ _ _ later c.mark-mark.ensures.can
