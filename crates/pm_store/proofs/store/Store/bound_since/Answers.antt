use Rattle.std.proofs.Common.{ℕ, List, drop, sym, ◌∙◌, ap, subst}
use Rattle.std.specs.Prelude.{◌↔◌, Contains}
use Rattle.pm_store.specs.Equations.{IsFree}
use Rattle.pm_store.specs.Inside.Slots.{targets_of}
use Rattle.pm_store.specs.Marks.{Counts, bound_variables}
use Rattle.pm_store.proofs.BoundLemmas.{in_order-stored, rest_is, bound_since_tells}
use Rattle.pm_store.proofs.store.Store.bound_since.Goals as goal

pub returns : goal.returns
returns c =
    let trail = sym (in_order-stored (targets_of c.self.inside.slots.items) c.self.inside.trail.items) ∙ ap bound_variables c.self.view_is in
    let is = rest_is _ _ c.mark.inside.bindings (c.deref.ensures.value ∙ trail) ∙ ap (λ (m : Counts). drop m.bindings (bound_variables c.args.self.now)) c.mark.view_is in
    record {
      variables = is;
      free = λ v free.
          subst (λ (vs : List ℕ). IsFree c.args.self.now v ↔ (¬ Contains vs v)) (sym is) (bound_since_tells c.args.self.now c.args.mark.now v c.requires free);
    }
