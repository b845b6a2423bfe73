use Rattle.std.proofs.Common.{◌≡◌, ◌+◌, sym, ◌∙◌, ap, subst}
use Rattle.std.specs.Prelude.{◌↔◌}
use Rattle.pm_store.specs.Equations.{Equations, free_count}
use Rattle.pm_store.specs.Solutions.{Solves}
use Rattle.pm_store.proofs.SolutionLemmas.{bindings_narrow}
use Rattle.pm_store.proofs.StoredLemmas.{free_count-bind}
use Rattle.pm_store.proofs.FlatLemmas.{bound_flat}
use Rattle.pm_store.proofs.store.Store.bind.Goals as goal

pub invariant_of-self-2 : goal.invariant_of-self-2
invariant_of-self-2 c =
    (bound_flat _ _ _ _ _ _ _ _ c.v.view_is c.index_mut-slot.ensures.value c.start_of-start.ensures c.args.t c.args.self.now
    c.self.invariant c.self.view_is c.requires c.in_ok-push.ensures.items).0

pub returns : goal.returns
returns c =
    let done = bound_flat _ _ _ _ _ _ _ _ c.v.view_is c.index_mut-slot.ensures.value c.start_of-start.ensures c.args.t c.args.self.now
    c.self.invariant c.self.view_is c.requires c.in_ok-push.ensures.items in
    let is = done.1 in
    record {
      ok = is;
      solutions = λ trees.
          subst (λ (s : Equations). Solves s trees ↔ (Solves c.args.self.now trees × (trees c.args.v ≡ trees c.args.t))) (sym is)
          (bindings_narrow c.args.self.now c.args.v c.args.t trees);
      free = ap (λ s. free_count s + 1) is ∙ free_count-bind c.args.self.now c.args.v c.args.t c.requires.free;
      sound = done.0.stored.sound;
      err = tt;
    }
