use Rattle.std.proofs.Common.{◌∙◌, ap}
use Rattle.pm_store.specs.Equations.{with_new_variables}
use Rattle.pm_store.specs.Growth.{GainsVariables}
use Rattle.pm_store.proofs.GrowthLemmas.{variables_free, variables_trees, variables_solutions, variables_any}
use Rattle.pm_store.proofs.FlatLemmas.{sound_of, count_of, variables_added}
use Rattle.pm_store.proofs.store.Store.fresh_many.Goals as goal

pub invariant_of-self-2 : goal.invariant_of-self-2
invariant_of-self-2 c = (variables_added _ _ _ c.self.invariant _ c.args.count c.in_ok-first.ensures.ok).0

pub returns : goal.returns
unfolding GainsVariables
returns c =
    let sound = sound_of _ _ _ c.args.self.now c.self.view_is c.self.invariant in
    let place = c.in_ok-first.ensures.place ∙ count_of c.self.inside.slots.items c.self.inside.args.items c.self.inside.trail.items c.args.self.now c.self.view_is in
    let added = variables_added _ _ c.self.inside.trail.items c.self.invariant _ c.args.count c.in_ok-first.ensures.ok in
    let is = added.1 ∙ ap (λ s. with_new_variables s c.args.count) c.self.view_is in
    record {
      place = place;
      ok = is;
      solutions = variables_solutions _ _ _ _ sound place is;
      any_trees = variables_any _ _ _ _ sound place is;
      gains = record {
        free = variables_free _ _ _ _ sound place is;
        trees = variables_trees _ _ _ _ sound place is;
        sound = added.0.stored.sound;
      };
      err = tt;
    }
