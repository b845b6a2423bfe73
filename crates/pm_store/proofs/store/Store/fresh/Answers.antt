use Rattle.std.proofs.Common.{◌∙◌, ap}
use Rattle.pm_store.specs.Entries.{Variable}
use Rattle.pm_store.specs.Equations.{with_cell}
use Rattle.pm_store.specs.Growth.{GainsVariable}
use Rattle.pm_store.proofs.GrowthLemmas.{variable_free, variable_trees, variable_solutions, variable_any}
use Rattle.pm_store.proofs.FlatLemmas.{sound_of, count_of, variable_flat, variable_equations}
use Rattle.pm_store.proofs.store.Store.fresh.Goals as goal

pub invariant_of-self-2 : goal.invariant_of-self-2
invariant_of-self-2 c = variable_flat _ _ _ c.self.invariant _ c.in_ok-cell.ensures.ok

pub returns : goal.returns
unfolding GainsVariable
returns c =
    let sound = sound_of _ _ _ c.args.self.now c.self.view_is c.self.invariant in
    let place = c.in_ok-cell.ensures.place ∙ count_of c.self.inside.slots.items c.self.inside.args.items c.self.inside.trail.items c.args.self.now c.self.view_is in
    let is = variable_equations _ _ c.self.inside.trail.items c.self.invariant _ c.in_ok-cell.ensures.ok ∙ ap (λ s. with_cell s Variable) c.self.view_is in
    record {
      place = place;
      ok = is;
      solutions = variable_solutions _ _ _ sound place is;
      any_tree = variable_any _ _ _ sound place is;
      gains = record {
        free = variable_free _ _ _ sound place is;
        trees = variable_trees _ _ _ sound place is;
        sound = (variable_flat _ _ _ c.self.invariant _ c.in_ok-cell.ensures.ok).stored.sound;
      };
      err = tt;
    }
