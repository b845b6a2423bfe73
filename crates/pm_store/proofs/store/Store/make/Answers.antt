use Rattle.std.proofs.Common.{sym, ◌∙◌, ap, subst}
use Rattle.pm_store.specs.Entries.{Application}
use Rattle.pm_store.specs.Equations.{with_cell}
use Rattle.pm_store.specs.Sound.{IsSound}
use Rattle.pm_store.specs.Growth.{GainsApplication}
use Rattle.pm_store.proofs.SolutionLemmas.{IsSound-with_cell}
use Rattle.pm_store.proofs.GrowthLemmas.{application_solutions, application_extends, application_tree, application_trees}
use Rattle.pm_store.proofs.FlatLemmas.{sound_of, count_of, args_below, application_flat, application_equations}
use Rattle.pm_store.proofs.store.Store.make.Goals as goal

pub invariant_of-self-2 : goal.invariant_of-self-2
invariant_of-self-2 c =
    application_flat _ _ _ c.self.invariant c.args.symbol _ _ _ c.in_ok-cell.ensures.ok c.in_ok-cell.ensures.args
    (args_below c.self.inside.slots.items c.self.inside.args.items c.self.inside.trail.items c.args.self.now c.self.view_is c.args.args.now c.requires)

pub returns : goal.returns
unfolding GainsApplication
returns c =
    let sound = sound_of _ _ _ c.args.self.now c.self.view_is c.self.invariant in
    let place = c.in_ok-cell.ensures.place ∙ count_of c.self.inside.slots.items c.self.inside.args.items c.self.inside.trail.items c.args.self.now c.self.view_is in
    let is = application_equations _ _ c.self.inside.trail.items c.self.invariant c.args.symbol c.args.args.now _ _ c.in_ok-cell.ensures.ok c.in_ok-cell.ensures.args
    ∙ ap (λ s. with_cell s (Application c.args.symbol c.args.args.now)) c.self.view_is in
    record {
      place = place;
      ok = is;
      solutions = application_solutions _ _ _ sound place c.args.symbol c.args.args.now c.requires is;
      gains = record {
        tree = application_tree _ _ _ sound place c.args.symbol c.args.args.now c.requires is;
        solutions = application_extends _ _ _ sound place c.args.symbol c.args.args.now c.requires is;
        trees = application_trees _ _ _ sound place c.args.symbol c.args.args.now c.requires is;
        sound = subst IsSound (sym is) (IsSound-with_cell c.args.self.now (Application c.args.symbol c.args.args.now) sound c.requires);
      };
      err = tt;
    }
