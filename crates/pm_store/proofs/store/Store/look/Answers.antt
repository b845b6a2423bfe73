use Rattle.std.proofs.Common.{◌∙◌, ap, length, arith}
use Rattle.std.specs.Prelude.{Some}
use Rattle.pm_store.specs.Inside.Slots.{entry_of, start_in, count_in}
use Rattle.pm_store.proofs.TreeLemmas.{trees_solve}
use Rattle.pm_store.proofs.LookLemmas.{Ends, variable_in, read_cell, arguments_within, part_is, application_solved, application_shown}
use Rattle.pm_store.proofs.store.Store.look.Goals as goal

pub slice_bounds-result-end : goal.slice_bounds-result-end
slice_bounds-result-end c =
    let inside = arguments_within _ _ _ c.args.self.now c.self.view_is c.self.invariant _ _ c.end.view_is c.end-end.ensures.within _ c.index.ensures in
    omega (arith, inside, ap start_in c.in-Made.is, ap count_in c.in-Made.is, ap length c.deref.ensures.value)

pub returns-in-Made : goal.returns-in-Made
returns-in-Made c =
    let stands = read_cell _ _ _ c.args.self.now c.self.view_is c.self.invariant _ _ c.end.view_is c.end-end.ensures.within _ c.index.ensures
    ∙ ap (λ slot. Some (entry_of c.self.inside.args.items slot)) c.in-Made.is in
    let found : Ends c.args.self.now c.args.a c.end-end.result _ = record { end = c.end-end.ensures.end; unbound = c.end-end.ensures.unbound; stands = stands } in
    let same = part_is c.in-Made.start c.in-Made.count _ _ c.deref.ensures.value in
    record {
      shown = application_shown _ _ _ _ _ _ c.end-end.ensures.sound found same;
      tree = application_solved _ _ _ _ _ _ found same _ (trees_solve _ c.end-end.ensures.sound);
      solutions = application_solved _ _ _ _ _ _ found same;
      sound = c.end-end.ensures.sound;
    }

pub returns-in_default : goal.returns-in_default
returns-in_default c =
    let stands = read_cell _ _ _ c.args.self.now c.self.view_is c.self.invariant _ _ c.end.view_is c.end-end.ensures.within _ c.index.ensures
    ∙ ap Some (variable_in c.self.inside.args.items _ c.in_default.not-Made) in
    record {
      shown = (c.end-end.ensures.end, record { variable = stands; unbound = c.end-end.ensures.unbound });
      tree = c.end-end.ensures.solutions _ (trees_solve _ c.end-end.ensures.sound);
      solutions = c.end-end.ensures.solutions;
      sound = c.end-end.ensures.sound;
    }
