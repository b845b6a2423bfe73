use Rattle.std.proofs.Common.{sym, ◌∙◌, ap}
use Rattle.pm_store.specs.Inside.Slots.{target_in}
use Rattle.pm_store.proofs.BindingLemmas.{end_of-solved, end_of-unbound}
use Rattle.pm_store.proofs.FlatLemmas.{sound_of}
use Rattle.pm_store.proofs.LookLemmas.{no_target_in, read_target, target_follows, target_nearer}
use Rattle.pm_store.proofs.store.Store.end.Goals as goal

pub loop-target-smaller : goal.loop-target-smaller
loop-target-smaller c =
    let sound = sound_of _ _ _ c.args.self.now c.self.view_is c.self.invariant in
    let bound = read_target _ _ _ c.args.self.now c.self.view_is c.self.invariant _ _ c.at.view_is c.loop-target.invariant.within _ c.index.ensures ∙ ap target_in c.in-Bound.is in
    target_nearer _ _ _ sound bound

pub loop-target-preserved : goal.loop-target-preserved
loop-target-preserved c =
    let sound = sound_of _ _ _ c.args.self.now c.self.view_is c.self.invariant in
    let bound = read_target _ _ _ c.args.self.now c.self.view_is c.self.invariant _ _ c.at.view_is c.loop-target.invariant.within _ c.index.ensures ∙ ap target_in c.in-Bound.is in
    let follows = target_follows _ _ _ _ sound c.loop-target.invariant.same_end bound in
    record { within = follows.0; same_end = follows.1 }

pub returns : goal.returns
returns c =
    let sound = sound_of _ _ _ c.args.self.now c.self.view_is c.self.invariant in
    let unbound = read_target _ _ _ c.args.self.now c.self.view_is c.self.invariant _ _ c.at.view_is c.loop-target.invariant.within _ c.index.ensures
    ∙ no_target_in _ c.in_default.not-Bound in
    let is_end = sym (end_of-unbound c.args.self.now.bindings c.loop-target.at unbound) ∙ c.loop-target.invariant.same_end in
    record {
      end = is_end;
      within = c.loop-target.invariant.within;
      unbound = unbound;
      solutions = λ trees solves. end_of-solved c.args.self.now.bindings trees solves.bindings c.args.a ∙ ap trees (sym is_end);
      sound = sound;
    }
