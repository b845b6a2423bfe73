use Rattle.std.proofs.Common.{[], get_or, set, sym, ap, ◌∙◌}
use Rattle.std.proofs.lemmas.List.{map-set, get_or-set_other}
use Rattle.std.proofs.Math.Seq.{map-set_same}
use Rattle.crossbeam_deque.specs.Handles.{view, taken, stealer_deque}
use Rattle.pm_steal.proofs.ReachLemmas.{at_old, at_new, same_cause}
use Rattle.pm_steal.specs.Shown.{reach_steps, after_steal}
use Rattle.pm_steal.proofs.handles.Reach.steal.Goals as goal

pub returns-clause-deques : goal.returns-clause-deques
returns-clause-deques c =
    map-set_same (λ grip. stealer_deque grip.thief) c.args.self.now.grips.items c.args.victim c.steal.new.self c.index_mut.result.now
    (c.steal.ensures.deque ∙ ap (λ grip. stealer_deque grip.thief) c.index_mut.ensures.value)

pub returns-clause-steps : goal.returns-clause-steps
returns-clause-steps c =
    let same = at_old (λ grip. view grip.pass) c.args.self.now.grips.items c.args.victim c.index_mut.result.now c.steal.new.self c.requires c.index_mut.ensures.value [] in
    map-set (λ grip. view grip.pass) c.args.self.now.grips.items c.args.victim c.steal.new.self
    ∙ ap (set (reach_steps c.args.self.now) c.args.victim) (c.steal.ensures.steps ∙ ap (after_steal c.steal.result) (sym same))

pub returns-clause-cause : goal.returns-clause-cause
returns-clause-cause c =
    let grips = c.args.self.now.grips.items in
    let old = c.index_mut.result.now in
    let new = c.steal.new.self in
    same_cause c.steal.result
    (at_old (λ grip. view grip.pass) grips c.args.victim old new c.requires c.index_mut.ensures.value [])
    (at_old (λ grip. taken grip.pass) grips c.args.victim old new c.requires c.index_mut.ensures.value 0)
    (at_new (λ grip. taken grip.pass) grips c.args.victim old new c.requires c.index_mut.ensures.value 0)
    c.steal.ensures.cause

pub returns-clause-others : goal.returns-clause-others
returns-clause-others c other apart =
    ap (λ counts. get_or counts other 0) (map-set (λ grip. taken grip.pass) c.args.self.now.grips.items c.args.victim c.steal.new.self)
    ∙ get_or-set_other _ c.args.victim other _ 0 apart
