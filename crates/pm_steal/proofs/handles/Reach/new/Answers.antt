use Rattle.std.proofs.Common.{[], ◌∷◌, ◌<◌, map, length, get_or, arith, sym, ap, ◌∙◌}
use Rattle.std.proofs.lemmas.List.{length-map, length-append}
use Rattle.std.proofs.Math.Seq.{map-set_same}
use Rattle.crossbeam_deque.specs.Handles.{view, stealer_deque, worker_deque}
use Rattle.pm_steal.specs.Shown.{hand_steps}
use Rattle.pm_steal.proofs.ReachLemmas.{at_old, map_push_next, map_push_same}
use Rattle.pm_steal.proofs.handles.Reach.new.Goals as goal

pub loop-hand-preserved : goal.loop-hand-preserved
loop-hand-preserved c =
    let hands = c.loop-hand.hands in
    let index = c.loop-hand.hand-index in
    let old = c.hand-item.result in
    let new = c.grip.new.self in
    let as_long = c.loop-hand.auto.hands in
    let in_range = c.loop-hand-test.true in
    let inside : index < length hands = omega arith in
    let given = c.in_ok-grip.ensures.grip in
    let same_deques = c.loop-hand.invariant.0 in
    let items = c.in_ok-push.ensures.items in
    let deque = stealer_deque c.in_ok-grip.field-0.thief in
    let next = given.0 ∙ ap (λ hand. worker_deque hand.worker) (sym c.hand-item.is) ∙ sym (at_old (λ hand. worker_deque hand.worker) hands index old new inside c.hand-item.is deque) ∙ ap (λ l. get_or l index deque) same_deques in (
      map-set_same (λ hand. worker_deque hand.worker) hands index new old c.grip.ensures.deque ∙ same_deques,
      map-set_same hand_steps hands index new old c.grip.ensures.steps ∙ c.loop-hand.invariant.1,
      omega (arith, ap length items, length-append c.loop-hand.grips.items (c.in_ok-grip.field-0 ∷ []), c.loop-hand.invariant.2),
      ap (map (λ grip. stealer_deque grip.thief)) items
          ∙ map_push_next (λ grip. stealer_deque grip.thief) c.loop-hand.grips.items c.in_ok-grip.field-0 _ index c.loop-hand.invariant.3
          (omega (arith, length-map c.args.hands.now (λ hand. worker_deque hand.worker))) next,
      ap (map (λ grip. view grip.pass)) items
          ∙ map_push_same (λ grip. view grip.pass) c.loop-hand.grips.items c.in_ok-grip.field-0 [] index c.loop-hand.invariant.4 given.1,
    )
