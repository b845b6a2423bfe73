use Rattle.std.proofs.Common.{◌≡◌, [], length, map, take, replicate}
use Rattle.crossbeam_deque.specs.Handles.{view, stealer_deque, worker_deque}
use Rattle.pm_steal.specs.Shown.{hand_steps}
use Rattle.pm_steal.proofs.handles.Reach.new.Given as goal

abbrev pub invariant-loop-hand : goal.invariant-loop-hand
invariant-loop-hand l =
    (map (λ hand. worker_deque hand.worker) l.hands ≡ map (λ hand. worker_deque hand.worker) l.initial.hands)
    × (map hand_steps l.hands ≡ map hand_steps l.initial.hands)
    × (length l.grips.items ≡ l.hand-index)
    × (map (λ grip. stealer_deque grip.thief) l.grips.items ≡ take l.hand-index (map (λ hand. worker_deque hand.worker) l.initial.hands))
    × (map (λ grip. view grip.pass) l.grips.items ≡ replicate l.hand-index [])
