use Rattle.std.proofs.Common.{◌≡◌, [], length, map, replicate, All}
use Rattle.crossbeam_deque.specs.Handles.{stealer_deque, worker_deque}
use Rattle.pm_steal.specs.Shown.{hand_steps, reach_len, reach_steps}
use Rattle.pm_steal.proofs.deques.make.Given as goal

abbrev pub invariant-hands : goal.invariant-hands
invariant-hands l = (length l.hands.items ≡ l.counter) × (map hand_steps l.hands.items ≡ replicate l.counter [])

abbrev pub invariant-reaches : goal.invariant-reaches
invariant-reaches l =
    (length l.hands.items ≡ l.workers)
    × (map (λ hand. worker_deque hand.worker) l.hands.items ≡ map (λ hand. worker_deque hand.worker) l.initial.hands.items)
    × (map hand_steps l.hands.items ≡ replicate l.workers [])
    × (length l.reaches.items ≡ l.counter)
    × All (λ reach. reach_len reach ≡ l.workers) l.reaches.items
    × All (λ reach. map (λ grip. stealer_deque grip.thief) reach.grips.items ≡ map (λ hand. worker_deque hand.worker) l.initial.hands.items) l.reaches.items
    × All (λ reach. reach_steps reach ≡ replicate l.workers []) l.reaches.items
