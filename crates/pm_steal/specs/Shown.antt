-- What contracts see of a hand and of a reach.
use Rattle.std.specs.Prelude.{◌≡◌, ◌≢◌, ℕ, ◌<◌, ◌⊎◌, List, [], ◌∷◌, ◌++◌, length, map, replicate, slice_index, All, ⊤}
use Rattle.crossbeam_deque.specs.Handles.{view, taken, worker_deque, stealer_deque, worker_view}
use Rattle.pm_steal.specs.History.{HeldAtMost}
use Rattle.pm_steal.specs.declared.steps.Step.{Step}
use Rattle.pm_steal.specs.declared.steps.Step.TheVariants.{Steal}
use Rattle.pm_steal.specs.declared.handles.Hand.{Hand}
use Rattle.pm_steal.specs.declared.handles.Reach.{Reach}
use Rattle.pm_steal.specs.declared.deques.Stolen.{Stolen}
use Rattle.pm_steal.specs.declared.deques.Stolen.TheVariants.{Row, Empty, Again}

-- what this hand did to its deque
abbrev pub hand_steps : Hand → List Step
hand_steps hand = worker_view hand.worker

abbrev pub SameDeque : Hand → Hand → Type 0
SameDeque old new = worker_deque new.worker ≡ worker_deque old.worker

-- how many victims this reach has
abbrev pub reach_len : Reach → ℕ
reach_len reach = length reach.grips.items

-- the victims of both are the same deques, in the same order
abbrev pub SameDeques : Reach → Reach → Type 0
SameDeques old new =
    map (λ grip. stealer_deque grip.thief) new.grips.items
    ≡ map (λ grip. stealer_deque grip.thief) old.grips.items

-- the victims of this reach are the deques of all these hands, in their order
abbrev pub ReachesAll : List Hand → Reach → Type 0
ReachesAll hands reach =
    map (λ grip. stealer_deque grip.thief) reach.grips.items
    ≡ map (λ hand. worker_deque hand.worker) hands

-- what this reach did to the deque of each victim
abbrev pub reach_steps : Reach → List (List Step)
reach_steps reach = map (λ grip. view grip.pass) reach.grips.items

-- how many numbers this reach knows to have been stolen from each victim, by any thread
abbrev pub reach_counts : Reach → List ℕ
reach_counts reach = map (λ grip. taken grip.pass) reach.grips.items

-- what a steal adds to the steps
abbrev pub after_steal : Stolen → List Step → List Step
after_steal (Row x) steps = steps ++ Steal x ∷ []
after_steal Empty steps = steps
after_steal Again steps = steps

-- why a steal gave no number: there was at most one, or the count of those that were stolen rose
abbrev pub HasCause : Stolen → List Step → ℕ → ℕ → Type 0
HasCause (Row x) steps before after = ⊤
HasCause Empty steps before after = HeldAtMost 1 steps
HasCause Again steps before after = (before < after) ⊎ HeldAtMost 1 steps

-- only the count of this victim may have changed
abbrev pub SameOtherCounts : ℕ → Reach → Reach → Type 0
SameOtherCounts victim old new =
    (other : ℕ) → other ≢ victim
    → slice_index (reach_counts new) other ≡ slice_index (reach_counts old) other

-- one hand and one reach for each worker, with no step taken, and each reach has the deques of all
-- hands in their order
pub record AreMade (workers : ℕ) (hands : List Hand) (reaches : List Reach) : Type 0 where
  pub hand_count : length hands ≡ workers
  pub reach_count : length reaches ≡ workers
  pub no_step_by_hands : map hand_steps hands ≡ replicate workers []
  pub victim_counts : All (λ reach. reach_len reach ≡ workers) reaches
  pub all_deques : All (ReachesAll hands) reaches
  pub no_step_by_reaches : All (λ reach. reach_steps reach ≡ replicate workers []) reaches
