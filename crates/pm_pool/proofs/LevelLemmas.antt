-- What the turn of a search with an attempt more than the budget says of its level.
use Rattle.std.proofs.Common.{◌≡◌, ℕ, ◌+◌, ◌<◌, List, [], subst, arith, inl, inr}
use Rattle.pm_space.specs.Key.{Key, Agree}
use Rattle.pm_choice.specs.declared.Bound.{Bound}
use Rattle.pm_choice.specs.declared.Bound.TheVariants.{End}
use Rattle.pm_search.specs.declared.Turn.{Turn}
use Rattle.pm_search.specs.declared.Turn.TheVariants.{Closed, Found, Paused}
use Rattle.pm_search.specs.Turns.{IsTurn}
use Rattle.pm_search.specs.Work.{Exceeds}
use Rattle.pm_search.proofs.AgreeLemmas.{agree_trans, turn_agrees}
use Rattle.pm_search.proofs.WorkLemmas.{pause_exceeds, work_exceeds}

-- the turn of a search that began with the whole level
pub level_turn : (key made sought : Key) (turn : Turn) (from : List ℕ) (to : Bound) (worked fuel : ℕ) → Agree made key → Agree sought made → from ≡ [] → to ≡ End → worked ≡ 0
    → IsTurn sought from to (worked + fuel) turn → IsTurn key [] End fuel turn
level_turn key made sought turn from to worked fuel making seeking from_is to_is worked_is is =
    let agree = agree_trans sought made key seeking making in
    let started = subst (λ (l : List ℕ). IsTurn sought l to (worked + fuel) turn) from_is is in
    let ended = subst (λ (b : Bound). IsTurn sought [] b (worked + fuel) turn) to_is started in
    let most_is : worked + fuel ≡ fuel = omega (arith, worked_is) in
    turn_agrees key sought agree [] End fuel turn (subst (λ (n : ℕ). IsTurn sought [] End n turn) most_is ended)

pub paused_over : (key : Key) (next : List ℕ) (work budget : ℕ) → IsTurn key [] End (budget + 1) (Paused next work) → Exceeds key budget
paused_over key next work budget is = pause_exceeds key next work budget is.0 (omega (arith, is.1))

pub closed_over : (key : Key) (work budget : ℕ) → IsTurn key [] End (budget + 1) (Closed work) → budget < work → Exceeds key budget
closed_over key work budget is over = work_exceeds key work budget (inr is.0) over

pub found_over : (key : Key) (path : List ℕ) (work budget : ℕ) → IsTurn key [] End (budget + 1) (Found path work) → budget < work → Exceeds key budget
found_over key path work budget is over = work_exceeds key work budget (inl (path, is.0)) over
