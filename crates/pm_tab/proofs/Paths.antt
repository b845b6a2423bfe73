-- The steps and states of a path with one more choice.
use Rattle.std.proofs.Common.{◌≡◌, ℕ, zero, suc, ◌+◌, ◌-◌, List, [], ◌∷◌, ◌++◌, length, Some, IsSomeAnd, slice_get, fold, option_map, refl, sym, ◌∙◌, ap}
use Rattle.std.specs.Option.{option_map_or}
use Rattle.std.specs.List.{range_with_len}
use Rattle.std.proofs.lemmas.List.{length-map}
use Rattle.std.proofs.lemmas.List.Sums.{fold_push}
use Rattle.pm_calculus.specs.Connection.{Level}
use Rattle.pm_calculus.specs.Skeleton.{State, empty, rooted, Step, start, extend, reduce, Subgoal, depth_of, after_step, built}
use Rattle.pm_calculus.specs.Alternatives.{reductions, alternatives, state_after, with_choice, steps_of, MayTake, MayTakeAll}
use Rattle.pm_calculus.specs.Choices.{IsReached, IsReachedState, HasLabelling, width}
use Rattle.pm_calculus.proofs.Built.{states_are_built, steps_may_be_taken}

module _ (level : Level) (path : List ℕ) (steps : List Step) (k : ℕ) (step : Step) (named : steps_of level path ≡ Some steps)
    (is : slice_get (alternatives level (built level.problem.clauses steps)) k ≡ Some step) where
  -- the longer path names one more step
  pub named_more : steps_of level (path ++ k ∷ []) ≡ Some (steps ++ step ∷ [])
  named_more =
      fold_push (with_choice level) (Some []) path k ∙ ap (λ o. with_choice level o k) named
      ∙ ap (option_map (λ s. steps ++ s ∷ [])) is

  pub state_more : state_after level (path ++ k ∷ []) ≡ Some (built level.problem.clauses (steps ++ step ∷ []))
  state_more = states_are_built level (path ++ k ∷ []) ∙ ap (option_map (built level.problem.clauses)) named_more

  last_may : (state : State) (ss : List Step) → MayTakeAll level.problem.clauses state (ss ++ step ∷ []) → MayTake level.problem.clauses (fold (after_step level.problem.clauses) state ss) step
  last_may state [] all = all.0
  last_may state (s ∷ ss) all = last_may (after_step level.problem.clauses state s) ss all.1

  pub may_take : MayTake level.problem.clauses (built level.problem.clauses steps) step
  may_take = last_may empty steps (steps_may_be_taken level (path ++ k ∷ []) (steps ++ step ∷ []) named_more)

  rooted_after : (state : State) → MayTake level.problem.clauses state step → (root : ℕ) × (trees : _) × (after_step level.problem.clauses state step ≡ rooted root trees)
  rooted_after state may = by state step may
    where
      by : (state : State) (step : Step) → MayTake level.problem.clauses state step → (root : ℕ) × (trees : _) × (after_step level.problem.clauses state step ≡ rooted root trees)
      by empty (start c) may = (c, _, refl)
      by empty (extend c j) may = absurd may
      by empty (reduce n) may = absurd may
      by (rooted root trees) (start c) may = (root, trees, refl)
      by (rooted root trees) (extend c j) may = (root, _, refl)
      by (rooted root trees) (reduce n) may = (root, _, refl)

  pub rooted_more : (root : ℕ) × (trees : _) × (built level.problem.clauses (steps ++ step ∷ []) ≡ rooted root trees)
  rooted_more =
      let h = rooted_after (built level.problem.clauses steps) may_take in
      (h.0, h.1, fold_push (after_step level.problem.clauses) empty steps step ∙ h.2)

  -- it is reached where what it builds has a labelling
  pub reached_more : IsReached level (path ++ k ∷ []) ≡ HasLabelling level (built level.problem.clauses (steps ++ step ∷ []))
  reached_more =
      ap (λ o. IsSomeAnd o (IsReachedState level)) state_more ∙ ap (IsReachedState level) rooted_more.2
      ∙ ap (HasLabelling level) (sym rooted_more.2)

-- the width of a path
pub width_of : (level : Level) (path : List ℕ) (steps : List Step) → steps_of level path ≡ Some steps
    → width level path ≡ length (alternatives level (built level.problem.clauses steps))
width_of level path steps named =
    ap (λ o. option_map_or (λ state. length (alternatives level state)) o 0) (states_are_built level path ∙ ap (option_map (built level.problem.clauses)) named)

-- how many reductions a leaf has
pub length_range : (a n : ℕ) → length (range_with_len a n) ≡ n
length_range a zero = refl
length_range a (suc n) = ap suc (length_range (a + 1) n)

pub count_reductions : (leaf : Subgoal) → length (reductions leaf) ≡ depth_of leaf - 1
count_reductions leaf = length-map (range_with_len 1 (depth_of leaf - 1)) reduce ∙ length_range 1 (depth_of leaf - 1)
