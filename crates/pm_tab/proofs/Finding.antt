-- The alternatives as the code finds them.
use Rattle.std.proofs.Common.{◌≡◌, ℕ, ◌+◌, ◌-◌, ◌<◌, ◌≤◌, true, cond, List, length, Some, None, option_map, slice_get, sym, ◌∙◌, ap, subst, arith, ltb-true}
use Rattle.std.proofs.lemmas.List.{length-map}
use Rattle.std.proofs.lemmas.Option.{slice_get-map}
use Rattle.pm_logic.specs.declared.tableau.BoundKind.{BoundKind}
use Rattle.pm_logic.specs.declared.tableau.BoundKind.TheVariants.{Depth, Inferences}
use Rattle.pm_logic.specs.Problem.{start_clauses}
use Rattle.pm_calculus.specs.Skeleton.{State, empty, rooted, start, extend, reduce, Subgoal, depth_of, instances_built, selected}
use Rattle.pm_calculus.specs.Alternatives.{opposite, Head, heads, extension_by, has_room, alternatives, alternatives_for}
use Rattle.pm_machine.specs.declared.node.LeafView.{LeafView}
use Rattle.pm_machine.specs.Node.{IsViewOf, Views}
use Rattle.pm_machine.specs.Value.{MachineValue, skeleton}
use Rattle.pm_tab.specs.Searched.{Searched, level_of}
use Rattle.pm_tab.specs.Inside.Counting.{has_room_for}
use Rattle.pm_tab.proofs.Counted.{views_some, opposite_in, opposite_seen, deep_goal, room_is, alternatives_at, rooted_leaf, width_for, reduction_at, extension_at}

-- with a selected leaf the alternatives are its own
module _ (searched : Searched) (m : MachineValue) (view : LeafView) (shown : Views (selected (skeleton m)) (Some view)) where
  abbrev goal : Subgoal
  goal = (views_some (selected (skeleton m)) view shown).0

  own : selected (skeleton m) ≡ Some goal
  own = (views_some (selected (skeleton m)) view shown).1

  abbrev seen : IsViewOf goal view
  seen = (views_some (selected (skeleton m)) view shown).2

  pub depth_positive : 1 ≤ view.depth
  depth_positive = let d = seen.depth in omega (arith, d)

  pub alternatives_are : (n : ℕ) → alternatives (level_of searched n) (skeleton m) ≡ alternatives_for (level_of searched n) (skeleton m) (Some goal)
  alternatives_are n = rooted_leaf (level_of searched n) (skeleton m) goal own

  pub reduction_found : (n k : ℕ) → k < view.depth - 1 → slice_get (alternatives (level_of searched n) (skeleton m)) k ≡ Some (reduce (k + 1))
  reduction_found n k lt =
      ap (λ xs. slice_get xs k) (alternatives_are n)
      ∙ reduction_at (level_of searched n) (skeleton m) goal k (let d = seen.depth in omega (arith, d, lt))

  pub heads_same : (ls : List Head) → ls ≡ heads (opposite_in view) searched.problem.clauses → heads (opposite goal.face) searched.problem.clauses ≡ ls
  heads_same ls are = ap (λ f. heads f searched.problem.clauses) (sym (opposite_seen goal view seen)) ∙ sym are

  found : (n k : ℕ) → view.depth - 1 ≤ k → k < length (alternatives (level_of searched n) (skeleton m))
      → (k - (view.depth - 1) < length (heads (opposite goal.face) searched.problem.clauses))
      × (slice_get (alternatives (level_of searched n) (skeleton m)) k ≡ option_map extension_by (slice_get (heads (opposite goal.face) searched.problem.clauses) (k - (view.depth - 1))))
  found n k le lt =
      let d = seen.depth in
      let h = extension_at (level_of searched n) (skeleton m) goal k (omega (arith, d, le)) (subst (λ xs. k < length xs) (alternatives_are n) lt) in
      let place : k - (depth_of goal - 1) ≡ k - (view.depth - 1) = ap (λ e. k - (e - 1)) (sym d) in (
        subst (λ i. i < length (heads (opposite goal.face) searched.problem.clauses)) place h.1,
        ap (λ xs. slice_get xs k) (alternatives_are n) ∙ h.2
            ∙ ap (λ i. option_map extension_by (slice_get (heads (opposite goal.face) searched.problem.clauses) i)) place,
      )

  pub extension_within : (ls : List Head) → ls ≡ heads (opposite_in view) searched.problem.clauses → (n k : ℕ) → view.depth - 1 ≤ k
      → k < length (alternatives (level_of searched n) (skeleton m)) → k - (view.depth - 1) < length ls
  extension_within ls are n k le lt = subst (λ hs. k - (view.depth - 1) < length hs) (heads_same ls are) (found n k le lt).0

  pub extension_found : (ls : List Head) → ls ≡ heads (opposite_in view) searched.problem.clauses → (n k : ℕ) (head : Head) → view.depth - 1 ≤ k
      → slice_get ls (k - (view.depth - 1)) ≡ Some head
      → k < length (alternatives (level_of searched n) (skeleton m)) → slice_get (alternatives (level_of searched n) (skeleton m)) k ≡ Some (extend head.clause head.literal)
  extension_found ls are n k head le is lt =
      (found n k le lt).1 ∙ ap (λ hs. option_map extension_by (slice_get hs (k - (view.depth - 1)))) (heads_same ls are) ∙ ap (option_map extension_by) is

  pub width_found : (ls : List Head) → ls ≡ heads (opposite_in view) searched.problem.clauses → (n instances : ℕ) → instances ≡ instances_built (skeleton m)
      → view.depth - 1 + cond (has_room_for searched.kind instances view.depth n) (length ls) 0 ≡ length (alternatives (level_of searched n) (skeleton m))
  width_found ls are n instances counted =
      let d = seen.depth in
      let room = room_is (level_of searched n) (skeleton m) goal instances view.depth counted d in
      sym (ap length (alternatives_are n) ∙ width_for (level_of searched n) (skeleton m) goal
      ∙ ap (λ hs. depth_of goal - 1 + cond (has_room (level_of searched n) (skeleton m) goal) (length hs) 0) (heads_same ls are)
      ∙ ap (λ b. depth_of goal - 1 + cond b (length ls) 0) (sym room)
      ∙ ap (λ e. e - 1 + cond (has_room_for searched.kind instances view.depth n) (length ls) 0) (sym d))

  pub shallow : (instances n : ℕ) → instances ≡ instances_built (skeleton m) → n ≤ 250 → has_room_for searched.kind instances view.depth n ≡ true → view.depth ≤ 250
  shallow instances n counted low room = by searched.kind room
    where
      by : (kind : BoundKind) → has_room_for kind instances view.depth n ≡ true → view.depth ≤ 250
      by Depth is = omega (arith, low, ltb-true view.depth n is)
      by Inferences is =
          let d = seen.depth in omega (arith, low, d, ltb-true instances n is, counted, deep_goal (skeleton m) goal own)

-- with none selected there are the starts, or nothing
pub start_within : (searched : Searched) (state : State) → selected state ≡ None → (n k : ℕ) → k < length (alternatives (level_of searched n) state)
    → k < length (start_clauses searched.start searched.problem.clauses)
start_within searched empty none n k lt = omega (arith, lt, length-map (start_clauses searched.start searched.problem.clauses) start)
start_within searched (rooted root trees) none n k lt =
    absurd (no_items (subst (λ o. k < length (alternatives_for (level_of searched n) (rooted root trees) o)) none lt))
  where
    no_items : k < 0 → ⊥
    no_items low = omega (arith, low)

pub start_found : (searched : Searched) (state : State) → selected state ≡ None → (n k clause : ℕ) → k < length (alternatives (level_of searched n) state)
    → slice_get (start_clauses searched.start searched.problem.clauses) k ≡ Some clause → slice_get (alternatives (level_of searched n) state) k ≡ Some (start clause)
start_found searched empty none n k clause lt is = slice_get-map start (start_clauses searched.start searched.problem.clauses) k ∙ ap (option_map start) is
start_found searched (rooted root trees) none n k clause lt is =
    absurd (no_items (subst (λ o. k < length (alternatives_for (level_of searched n) (rooted root trees) o)) none lt))
  where
    no_items : k < 0 → ⊥
    no_items low = omega (arith, low)

-- with none selected and an instance there is nothing
pub none_left : (searched : Searched) (state : State) → selected state ≡ None → (n instances : ℕ) → instances ≡ instances_built state → (instances ≡ 0 → ⊥)
    → 0 ≡ length (alternatives (level_of searched n) state)
none_left searched state none n instances counted some = sym (ap length (alternatives_at (level_of searched n) state instances None counted some none))
