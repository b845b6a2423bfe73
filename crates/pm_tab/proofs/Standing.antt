-- A place in a space stays one as its path grows and shrinks.
use Rattle.std.proofs.Common.{◌≡◌, ◌≢◌, ℕ, ◌+◌, ◌<◌, ◌≤◌, Bool, true, false, not, cond, ◌&&◌, List, [], ◌∷◌, ◌++◌, length, map, Option, Some, None, IsSomeAnd, option_map, slice_get, get_or, fold, reverse, refl, sym, ◌∙◌, ap, subst, arith}
use Rattle.std.specs.Prelude.{◌↔◌, IfSome, IsTrue}
use Rattle.std.specs.Option.{is_some}
use Rattle.std.proofs.lemmas.Bool.{false≢true, not-true, not-false}
use Rattle.std.proofs.lemmas.List.{length-append, reverse-append}
use Rattle.std.proofs.lemmas.List.Elements.{All-nil}
use Rattle.std.proofs.lemmas.List.Sums.{fold_push}
use Rattle.std.proofs.lemmas.Option.{slice_get-map, slice_get_within}
use Rattle.pm_logic.specs.declared.tableau.BoundKind.{BoundKind}
use Rattle.pm_logic.specs.declared.tableau.BoundKind.TheVariants.{Depth, Inferences}
use Rattle.pm_logic.specs.declared.problem.Class.{Class}
use Rattle.pm_logic.specs.declared.problem.Class.TheVariants.{Plain, Regular}
use Rattle.pm_logic.specs.Problem.{Clause, Problem, IsValid, start_clauses}
use Rattle.pm_calculus.specs.Connection.{Level}
use Rattle.pm_calculus.specs.Skeleton.{Face, Skeleton, unclosed, closed, extended, Skeletons, no_skeletons, more_skeletons, State, empty, rooted, Step, start, extend, reduce, Subgoal, depth_of, is_closed_below, are_closed_below, is_closed, instances_built, selected_below, selected_among, selected, after_step, built, leaves, literals_at}
use Rattle.pm_calculus.specs.Alternatives.{alternatives, after_choice, state_after, with_choice, steps_of, IsStepAt, MayTake, MayTakeAll}
use Rattle.pm_calculus.specs.Choices.{IsReached, IsReachedState, IsComplete, IsGeneral, HasLabelling}
use Rattle.pm_calculus.proofs.Growth.{IsBegun, kept, begun, none_selected}
use Rattle.pm_calculus.proofs.Built.{states_are_built, steps_may_be_taken}
use Rattle.pm_calculus.proofs.Sizes.{size_built}
use Rattle.pm_space.specs.Key.{Agree}
use Rattle.pm_deepen.specs.Levels.{key_of}
use Rattle.pm_machine.specs.declared.node.LeafView.{LeafView}
use Rattle.pm_machine.specs.Node.{Views}
use Rattle.pm_diseq.specs.Notes.{Pair}
use Rattle.pm_diseq.proofs.StandingLemmas.{empty_pools_stand}
use Rattle.pm_machine.specs.State.{CellNode, MachineState}
use Rattle.pm_machine.specs.Labels.{IsBuilt}
use Rattle.pm_machine.specs.Value.{MachineValue, IsNew, IsTaken, IsNotDeeper, skeleton}
use Rattle.pm_tab.specs.declared.alternatives.Step.{Step as CodeStep}
use Rattle.pm_tab.specs.declared.alternatives.Step.TheVariants as code
use Rattle.pm_tab.specs.declared.space.Frame.{Frame}
use Rattle.pm_machine.proofs.PlaceLemmas.{is_beyond}
use Rattle.pm_tab.specs.Hopeful.{IsHopeful, IsFirstHopeful}
use Rattle.pm_tab.specs.Numbered.{numbered_tableau}
use Rattle.pm_tab.specs.Inside.Steps.{step_named, instances_given, StartsFirst}
use Rattle.pm_tab.specs.declared.repeats.Watermark.{Watermark}
use Rattle.pm_tab.specs.Repeats.{TellsRepeats}
use Rattle.pm_tab.specs.Inside.Numbering.{all_literals, AreNumberedBy}
use Rattle.pm_tab.specs.Inside.Watched.{Watch, no_watch, WatchesFor, unwatched, HasWatermark, GrewFrom}
use Rattle.pm_tab.specs.Inside.Standing.{path_of, Counts, IsAt, counts_before, Stands}
use Rattle.pm_tab.proofs.Room.{leaves_none, extension_counts, reduction_counts, leaf_among}
use Rattle.pm_tab.proofs.Counted.{views_none, views_some, deep_goal}
use Rattle.pm_tab.proofs.Taking.{labelled_within}
use Rattle.pm_tab.proofs.Hopeless.{labelled_hopeful}
use Rattle.pm_tab.proofs.Paths.{named_more, reached_more, width_of, may_take}
use Rattle.pm_tab.proofs.Settling.{steps_taken}
use Rattle.pm_tab.proofs.Numbered.{numbered_general}

-- before the first step nothing is watched
pub nothing_watched : (class : Class) (clauses : List Clause) (m : MachineState) → m.nodes ≡ [] → WatchesFor class clauses m no_watch
nothing_watched Plain clauses m none = refl
nothing_watched Regular clauses m none = record {
  stands = empty_pools_stand m.equations;
  numbers = subst (λ nodes. AreNumberedBy (all_literals clauses) m.equations (map (λ (node : CellNode). node.literal) nodes) []) (sym none) tt;
  settled = [];
  apart = λ trees solves. All-nil (λ (pair : Pair). map trees pair.left ≢ map trees pair.right);
  tells = subst (λ nodes. TellsRepeats nodes []) (sym none)
      (λ root trees. (λ regular. All-nil (λ (pair : Pair). map trees pair.left ≢ map trees pair.right), λ apart. tt));
}

-- a new place
pub stands_new : (level : Level) (counts : Counts) (value : MachineValue) (watch : Watch) → IsNew level.problem value → counts.width ≡ length (alternatives level (skeleton value))
    → counts.instances ≡ 0 → watch ≡ no_watch → Stands level [] counts value.state value.before watch
stands_new level counts value watch new wide none nothing =
    subst (λ others. Stands level [] counts value.state others watch) (sym new.before) (record {
      steps = ap Some (sym new.steps);
      reached = tt;
      width = wide ∙ ap (λ s. length (alternatives level s)) at_start;
      instances = none ∙ sym (ap (λ steps. instances_built (built level.problem.clauses steps)) new.steps);
      built = new.built;
      watches = subst (WatchesFor level.class level.problem.clauses value.state) (sym nothing) (nothing_watched level.class level.problem.clauses value.state new.nodes);
    })
  where
    at_start : skeleton value ≡ empty
    at_start = ap (built value.problem.clauses) new.steps

-- where it stands now
pub stands_at : (level : Level) (frames : List Frame) (counts : Counts) (m : MachineState) (others : List MachineState) (watch : Watch)
    → Stands level frames counts m others watch → IsAt level (path_of frames) counts m watch
stands_at level [] counts m [] watch h = h
stands_at level [] counts m (o ∷ os) watch h = absurd h
stands_at level (f ∷ fs) counts m [] watch h = absurd h
stands_at level (f ∷ fs) counts m (o ∷ os) watch h = h.0

-- the path has a choice for each frame
pub path_long : (frames : List Frame) → length (path_of frames) ≡ length frames
path_long [] = refl
path_long (f ∷ fs) = let n = length-append (path_of fs) (f.choice ∷ []) in omega (arith, n, path_long fs)

length-reversed : {A : Type 0} (xs : List A) → length (reverse xs) ≡ length xs
length-reversed [] = refl
length-reversed (x ∷ xs) =
    let n = ap length (reverse-append (x ∷ []) xs) ∙ length-append (reverse xs) (x ∷ []) in omega (arith, n, length-reversed xs)

pub reversed_long : (frames : List Frame) → length frames ≡ length (path_of (reverse frames))
reversed_long frames = sym (path_long (reverse frames) ∙ length-reversed frames)

-- a leaf is selected where one is unclosed
closed_by_parts : (b c : Bool) (later first : Option Subgoal) → (later ≡ None → c ≡ true) → (first ≡ None → b ≡ true)
    → cond b later first ≡ None → b && c ≡ true
closed_by_parts true c later first among below none = among none
closed_by_parts false c later first among below none = let shut = below none in absurd cc

mutual
  closed_below : (above : List Face) (s : Skeleton) → selected_below above s ≡ None → is_closed_below s ≡ true
  closed_below above (unclosed face) none = absurd cc
  closed_below above (closed face k) none = refl
  closed_below above (extended face c trees) none = closed_among (above ++ face ∷ []) trees none

  closed_among : (above : List Face) (ss : Skeletons) → selected_among above ss ≡ None → are_closed_below ss ≡ true
  closed_among above no_skeletons none = refl
  closed_among above (more_skeletons s ss) none =
      closed_by_parts (is_closed_below s) (are_closed_below ss) (selected_among above ss) (selected_below above s)
      (λ later. closed_among above ss later) (λ first. closed_below above s first) none

closed_is : (state : State) → IsBegun state → selected state ≡ None → is_closed state ≡ true
closed_is empty begins none = absurd begins
closed_is (rooted root trees) begins none = closed_among [] trees none

none_is : (state : State) → is_closed state ≡ true → selected state ≡ None
none_is empty shut = refl
none_is (rooted root trees) shut = none_selected [] trees shut

-- there is an instance exactly where there is a root
instances_begun : (state : State) → IsBegun state → 0 < instances_built state
instances_begun empty h = absurd h
instances_begun (rooted root trees) h = omega arith

begun_instances : (state : State) → 0 < instances_built state → IsBegun state
begun_instances empty some = absurd (omega (arith, some))
begun_instances (rooted root trees) some = tt

-- the number of instances after a step
instances_more : (clauses : List Clause) (state : State) (step : Step) → MayTake clauses state step
    → instances_built (after_step clauses state step) ≡ instances_built state + instances_given step
instances_more clauses empty (start c) may = ap (λ n. 1 + n) (leaves_none (literals_at clauses c))
instances_more clauses empty (extend c j) may = absurd may
instances_more clauses empty (reduce k) may = absurd may
instances_more clauses (rooted root trees) step may = by (selected (rooted root trees)) refl step may
  where
    by : (o : Option Subgoal) → selected (rooted root trees) ≡ o → (step : Step) → IsSomeAnd o (λ leaf. IsStepAt clauses leaf step)
        → instances_built (after_step clauses (rooted root trees) step) ≡ instances_built (rooted root trees) + instances_given step
    by None own step may = absurd may
    by (Some goal) own (start c) may = absurd may
    by (Some goal) own (extend c j) may = omega (arith, extension_counts clauses root trees goal c j own)
    by (Some goal) own (reduce k) may = omega (arith, reduction_counts root trees goal k own)

-- a leaf lies no deeper than the size of what was built
deep_within : (kind : BoundKind) (state : State) (goal : Subgoal) → selected state ≡ Some goal → depth_of goal ≤ size_built kind state
deep_within Depth empty goal own = absurd cc
deep_within Depth (rooted root trees) goal own = let h = leaf_among (λ (g : Subgoal). closed g.face 0) goal 1 [] trees refl own in omega (arith, h)
deep_within Inferences state goal own = deep_goal state goal own

-- a list of choices names as many steps
fold_long : (level : Level) (ks : List ℕ) (o : Option (List Step)) (steps : List Step) → fold (with_choice level) o ks ≡ Some steps
    → (first : List Step) × (o ≡ Some first) × (length steps ≡ length first + length ks)
fold_long level [] o steps is = (steps, is, omega arith)
fold_long level (k ∷ ks) o steps is =
    let rest = fold_long level ks (with_choice level o k) steps is in
    let before = by o rest.0 rest.1 in
    (before.0, before.1, omega (arith, rest.2, before.2))
  where
    one : (ss next : List Step) (chosen : Option Step) → option_map (λ step. ss ++ step ∷ []) chosen ≡ Some next → length next ≡ length ss + 1
    one ss next None is = absurd cc
    one ss next (Some step) is =
        let same : ss ++ step ∷ [] ≡ next = cc in
        ap length (sym same) ∙ length-append ss (step ∷ [])

    by : (o : Option (List Step)) (next : List Step) → with_choice level o k ≡ Some next → (first : List Step) × (o ≡ Some first) × (length next ≡ length first + 1)
    by None next is = absurd cc
    by (Some ss) next is = (ss, refl, one ss next _ is)

pub given_one : (step : Step) → instances_given step ≤ 1
given_one (start c) = omega arith
given_one (extend c j) = omega arith
given_one (reduce k) = omega arith

instances_few : (clauses : List Clause) (state : State) (steps : List Step) → MayTakeAll clauses state steps
    → instances_built (fold (after_step clauses) state steps) ≤ instances_built state + length steps
instances_few clauses state [] all = omega arith
instances_few clauses state (step ∷ steps) all =
    let rest = instances_few clauses (after_step clauses state step) steps all.1 in
    omega (arith, rest, instances_more clauses state step all.0, given_one step)

-- what holds of a place
module _ (level : Level) (path : List ℕ) (counts : Counts) (value : MachineValue) (watch : Watch) (same : value.problem ≡ level.problem)
    (at : IsAt level path counts value.state watch) where
  abbrev m : MachineState
  m = value.state

  abbrev now : State
  now = built level.problem.clauses m.steps

  pub skeleton_is : skeleton value ≡ now
  skeleton_is = ap (λ (p : Problem). built p.clauses m.steps) same

  pub state_now : state_after level path ≡ Some now
  state_now = states_are_built level path ∙ ap (option_map (built level.problem.clauses)) at.steps

  pub width_now : counts.width ≡ length (alternatives level (skeleton value))
  width_now = at.width ∙ width_of level path m.steps at.steps ∙ ap (λ s. length (alternatives level s)) (sym skeleton_is)

  pub reached_now : IsReachedState level (skeleton value)
  reached_now = subst (IsReachedState level) (sym skeleton_is) (subst (λ o. IsSomeAnd o (IsReachedState level)) state_now at.reached)

  pub instances_now : counts.instances ≡ instances_built (skeleton value)
  instances_now = at.instances ∙ ap instances_built (sym skeleton_is)

  -- the path is complete where it has an instance and no leaf is selected
  pub complete_where : 0 < counts.instances → selected (skeleton value) ≡ None → IsComplete level path
  complete_where some none = record {
    reached = at.reached;
    begun = begun_path path at.steps (begun_instances now (omega (arith, some, at.instances)));
    closed = subst (λ o. IsSomeAnd o (λ state. is_closed state ≡ true)) (sym state_now)
        (closed_is now (begun_instances now (omega (arith, some, at.instances))) (ap selected (sym skeleton_is) ∙ none));
  }
    where
      begun_path : (ks : List ℕ) → steps_of level ks ≡ Some m.steps → IsBegun now → 0 < length ks
      begun_path [] named begins =
          let none_taken : [] ≡ m.steps = cc in
          absurd (subst (λ steps. IsBegun (built level.problem.clauses steps)) (sym none_taken) begins)
      begun_path (k ∷ ks) named begins = omega arith

  pub complete_has : IsComplete level path → (0 < counts.instances) × (selected (skeleton value) ≡ None)
  complete_has complete =
      let shut : is_closed now ≡ true = subst (λ o. IsSomeAnd o (λ state. is_closed state ≡ true)) state_now complete.closed in
      let begins : IsBegun now = subst (λ o. IfSome o IsBegun) state_now (begun level path complete.begun) in
      let some = instances_begun now begins in
      (omega (arith, at.instances, some), ap selected skeleton_is ∙ none_is now shut)

  pub complete_iff : 0 < counts.instances → (o : Option LeafView) → Views (selected (skeleton value)) o → (b : Bool) → is_some o ≡ not b → IsTrue b ↔ IsComplete level path
  complete_iff some None shown b is =
      (λ test. complete_where some (views_none (selected (skeleton value)) shown), λ complete. not-false b (sym is))
  complete_iff some (Some view) shown b is =
      let goal = views_some (selected (skeleton value)) view shown in (
        λ test. absurd (false≢true (sym (not-true b (sym is)) ∙ test)),
        λ complete. absurd (clash goal.0 (sym (complete_has complete).1 ∙ goal.1)),
      )
    where
      clash : (goal : Subgoal) → None ≡ Some goal → ⊥
      clash goal none = absurd cc

  -- no selected leaf is deeper than the bound
  pub not_deep : level.bound ≤ 250 → IsNotDeeper 250 value
  not_deep low goal own = by now skeleton_is (subst (λ o. IsSomeAnd o (IsReachedState level)) state_now at.reached)
    where
      by : (state : State) → skeleton value ≡ state → IsReachedState level state → depth_of goal ≤ 250
      by empty is reached = absurd (clash (sym (ap selected is) ∙ own))
        where
          clash : None ≡ Some goal → ⊥
          clash none = absurd cc
      by (rooted root trees) is reached =
          let small = labelled_within level (rooted root trees) reached in
          let deep = deep_within level.kind (rooted root trees) goal (sym (ap selected is) ∙ own) in
          omega (arith, low, small, deep)

  -- an alternative of the place
  module _ (k : ℕ) (step : Step) (is : slice_get (alternatives level (skeleton value)) k ≡ Some step) where
    is_now : slice_get (alternatives level now) k ≡ Some step
    is_now = ap (λ s. slice_get (alternatives level s) k) (sym skeleton_is) ∙ is

    pub may_now : MayTake value.problem.clauses (skeleton value) step
    may_now = subst (λ (p : Problem). MayTake p.clauses (built p.clauses m.steps) step) (sym same) (may_take level path m.steps k step at.steps is_now)

    pub reached_iff : IsReached level (path ++ k ∷ []) ≡ HasLabelling level (built value.problem.clauses (m.steps ++ step ∷ []))
    reached_iff = reached_more level path m.steps k step at.steps is_now ∙ ap (λ (p : Problem). HasLabelling level (built p.clauses (m.steps ++ step ∷ []))) (sym same)

    pub steps_more : steps_of level (path ++ k ∷ []) ≡ Some (m.steps ++ step ∷ [])
    steps_more = named_more level path m.steps k step at.steps is_now

    pub instances_after : instances_built (built level.problem.clauses (m.steps ++ step ∷ [])) ≡ counts.instances + instances_given step
    instances_after =
        ap instances_built (fold_push (after_step level.problem.clauses) empty m.steps step)
        ∙ instances_more level.problem.clauses now step (may_take level path m.steps k step at.steps is_now)
        ∙ ap (λ n. n + instances_given step) (sym at.instances)

  -- a start is the first step
  pub starts_first : (step : CodeStep) → MayTake value.problem.clauses (skeleton value) (step_named step) → StartsFirst step value
  starts_first (code.Start clause) may = by path at.steps begun_now
    where
      begun_now : 0 < length path → IsBegun (skeleton value)
      begun_now some = subst IsBegun (sym skeleton_is) (subst (λ o. IfSome o IsBegun) state_now (begun level path some))

      never : (state : State) → IsBegun state → MayTake value.problem.clauses state (start clause) → ⊥
      never empty begins takes = begins
      never (rooted root trees) begins takes = no_start (selected (rooted root trees)) takes
        where
          no_start : (o : Option Subgoal) → IsSomeAnd o (λ leaf. IsStepAt value.problem.clauses leaf (start clause)) → ⊥
          no_start None h = h
          no_start (Some goal) h = h

      by : (ks : List ℕ) → steps_of level ks ≡ Some m.steps → (0 < length ks → IsBegun (skeleton value)) → m.steps ≡ []
      by [] named begins = cc
      by (k ∷ ks) named begins = absurd (never (skeleton value) (begins (omega arith)) may)
  starts_first (code.Extend clause literal) may = tt
  starts_first (code.Reduce ancestor) may = tt

  -- there are no more instances than choices
  pub few_instances : counts.instances ≤ length path
  few_instances =
      let long = fold_long level path (Some []) m.steps at.steps in
      let first : [] ≡ long.0 = cc in
      let few = instances_few level.problem.clauses empty m.steps (steps_may_be_taken level path m.steps at.steps) in
      omega (arith, at.instances, few, long.2, ap length first)

-- the place after a step that was taken
module _ (level : Level) (frames : List Frame) (counts : Counts) (old new : MachineValue) (watch grown : Watch)
    (stands : Stands level frames counts old.state old.before watch) (same : old.problem ≡ level.problem)
    (k : ℕ) (step : Step) (is : slice_get (alternatives level (skeleton old)) k ≡ Some step) (taken : IsTaken step old new)
    (labelled : HasLabelling level (built old.problem.clauses (old.state.steps ++ step ∷ [])))
    (watches : WatchesFor level.class level.problem.clauses new.state grown) (mark : Watermark) (grew : GrewFrom mark watch grown) where
  abbrev at : IsAt level (path_of frames) counts old.state watch
  at = stands_at level frames counts old.state old.before watch stands

  abbrev new_steps : new.state.steps ≡ old.state.steps ++ step ∷ []
  new_steps = steps_taken old.problem.clauses step old.state new.state taken.takes

  pub problem_kept : new.problem ≡ level.problem
  problem_kept = taken.problem ∙ same

  pub instances_are : (instances : ℕ) → instances ≡ counts.instances + instances_given step → instances ≡ instances_built (skeleton new)
  instances_are instances counted =
      counted ∙ sym (instances_after level (path_of frames) counts old watch same at k step is)
      ∙ ap (λ ss. instances_built (built level.problem.clauses ss)) (sym new_steps) ∙ ap (λ (p : Problem). instances_built (built p.clauses new.state.steps)) (sym problem_kept)

  pub step_stands : (frame : Frame) (after : Counts) → frame.choice ≡ k → counts_before frame ≡ counts → frame.mark ≡ mark
      → after.width ≡ length (alternatives level (skeleton new)) → after.instances ≡ counts.instances + instances_given step
      → Stands level (frame ∷ frames) after new.state new.before grown
  step_stands frame after choice before marked wide counted =
      let steps : steps_of level (path_of frames ++ k ∷ []) ≡ Some new.state.steps =
      steps_more level (path_of frames) counts old watch same at k step is ∙ ap Some (sym new_steps) in
      let reached : IsReached level (path_of frames ++ k ∷ []) =
      subst (λ (P : Type 0). P) (sym (reached_iff level (path_of frames) counts old watch same at k step is)) labelled in
      let skeleton_new : skeleton new ≡ built level.problem.clauses new.state.steps = ap (λ (p : Problem). built p.clauses new.state.steps) problem_kept in
      let now : IsAt level (path_of frames ++ k ∷ []) after new.state grown = record {
        steps = steps;
        reached = reached;
        width = wide ∙ ap (λ s. length (alternatives level s)) skeleton_new ∙ sym (width_of level (path_of frames ++ k ∷ []) new.state.steps steps);
        instances = instances_are after.instances counted ∙ ap instances_built skeleton_new;
        built = subst (λ p. IsBuilt p new.state) problem_kept taken.built;
        watches = watches;
      } in
      let now_frame : IsAt level (path_of (frame ∷ frames)) after new.state grown = subst (λ n. IsAt level (path_of frames ++ n ∷ []) after new.state grown) (sym choice) now in
      let kept : unwatched frame.mark grown ≡ watch = ap (λ m. unwatched m grown) marked ∙ grew.back in
      subst (λ os. Stands level (frame ∷ frames) after new.state os grown) (sym taken.before) (
        now_frame,
        subst (λ m. HasWatermark m grown) (sym marked) grew.has,
        subst (λ w. Stands level frames (counts_before frame) old.state old.before w) (sym kept)
            (subst (λ c. Stands level frames c old.state old.before watch) (sym before) stands),
      )

-- the least hopeful alternative passes no reached list
pub hopeless_passed : (level : Level) (path : List ℕ) (counts : Counts) (value : MachineValue) (watch : Watch) (same : value.problem ≡ level.problem)
    (at : IsAt level path counts value.state watch) → IsValid level.problem → (from first : ℕ) → IsFirstHopeful level value.state from first
    → (k : ℕ) → from ≤ k → k < first → IsReached level (path ++ k ∷ []) → ⊥
hopeless_passed level path counts value watch same at valid from first least k low less reached =
    by (slice_get (alternatives level (built level.problem.clauses value.state.steps)) k) refl
  where
    within : k < length (alternatives level (built level.problem.clauses value.state.steps))
    within = let w = least.within in omega (arith, less, w)

    by : (o : Option Step) → slice_get (alternatives level (built level.problem.clauses value.state.steps)) k ≡ o → ⊥
    by None none = let beyond = is_beyond (alternatives level (built level.problem.clauses value.state.steps)) k none in omega (arith, within, beyond)
    by (Some step) is =
        let labelled = subst (λ (P : Type 0). P) (reached_more level path value.state.steps k step at.steps is) reached in
        let may = may_take level path value.state.steps k step at.steps is in
        least.passed k low less
        (subst (λ o. IsSomeAnd o (IsHopeful level.problem.clauses value.state)) (sym is)
        (labelled_hopeful level.problem value.state valid at.built step may labelled.tableau labelled.labelling))

-- the general tableau of a complete path
pub general_now : (level : Level) (path : List ℕ) (counts : Counts) (value : MachineValue) (watch : Watch) (same : value.problem ≡ level.problem)
    (at : IsAt level path counts value.state watch) → (root : ℕ) (below : Skeletons) → built level.problem.clauses value.state.steps ≡ rooted root below
    → IsGeneral level path (numbered_tableau root value.state)
general_now level path counts value watch same at root below builds =
    numbered_general level path value.state root below at.built builds (state_now level path counts value watch same at ∙ ap Some builds)

-- the root of what choices build is the start clause of the first
abbrev HasRoot : ℕ → State → Type 0
HasRoot root empty = ⊥
HasRoot root (rooted other below) = other ≡ root

root_kept : (level : Level) (root : ℕ) (state : State) (n : ℕ) (step : Step) → HasRoot root state → slice_get (alternatives level state) n ≡ Some step
    → HasRoot root (after_step level.problem.clauses state step)
root_kept level root empty n step h is = absurd h
root_kept level root (rooted other below) n (start c) h is = h
root_kept level root (rooted other below) n (extend c j) h is = h
root_kept level root (rooted other below) n (reduce k) h is = h

has_root : (root : ℕ) (state : State) → HasRoot root state → (below : Skeletons) × (state ≡ rooted root below)
has_root root empty h = absurd h
has_root root (rooted other below) h = (below, ap (λ r. rooted r below) h)

-- the first choice of a path
pub record BeginsWith (level : Level) (k : ℕ) (state : State) : Type 0 where
  pub within : k < length (start_clauses level.start level.problem.clauses)
  pub root : (c : ℕ) → slice_get (start_clauses level.start level.problem.clauses) k ≡ Some c → (below : Skeletons) × (state ≡ rooted c below)

pub begins_with : (level : Level) (k : ℕ) (ks : List ℕ) (state : State) → state_after level (k ∷ ks) ≡ Some state → BeginsWith level k state
begins_with level k ks state is = record {
  within = by (slice_get (start_clauses level.start level.problem.clauses) k) refl;
  root = λ c first.
      let chosen : after_choice level (Some empty) k ≡ Some (rooted c (leaves (literals_at level.problem.clauses c))) =
      ap (option_map (after_step level.problem.clauses empty)) (slice_get-map start (start_clauses level.start level.problem.clauses) k ∙ ap (option_map start) first) in
      let all = kept level (HasRoot c) (root_kept level c) (after_choice level (Some empty) k) ks (subst (λ o. IfSome o (HasRoot c)) (sym chosen) refl) in
      has_root c state (subst (λ o. IfSome o (HasRoot c)) is all);
}
  where
    none_kept : (ns : List ℕ) → fold (after_choice level) None ns ≡ Some state → ⊥
    none_kept [] none = absurd cc
    none_kept (n ∷ ns) none = none_kept ns none

    by : (o : Option ℕ) → slice_get (start_clauses level.start level.problem.clauses) k ≡ o → k < length (start_clauses level.start level.problem.clauses)
    by None none =
        let chosen : after_choice level (Some empty) k ≡ None =
        ap (option_map (after_step level.problem.clauses empty)) (slice_get-map start (start_clauses level.start level.problem.clauses) k ∙ ap (option_map start) none) in
        absurd (none_kept ks (subst (λ o. fold (after_choice level) o ks ≡ Some state) chosen is))
    by (Some c) first = slice_get_within (start_clauses level.start level.problem.clauses) k c first

-- the first frame has the path's first choice
path_push : (fs : List Frame) (f : Frame) → path_of (fs ++ f ∷ []) ≡ f.choice ∷ path_of fs
path_push [] f = refl
path_push (g ∷ fs) f = ap (λ ks. ks ++ g.choice ∷ []) (path_push fs f)

pub first_choice : (frames : List Frame) (f : Frame) → 0 < length frames → f ≡ get_or frames 0 f → (ks : List ℕ) × (path_of (reverse frames) ≡ f.choice ∷ ks)
first_choice [] f some is = absurd (omega (arith, some))
first_choice (g ∷ fs) f some is =
    (path_of (reverse fs), ap path_of (reverse-append (g ∷ []) fs) ∙ path_push (reverse fs) g ∙ ap (λ (h : Frame). h.choice ∷ path_of (reverse fs)) (sym is))

-- a key agrees with itself
pub same_key : (level other : Level) → level ≡ other → Agree (key_of level) (key_of other)
same_key level other same = subst (λ l. Agree (key_of level) (key_of l)) same
    (record { width = λ ks. refl; reached = λ ks. (λ h. h, λ h. h); complete = λ ks. (λ h. h, λ h. h) })
