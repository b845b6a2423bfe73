-- A step that is taken within a level, and one that isn't.
use Rattle.std.proofs.Common.{◌≡◌, ℕ, ◌<◌, ◌≤◌, Bool, true, false, List, ◌++◌, length, Option, Some, None, IsSomeAnd, refl, sym, ◌∙◌, ap, subst, arith}
use Rattle.std.proofs.lemmas.List.Sums.{fold_push}
use Rattle.std.specs.Bool.{then_some}
use Rattle.pm_logic.specs.declared.problem.Class.TheVariants.{Plain, Regular}
use Rattle.pm_logic.specs.Problem.{Clause, Problem}
use Rattle.pm_calculus.specs.Connection.{IsRegularFor, Level}
use Rattle.pm_calculus.specs.Skeleton.{State, empty, rooted, start, Subgoal, selected, after_step, built, literals_at}
use Rattle.pm_calculus.specs.Skeleton as calculus
use Rattle.pm_calculus.specs.Alternatives.{IsStepAt, MayTake}
use Rattle.pm_calculus.proofs.Sizes.{size_built}
use Rattle.pm_calculus.specs.Choices.{IsLabelling, HasLabelling, IsReachedState}
use Rattle.pm_store.specs.Trees.{tree}
use Rattle.pm_store.proofs.TreeLemmas.{trees_solve}
use Rattle.pm_diseq.specs.Notes.{pairs_of}
use Rattle.pm_diseq.proofs.StandingLemmas.{standing_pairs_are_apart}
use Rattle.pm_machine.specs.Labels.{IsBuilt}
use Rattle.pm_machine.specs.Value.{MachineValue, Answers, IsTaken, skeleton}
use Rattle.pm_tab.specs.declared.alternatives.Step.{Step}
use Rattle.pm_tab.specs.declared.alternatives.Step.TheVariants.{Start, Extend, Reduce}
use Rattle.pm_tab.specs.General.{general_tableau}
use Rattle.pm_tab.specs.Searched.{Searched, level_of}
use Rattle.pm_tab.specs.StepLaws.{StartFits}
use Rattle.pm_tab.specs.Inside.Watched.{Watch, no_watch, Watches, WatchesFor, GrewFrom}
use Rattle.pm_tab.specs.declared.repeats.Watermark.{Watermark}
use Rattle.pm_tab.specs.Inside.Steps.{step_named, StartsAmong, StepFits, IsAlternative, built_with, TakesRegularly, TakesWithin}
use Rattle.pm_tab.proofs.Taking.{rooted_from, step_within_level, start_refused, has_labelling}
use Rattle.pm_tab.proofs.Watching.{apart_parts}
use Rattle.pm_tab.proofs.Settling.{steps_taken, general_regular}

-- a start that may be taken is with one of the clauses
starts_in : (clauses : List Clause) (state : State) (c : ℕ) → MayTake clauses state (start c) → c < length clauses
starts_in clauses empty c may = may
starts_in clauses (rooted root trees) c may = absurd (never (selected (rooted root trees)) may)
  where
    never : (o : Option Subgoal) → IsSomeAnd o (λ leaf. IsStepAt clauses leaf (start c)) → ⊥
    never None h = h
    never (Some goal) h = h

pub starts_among : (clauses : List Clause) (state : State) (step : Step) → MayTake clauses state (step_named step) → StartsAmong (length clauses) step
starts_among clauses state (Start clause) may = starts_in clauses state clause may
starts_among clauses state (Extend clause literal) may = tt
starts_among clauses state (Reduce ancestor) may = tt

-- what is asked of a start
asked : (searched : Searched) (n : ℕ) (step : Step) → StepFits searched n step
    → (c : ℕ) → step_named step ≡ start c → StartFits searched.kind n (literals_at searched.problem.clauses c)
asked searched n (Start clause) fits c is =
    let same : clause ≡ c = cc in subst (λ k. StartFits searched.kind n (literals_at searched.problem.clauses k)) same fits
asked searched n (Extend clause literal) fits c is = absurd cc
asked searched n (Reduce ancestor) fits c is = absurd cc

module _ (searched : Searched) (n : ℕ) (old : MachineValue) (step : Step) (same : old.problem ≡ searched.problem)
    (may : MayTake old.problem.clauses (skeleton old) (step_named step)) where
  abbrev over : Problem → Searched
  over p = record { problem = p; class = searched.class; start = searched.start; kind = searched.kind }

  abbrev own : Level
  own = level_of (over old.problem) n

  abbrev clauses : List Clause
  clauses = old.problem.clauses

  abbrev roots : (root : ℕ) × (trees : calculus.Skeletons) × (after_step clauses (skeleton old) (step_named step) ≡ rooted root trees)
  roots = rooted_from clauses (skeleton old) (step_named step) may

  is_root : built_with old step ≡ rooted roots.0 roots.1
  is_root = fold_push (after_step clauses) empty old.state.steps (step_named step) ∙ roots.2

  -- a start that doesn't fit
  pub refused_start : ¬ StepFits searched n step → ¬ HasLabelling (level_of searched n) (built_with old step)
  refused_start none labelled = none (by step may (subst (λ p. HasLabelling (level_of (over p) n) (built_with old step)) (sym same) labelled))
    where
      by : (s : Step) → MayTake clauses (skeleton old) (step_named s) → HasLabelling own (built_with old s) → StepFits searched n s
      by (Start clause) takes h =
          subst (λ (p : Problem). StartFits searched.kind n (literals_at p.clauses clause)) same
          (start_refused own (skeleton old) clause takes (subst (HasLabelling own) (fold_push (after_step clauses) empty old.state.steps (start clause)) h))
      by (Extend clause literal) takes h = tt
      by (Reduce ancestor) takes h = tt

  module _ (alternative : IsAlternative (level_of searched n) old step) (reached : IsReachedState (level_of searched n) (skeleton old)) (fits : StepFits searched n step) where
    own_alternative : IsAlternative own old step
    own_alternative = subst (λ p. IsAlternative (level_of (over p) n) old step) (sym same) alternative

    own_reached : IsReachedState own (skeleton old)
    own_reached = subst (λ p. IsReachedState (level_of (over p) n) (skeleton old)) (sym same) reached

    own_fits : StepFits (over old.problem) n step
    own_fits = subst (λ p. StepFits (over p) n step) (sym same) fits

    taken_labels : (new : MachineValue) → IsTaken (step_named step) old new → ((root : ℕ) → IsRegularFor searched.class (general_tableau root new.state))
        → HasLabelling (level_of searched n) (built_with old step)
    taken_labels new taken regular =
        let steps = steps_taken clauses (step_named step) old.state new.state taken.takes in
        let small = step_within_level own old.state.steps own_alternative.0 (step_named step) own_alternative.1 own_reached (asked (over old.problem) n step own_fits) in
        subst (λ p. HasLabelling (level_of (over p) n) (built_with old step)) same
        (subst (HasLabelling own) (sym is_root)
        (has_labelling own new.state roots.0 roots.1 (subst (λ p. IsBuilt p new.state) taken.problem taken.built) (ap (built clauses) steps ∙ is_root) (regular roots.0)
        (subst (λ s. size_built searched.kind s ≤ n) is_root small)))

    -- in the class plain nothing is watched
    plain_taken : searched.class ≡ Plain → (new : MachineValue) (watch : Watch) → WatchesFor searched.class searched.problem.clauses old.state watch
        → (mark : Watermark) → mark ≡ record { notes = 0; place = 0; count = 0 } → IsTaken (step_named step) old new
        → TakesWithin (level_of searched n) step old new watch watch (Some mark)
    plain_taken plain new watch watches mark nothing taken =
        let none : watch ≡ no_watch = subst (λ class. WatchesFor class searched.problem.clauses old.state watch) plain watches in (
          taken,
          taken_labels new taken (λ root. subst (λ class. IsRegularFor class (general_tableau root new.state)) (sym plain) tt),
          subst (λ class. WatchesFor class searched.problem.clauses new.state watch) (sym plain) none,
          subst (λ m. GrewFrom m watch watch) (sym nothing)
              (subst (λ w. GrewFrom (record { notes = 0; place = 0; count = 0 }) w w) (sym none) (record {
                has = record { notes = omega arith; numbers = omega arith };
                back = refl;
              })),
        )

    plain_refused : (new : MachineValue) (watch : Watch) → Answers (step_named step) old new false
        → TakesWithin (level_of searched n) step old new watch watch None
    plain_refused new watch refused = (
      refused.same,
      refl,
      λ h. refused.none h.tableau
          (subst (λ (p : Problem). IsLabelling p.clauses (built_with old step) h.tableau) (sym same) h.labelling),
    )

    pub plain_within : searched.class ≡ Plain → (new : MachineValue) (watch : Watch) → WatchesFor searched.class searched.problem.clauses old.state watch
        → (mark : Watermark) → mark ≡ record { notes = 0; place = 0; count = 0 } → (b : Bool) → Answers (step_named step) old new b
        → TakesWithin (level_of searched n) step old new watch watch (then_some b mark)
    plain_within plain new watch watches mark nothing true taken = plain_taken plain new watch watches mark nothing taken
    plain_within plain new watch watches mark nothing false refused = plain_refused new watch refused

    pub regular_within : searched.class ≡ Regular → (new : MachineValue) (watch grown : Watch)
        → (o : Option Watermark) → TakesRegularly step old new watch grown o → TakesWithin (level_of searched n) step old new watch grown o
    regular_within regular new watch grown (Some mark) h =
        let built_new = h.0.built in
        let s = new.state.equations in (
          h.0,
          taken_labels new h.0 (λ root. subst (λ class. IsRegularFor class (general_tableau root new.state)) (sym regular)
              (general_regular new.state root (pairs_of grown.notes ++ h.1.settled) h.1.tells
              ((apart_parts (tree s) (pairs_of grown.notes) h.1.settled).1
              (standing_pairs_are_apart s grown.notes built_new.sound h.1.stands, h.1.apart (tree s) (trees_solve s built_new.sound))))),
          subst (λ class. WatchesFor class searched.problem.clauses new.state grown) (sym regular)
              (subst (λ (p : Problem). Watches p.clauses new.state grown) same h.1),
          h.2,
        )
    regular_within regular new watch grown None h = (
      h.0,
      h.1,
      λ k. h.2 k.tableau
          (subst (λ (p : Problem). IsLabelling p.clauses (built_with old step) k.tableau) (sym same) k.labelling)
          (subst (λ class. IsRegularFor class k.tableau) regular k.regular),
    )
