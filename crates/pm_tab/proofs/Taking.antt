-- A step within a level: what was built has a labelling, or it would have none.
use Rattle.std.proofs.Common.{◌≡◌, ℕ, ◌≤◌, inl, inr, List, [], ◌∷◌, ◌++◌, Option, Some, None, IsSomeAnd, slice_get, refl, sym, subst, arith}
use Rattle.std.proofs.lemmas.List.Sums.{fold_push}
use Rattle.pm_logic.specs.declared.problem.Class.TheVariants.{Regular}
use Rattle.pm_logic.specs.declared.tableau.BoundKind.{BoundKind}
use Rattle.pm_logic.specs.declared.tableau.BoundKind.TheVariants.{Depth, Inferences}
use Rattle.pm_logic.specs.Problem.{Literal, Clause}
use Rattle.pm_logic.specs.Tableau.{Tableau}
use Rattle.pm_calculus.specs.Connection.{IsRegular, IsRegularFor, IsWithinBound, Level}
use Rattle.pm_calculus.specs.Skeleton.{State, empty, rooted, Skeletons, Step, start, extend, reduce, Subgoal, selected, after_step, built, leaves, literals_at}
use Rattle.pm_calculus.specs.Alternatives.{MayTake, alternatives, alternatives_for}
use Rattle.pm_calculus.specs.Choices.{IsLabelling, HasLabelling, IsReachedState}
use Rattle.pm_calculus.proofs.Alternatives.{IsStepFor, alternative_sound, map_among}
use Rattle.pm_calculus.proofs.Sizes.{tall_among, size_built, size_fits}
use Rattle.pm_machine.specs.State.{MachineState}
use Rattle.pm_machine.specs.Labels.{IsBuilt}
use Rattle.pm_tab.specs.General.{general_tableau}
use Rattle.pm_tab.specs.Laws.{HasBuilt}
use Rattle.pm_tab.specs.StepLaws.{StartFits}
use Rattle.pm_tab.proofs.Generals.{general_tableaux_label, regularity_is_general}
use Rattle.pm_tab.proofs.Room.{leaves_low, leaves_none, extension_within, reduction_within}

-- what a step at an alternative's number is
pub rooted_from : (clauses : List Clause) (state : State) (step : Step) → MayTake clauses state step → (root : ℕ) × (trees : Skeletons) × (after_step clauses state step ≡ rooted root trees)
rooted_from clauses empty (start c) may = (c, leaves (literals_at clauses c), refl)
rooted_from clauses empty (extend c j) may = absurd may
rooted_from clauses empty (reduce k) may = absurd may
rooted_from clauses (rooted root trees) (start c) may = (root, trees, refl)
rooted_from clauses (rooted root trees) (extend c j) may = (root, _, refl)
rooted_from clauses (rooted root trees) (reduce k) may = (root, _, refl)

-- the size of what a start builds
start_size : (kind : BoundKind) (c bound : ℕ) (ls : List Literal) → StartFits kind bound ls → size_built kind (rooted c (leaves ls)) ≤ bound
start_size Depth c bound ls (inl none) = subst (λ (ks : List Literal). tall_among (leaves ks) ≤ bound) (sym none) (omega arith)
start_size Depth c bound ls (inr some) = omega (arith, some, leaves_low ls)
start_size Inferences c bound ls some = omega (arith, some, leaves_none ls)

pub start_fits : (kind : BoundKind) (c bound : ℕ) (ls : List Literal) → size_built kind (rooted c (leaves ls)) ≤ bound → StartFits kind bound ls
start_fits Depth c bound [] small = inl refl
start_fits Depth c bound (l ∷ ls) small = inr (omega (arith, small))
start_fits Inferences c bound ls small = omega (arith, small)

module _ (level : Level) (steps : List Step) (k : ℕ) (step : Step)
    (is : slice_get (alternatives level (built level.problem.clauses steps)) k ≡ Some step)
    (reached : IsReachedState level (built level.problem.clauses steps)) where
  abbrev clauses : List Clause
  clauses = level.problem.clauses

  -- what the step builds is within the bound; of a start this is asked
  within_by : (state : State) → slice_get (alternatives level state) k ≡ Some step → IsReachedState level state
      → ((c : ℕ) → step ≡ start c → StartFits level.kind level.bound (literals_at clauses c))
      → size_built level.kind (after_step clauses state step) ≤ level.bound
  within_by empty is reached fits =
      let first = map_among start _ step k is in
      subst (λ s. size_built level.kind (after_step clauses empty s) ≤ level.bound) first.2
      (start_size level.kind first.0 level.bound (literals_at clauses first.0) (fits first.0 (sym first.2)))
  within_by (rooted root trees) is reached fits = by (selected (rooted root trees)) refl is
    where
      old : size_built level.kind (rooted root trees) ≤ level.bound
      old = subst (λ n. n ≤ level.bound) (size_fits level.kind (rooted root trees) reached.tableau reached.labelling.fits) reached.within

      step_within : (goal : Subgoal) → selected (rooted root trees) ≡ Some goal → (s : Step) → IsStepFor level (rooted root trees) goal s
          → size_built level.kind (after_step clauses (rooted root trees) s) ≤ level.bound
      step_within goal own (start c) h = absurd h
      step_within goal own (extend c j) h = extension_within level.kind clauses root trees goal c j level.bound own old h.0
      step_within goal own (reduce n) h = reduction_within level.kind clauses root trees goal n level.bound own old

      by : (o : Option Subgoal) → selected (rooted root trees) ≡ o → slice_get (alternatives_for level (rooted root trees) o) k ≡ Some step
          → size_built level.kind (after_step clauses (rooted root trees) step) ≤ level.bound
      by None own none = absurd cc
      by (Some goal) own there = step_within goal own step (alternative_sound level (rooted root trees) goal step k there)

  pub step_within_level : ((c : ℕ) → step ≡ start c → StartFits level.kind level.bound (literals_at clauses c))
      → size_built level.kind (built clauses (steps ++ step ∷ [])) ≤ level.bound
  step_within_level fits =
      subst (λ s. size_built level.kind s ≤ level.bound) (sym (fold_push (after_step clauses) empty steps step))
      (within_by (built clauses steps) is reached fits)

  pub step_within_tableau : ((c : ℕ) → step ≡ start c → StartFits level.kind level.bound (literals_at clauses c)) → (t : Tableau)
      → IsLabelling clauses (built clauses (steps ++ step ∷ [])) t → IsWithinBound level.kind level.bound t
  step_within_tableau fits t labelling =
      subst (λ n. n ≤ level.bound) (sym (size_fits level.kind (built clauses (steps ++ step ∷ [])) t labelling.fits)) (step_within_level fits)

-- a labelling has the size of what was built
pub labelled_within : (level : Level) (state : State) → HasLabelling level state → size_built level.kind state ≤ level.bound
labelled_within level state h = subst (λ n. n ≤ level.bound) (size_fits level.kind state h.tableau h.labelling.fits) h.within

-- a start that doesn't fit has no labelling within the bound
pub start_refused : (level : Level) (state : State) (c : ℕ) → MayTake level.problem.clauses state (start c) → HasLabelling level (after_step level.problem.clauses state (start c))
    → StartFits level.kind level.bound (literals_at level.problem.clauses c)
start_refused level empty c may h = start_fits level.kind c level.bound (literals_at level.problem.clauses c) (labelled_within level _ h)
start_refused level (rooted root trees) c may h = absurd (never (selected (rooted root trees)) may)
  where
    never : (o : Option Subgoal) → IsSomeAnd o (λ leaf. Rattle.pm_calculus.specs.Alternatives.IsStepAt level.problem.clauses leaf (start c)) → ⊥
    never None h = h
    never (Some goal) h = h

-- after a step that was taken, the general tableau is the labelling that is asked for
module _ (level : Level) (m : MachineState) (root : ℕ) (trees : Skeletons) (is : IsBuilt level.problem m)
    (builds : built level.problem.clauses m.steps ≡ rooted root trees) where
  abbrev has_built : HasBuilt level.problem m root trees
  has_built = record { always = is; built = builds }

  pub has_labelling : IsRegularFor level.class (general_tableau root m) → size_built level.kind (rooted root trees) ≤ level.bound → HasLabelling level (rooted root trees)
  has_labelling regular small =
      let labels = (general_tableaux_label level.problem m root trees has_built).labels in
      record {
        tableau = general_tableau root m;
        labelling = labels;
        regular = regular;
        within = subst (λ n. n ≤ level.bound) (sym (size_fits level.kind (rooted root trees) (general_tableau root m) labels.fits)) small;
      }

  -- no labelling is regular where the general one isn't
  pub none_regular : ¬ IsRegular (general_tableau root m) → (t : Tableau) → IsLabelling level.problem.clauses (rooted root trees) t → ¬ IsRegular t
  none_regular irregular t labelling regular =
      irregular ((regularity_is_general level.problem m root trees Regular has_built).0 (t, labelling, regular))
