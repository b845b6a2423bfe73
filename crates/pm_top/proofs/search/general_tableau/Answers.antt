use Rattle.std.proofs.Common.{List, ℕ, ◌≡◌, ◌<◌, ◌++◌, ◌∷◌, [], get_or, sym, ◌∙◌, ap, subst}
use Rattle.std.proofs.lemmas.Bool.{MatchBool-at_true}
use Rattle.std.proofs.lemmas.List.{take_all}
use Rattle.std.proofs.lemmas.Result.{IfOk-weaker}
use Rattle.pm_calculus.specs.Connection.{Level}
use Rattle.pm_calculus.specs.Choices.{IsReached, IsComplete, IsGeneral, width}
use Rattle.pm_tab.specs.Searched.{level_of}
use Rattle.pm_top.proofs.Followed.{longer, prefix_is_reached, choice_is_below}
use Rattle.pm_top.proofs.search.general_tableau.Goals as goal

pub choices-init : goal.choices-init
choices-init c = (c.in_ok-space.ensures.path, c.in_ok-space.ensures.level)

pub step-requires : goal.step-requires
step-requires c =
    let level = level_of c.args.maker.now c.args.level in
    let choice = get_or c.args.path.now c.choices.choice-index 0 in
    let below = choice_is_below level c.args.path.now c.choices.choice-index c.choices-test.true c.requires.complete.reached in
    subst (λ (l : Level). choice < width l c.choices.space.path) (sym c.choices.invariant.1)
    (subst (λ (ks : List ℕ). choice < width level ks) (sym c.choices.invariant.0) below)

pub choices-preserved : goal.choices-preserved
choices-preserved c =
    let level = level_of c.args.maker.now c.args.level in
    let choice = get_or c.args.path.now c.choices.choice-index 0 in
    let reached = prefix_is_reached level c.args.path.now c.choices.choice-index c.choices-test.true c.requires.complete.reached in
    let here = subst (λ (l : Level). IsReached l (c.choices.space.path ++ choice ∷ [])) (sym c.choices.invariant.1)
    (subst (λ (ks : List ℕ). IsReached level (ks ++ choice ∷ [])) (sym c.choices.invariant.0) reached) in (
      MatchBool-at_true (c.step.new.self.path ≡ c.choices.space.path ++ choice ∷ []) _ (c.in_ok-step.ensures.reached.1 here) c.in_ok-step.ensures.path
          ∙ ap (λ (ks : List ℕ). ks ++ choice ∷ []) c.choices.invariant.0
          ∙ sym (longer level c.args.path.now c.choices.choice-index c.choices-test.true c.requires.complete.reached),
      c.in_ok-step.ensures.level ∙ c.choices.invariant.1,
    )

pub tableau-requires : goal.tableau-requires
tableau-requires c =
    let whole = c.choices.invariant.0 ∙ take_all c.choices.choice-index c.args.path.now c.choices-test.false in
    subst (λ (l : Level). IsComplete l c.choices.space.path) (sym c.choices.invariant.1)
    (subst (IsComplete (level_of c.args.maker.now c.args.level)) (sym whole) c.requires.complete)

pub returns : goal.returns
returns c =
    let level = level_of c.args.maker.now c.args.level in
    let whole = c.choices.invariant.0 ∙ take_all c.choices.choice-index c.args.path.now c.choices-test.false in
    IfOk-weaker c.tableau.result (λ drawn. IsGeneral c.choices.space.level c.choices.space.path drawn.tableau)
    (λ drawn. IsGeneral level c.args.path.now drawn.tableau)
    (λ drawn general. subst (λ (ks : List ℕ). IsGeneral level ks drawn.tableau) whole
    (subst (λ (l : Level). IsGeneral l c.choices.space.path drawn.tableau) c.choices.invariant.1 general))
    c.tableau.ensures
