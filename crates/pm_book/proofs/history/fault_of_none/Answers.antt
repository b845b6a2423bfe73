use Rattle.std.proofs.Common.{◌≡◌, ◌∙◌, List, [], ◌∷◌, refl, sym, ap, subst, take}
use Rattle.std.specs.Prelude.{Some, None, IsSome, slice_get}
use Rattle.std.specs.Option.{option_copied}
use Rattle.pm_book.specs.declared.event.Event.{Event}
use Rattle.pm_book.specs.Steps.{new_book, replayed}
use Rattle.pm_book.specs.Answers.{AreSteps}
use Rattle.pm_book.proofs.history.fault_of_none.Goals as goal

no_event : (events : List Event) → slice_get events 0 ≡ None → events ≡ []
no_event [] none = refl
no_event (event ∷ events) none = absurd cc

first_alone : (events : List Event) (first : Event) → slice_get events 0 ≡ Some first → take 1 events ≡ first ∷ []
first_alone [] first there = absurd cc
first_alone (event ∷ events) first there = cc

pub returns-in_default : goal.returns-in_default
returns-in_default c = λ budget cuts.
    let empty = no_event c.args.events.now (sym c.first.ensures.value ∙ ap option_copied c.in_default.is) in
    (0, subst (λ (l : List Event). AreSteps budget cuts l 0) (sym empty) refl)

pub returns-then-is_first_step : goal.returns-then-is_first_step
returns-then-is_first_step c = λ budget cuts.
    let alone = first_alone c.args.events.now c.in-Some.first.now (sym c.first.ensures.value ∙ ap option_copied c.in-Some.is) in
    (0, subst (λ (l : List Event). IsSome (replayed cuts l (Some (new_book budget)))) (sym alone) (c.is_first_step.ensures.step c.if-is_first_step.true budget cuts))

pub returns-else-is_first_step : goal.returns-else-is_first_step
returns-else-is_first_step c = λ budget cuts. record {
  event = c.in-Some.first.now;
  there = sym c.first.ensures.value ∙ ap option_copied c.in-Some.is;
  book = new_book budget;
  legal = refl;
  illegal = c.is_first_step.ensures.none c.if-is_first_step.false budget cuts;
}
