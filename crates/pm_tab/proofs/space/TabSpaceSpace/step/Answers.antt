use Rattle.std.proofs.Common.{◌≡◌, ◌+◌, ◌<◌, List, ◌∷◌, [], ◌++◌, reverse, refl, sym, ◌∙◌, ap, subst, arith}
use Rattle.std.proofs.lemmas.Bool.{false≢true}
use Rattle.std.proofs.lemmas.List.{reverse-append}
use Rattle.pm_calculus.specs.Choices.{IsReached, width}
use Rattle.pm_tab.specs.declared.space.Frame.{Frame}
use Rattle.pm_tab.specs.Space.{Place}
use Rattle.pm_tab.specs.Searched.{level_of}
use Rattle.pm_tab.specs.Inside.Steps.{step_named, TakesWithin}
use Rattle.pm_tab.specs.Inside.Standing.{path_of, Counts, Stands}
use Rattle.pm_tab.proofs.Standing.{stands_at, width_now, reached_now, not_deep, may_now, reached_iff, starts_first, few_instances, reversed_long, given_one, same_key, instances_are, problem_kept, step_stands}
use Rattle.pm_tab.proofs.space.TabSpaceSpace.step.Goals as goal

pub step-step-requires-clause-within : goal.step-step-requires-clause-within
step-step-requires-clause-within c =
    let a = c.self.inside in
    let level = level_of a.maker.now a.level in
    let frames = reverse a.frames.items in
    let counts : Counts = record { width = a.width; instances = a.instances } in
    let same = c.self.invariant.1 in
    let at = stands_at level frames counts a.machine.state a.machine.before a.repeats c.self.invariant.2 in
    let inside = subst (λ (place : Place). c.args.k < width place.level place.path) (sym c.self.view_is) c.requires in
    let within = subst (λ n. c.args.k < n) (sym at.width ∙ width_now level (path_of frames) counts a.machine a.repeats same at) inside in
    (a.level, within)

pub take_within-requires-clause-depth : goal.take_within-requires-clause-depth
take_within-requires-clause-depth c =
    let a = c.self.inside in
    let level = level_of a.maker.now a.level in
    let frames = reverse a.frames.items in
    let counts : Counts = record { width = a.width; instances = a.instances } in
    let same = c.self.invariant.1 in
    let at = stands_at level frames counts a.machine.state a.machine.before a.repeats c.self.invariant.2 in
    not_deep level (path_of frames) counts a.machine a.repeats same at c.self.invariant.0

pub take_within-requires-clause-first : goal.take_within-requires-clause-first
take_within-requires-clause-first c =
    let a = c.self.inside in
    let level = level_of a.maker.now a.level in
    let frames = reverse a.frames.items in
    let counts : Counts = record { width = a.width; instances = a.instances } in
    let same = c.self.invariant.1 in
    let at = stands_at level frames counts a.machine.state a.machine.before a.repeats c.self.invariant.2 in
    let inside = subst (λ (place : Place). c.args.k < width place.level place.path) (sym c.self.view_is) c.requires in
    let within = subst (λ n. c.args.k < n) (sym at.width ∙ width_now level (path_of frames) counts a.machine a.repeats same at) inside in
    let step = step_named c.step-step.result in
    let is = c.step-step.ensures a.level within in
    starts_first level (path_of frames) counts a.machine a.repeats same at c.step-step.result (may_now level (path_of frames) counts a.machine a.repeats same at c.args.k step is)

pub take_within-requires-clause-alternative : goal.take_within-requires-clause-alternative
take_within-requires-clause-alternative c =
    let a = c.self.inside in
    let level = level_of a.maker.now a.level in
    let frames = reverse a.frames.items in
    let counts : Counts = record { width = a.width; instances = a.instances } in
    let same = c.self.invariant.1 in
    let at = stands_at level frames counts a.machine.state a.machine.before a.repeats c.self.invariant.2 in
    let inside = subst (λ (place : Place). c.args.k < width place.level place.path) (sym c.self.view_is) c.requires in
    let within = subst (λ n. c.args.k < n) (sym at.width ∙ width_now level (path_of frames) counts a.machine a.repeats same at) inside in
    let step = step_named c.step-step.result in
    let is = c.step-step.ensures a.level within in
    (c.args.k, is)

pub take_within-requires-clause-may : goal.take_within-requires-clause-may
take_within-requires-clause-may c =
    let a = c.self.inside in
    let level = level_of a.maker.now a.level in
    let frames = reverse a.frames.items in
    let counts : Counts = record { width = a.width; instances = a.instances } in
    let same = c.self.invariant.1 in
    let at = stands_at level frames counts a.machine.state a.machine.before a.repeats c.self.invariant.2 in
    let inside = subst (λ (place : Place). c.args.k < width place.level place.path) (sym c.self.view_is) c.requires in
    let within = subst (λ n. c.args.k < n) (sym at.width ∙ width_now level (path_of frames) counts a.machine a.repeats same at) inside in
    let step = step_named c.step-step.result in
    let is = c.step-step.ensures a.level within in
    may_now level (path_of frames) counts a.machine a.repeats same at c.args.k step is

pub take_within-requires-clause-reached : goal.take_within-requires-clause-reached
take_within-requires-clause-reached c =
    let a = c.self.inside in
    let level = level_of a.maker.now a.level in
    let frames = reverse a.frames.items in
    let counts : Counts = record { width = a.width; instances = a.instances } in
    let same = c.self.invariant.1 in
    let at = stands_at level frames counts a.machine.state a.machine.before a.repeats c.self.invariant.2 in
    reached_now level (path_of frames) counts a.machine a.repeats same at

pub take_within-requires-clause-watches : goal.take_within-requires-clause-watches
take_within-requires-clause-watches c =
    let a = c.self.inside in
    let level = level_of a.maker.now a.level in
    let frames = reverse a.frames.items in
    let counts : Counts = record { width = a.width; instances = a.instances } in
    let same = c.self.invariant.1 in
    let at = stands_at level frames counts a.machine.state a.machine.before a.repeats c.self.invariant.2 in
    at.watches

pub overflow_add-instances : goal.overflow_add-instances
overflow_add-instances c =
    let a = c.self.inside in
    let level = level_of a.maker.now a.level in
    let frames = reverse a.frames.items in
    let counts : Counts = record { width = a.width; instances = a.instances } in
    let same = c.self.invariant.1 in
    let at = stands_at level frames counts a.machine.state a.machine.before a.repeats c.self.invariant.2 in
    let few = few_instances level (path_of frames) counts a.machine a.repeats same at in
    let long = reversed_long a.frames.items in
    let small = c.self.inside.frames.small in
    let ok = c.self.inside.frames.ok in
    omega (arith, few, long, small, ok.0, ok.1, c.instances.ensures, given_one (step_named c.step-step.result))

pub returns-clause-key : goal.returns-clause-key
returns-clause-key c =
    same_key _ _ (ap (λ (place : Place). place.level) c.self.view_is)

pub returns-in_default-clause-reached : goal.returns-in_default-clause-reached
returns-in_default-clause-reached c =
    let a = c.self.inside in
    let level = level_of a.maker.now a.level in
    let frames = reverse a.frames.items in
    let counts : Counts = record { width = a.width; instances = a.instances } in
    let same = c.self.invariant.1 in
    let at = stands_at level frames counts a.machine.state a.machine.before a.repeats c.self.invariant.2 in
    let inside = subst (λ (place : Place). c.args.k < width place.level place.path) (sym c.self.view_is) c.requires in
    let within = subst (λ n. c.args.k < n) (sym at.width ∙ width_now level (path_of frames) counts a.machine a.repeats same at) inside in
    let step = step_named c.step-step.result in
    let is = c.step-step.ensures a.level within in
    let refused = subst (TakesWithin level c.step-step.result a.machine c.take_within.new.machine a.repeats c.take_within.new.repeats) c.in_default.is c.in_ok-mark.ensures.answer in (
      λ test. absurd (false≢true test),
      λ reached. absurd (refused.2 (subst (λ (R : Type 0). R) (reached_iff level (path_of frames) counts a.machine a.repeats same at c.args.k step is)
          (subst (λ (place : Place). IsReached place.level (place.path ++ c.args.k ∷ [])) (sym c.self.view_is) reached))),
    )

pub returns-in_default-clause-key : goal.returns-in_default-clause-key
returns-in_default-clause-key c =
    same_key _ _ (ap (λ (place : Place). place.level) c.self.view_is)

pub width-width-requires-clause-instances : goal.width-width-requires-clause-instances
width-width-requires-clause-instances c =
    let a = c.self.inside in
    let level = level_of a.maker.now a.level in
    let frames = reverse a.frames.items in
    let counts : Counts = record { width = a.width; instances = a.instances } in
    let same = c.self.invariant.1 in
    let at = stands_at level frames counts a.machine.state a.machine.before a.repeats c.self.invariant.2 in
    let inside = subst (λ (place : Place). c.args.k < width place.level place.path) (sym c.self.view_is) c.requires in
    let within = subst (λ n. c.args.k < n) (sym at.width ∙ width_now level (path_of frames) counts a.machine a.repeats same at) inside in
    let step = step_named c.step-step.result in
    let is = c.step-step.ensures a.level within in
    let taken = subst (TakesWithin level c.step-step.result a.machine c.take_within.new.machine a.repeats c.take_within.new.repeats) c.in-Some.is c.in_ok-mark.ensures.answer in
    instances_are level frames counts a.machine c.take_within.new.machine a.repeats c.take_within.new.repeats c.self.invariant.2 same c.args.k step is
    taken.0 taken.1 taken.2 c.in-Some.mark taken.3 (a.instances + c.instances.result) (ap (λ n. a.instances + n) c.instances.ensures)

pub invariant_of-self-2 : goal.invariant_of-self-2
invariant_of-self-2 c =
    let a = c.self.inside in
    let level = level_of a.maker.now a.level in
    let frames = reverse a.frames.items in
    let counts : Counts = record { width = a.width; instances = a.instances } in
    let same = c.self.invariant.1 in
    let at = stands_at level frames counts a.machine.state a.machine.before a.repeats c.self.invariant.2 in
    let inside = subst (λ (place : Place). c.args.k < width place.level place.path) (sym c.self.view_is) c.requires in
    let within = subst (λ n. c.args.k < n) (sym at.width ∙ width_now level (path_of frames) counts a.machine a.repeats same at) inside in
    let step = step_named c.step-step.result in
    let is = c.step-step.ensures a.level within in
    let taken = subst (TakesWithin level c.step-step.result a.machine c.take_within.new.machine a.repeats c.take_within.new.repeats) c.in-Some.is c.in_ok-mark.ensures.answer in
    let frame : Frame = record { choice = c.args.k; width = a.width; instances = a.instances; mark = c.in-Some.mark } in
    let after : Counts = record { width = c.width-width.result; instances = a.instances + c.instances.result } in
    let new = c.take_within.new.machine in
    let pushed : reverse c.push_reserved.new.self.items ≡ frame ∷ frames =
    ap reverse (c.push_reserved.ensures.items ∙ ap (λ (fs : List Frame). fs ++ frame ∷ []) c.in_ok-reserve.ensures.items) ∙ reverse-append a.frames.items (frame ∷ []) in (
      c.self.invariant.0,
      problem_kept level frames counts a.machine new a.repeats c.take_within.new.repeats c.self.invariant.2 same c.args.k step is taken.0 taken.1 taken.2 c.in-Some.mark taken.3,
      subst (λ (fs : List Frame). Stands level fs after new.state new.before c.take_within.new.repeats) (sym pushed)
          (step_stands level frames counts a.machine new a.repeats c.take_within.new.repeats c.self.invariant.2 same c.args.k step is taken.0 taken.1 taken.2 c.in-Some.mark taken.3
          frame after refl refl refl c.width-width.ensures (ap (λ n. a.instances + n) c.instances.ensures)),
    )

pub returns-clause-reached : goal.returns-clause-reached
returns-clause-reached c =
    let a = c.self.inside in
    let level = level_of a.maker.now a.level in
    let frames = reverse a.frames.items in
    let counts : Counts = record { width = a.width; instances = a.instances } in
    let same = c.self.invariant.1 in
    let at = stands_at level frames counts a.machine.state a.machine.before a.repeats c.self.invariant.2 in
    let inside = subst (λ (place : Place). c.args.k < width place.level place.path) (sym c.self.view_is) c.requires in
    let within = subst (λ n. c.args.k < n) (sym at.width ∙ width_now level (path_of frames) counts a.machine a.repeats same at) inside in
    let step = step_named c.step-step.result in
    let is = c.step-step.ensures a.level within in
    let taken = subst (TakesWithin level c.step-step.result a.machine c.take_within.new.machine a.repeats c.take_within.new.repeats) c.in-Some.is c.in_ok-mark.ensures.answer in (
      λ test. subst (λ (place : Place). IsReached place.level (place.path ++ c.args.k ∷ [])) c.self.view_is
          (subst (λ (R : Type 0). R) (sym (reached_iff level (path_of frames) counts a.machine a.repeats same at c.args.k step is)) taken.1),
      λ reached. refl,
    )
