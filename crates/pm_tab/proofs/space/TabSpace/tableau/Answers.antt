use Rattle.std.proofs.Common.{◌≡◌, ◌<◌, reverse, sym, ◌∙◌, ap, subst}
use Rattle.std.proofs.lemmas.Result.{IfOk-weaker}
use Rattle.pm_calculus.specs.Alternatives.{state_after}
use Rattle.pm_calculus.specs.Choices.{IsComplete, IsGeneral}
use Rattle.pm_tab.specs.Numbered.{numbered_tableau}
use Rattle.pm_tab.specs.Space.{Place}
use Rattle.pm_tab.specs.Searched.{level_of}
use Rattle.pm_tab.specs.Inside.Standing.{path_of, Counts}
use Rattle.pm_tab.proofs.Standing.{stands_at, first_choice, begins_with, state_now, general_now, reversed_long}
use Rattle.pm_tab.proofs.space.TabSpace.tableau.Goals as goal

pub start_clause-root-requires : goal.start_clause-root-requires
start_clause-root-requires c =
    let a = c.self.inside in
    let level = level_of a.maker.now a.level in
    let frames = reverse a.frames.items in
    let counts : Counts = record { width = a.width; instances = a.instances } in
    let at = stands_at level frames counts a.machine.state a.machine.before a.repeats c.self.invariant.2 in
    let complete = subst (λ (place : Place). IsComplete place.level place.path) (sym c.self.view_is) c.requires in
    let some = subst (λ n. 0 < n) (sym (reversed_long a.frames.items)) complete.begun in
    let first = first_choice a.frames.items c.index.result.now some c.index.ensures in
    let state = state_now level (path_of frames) counts a.machine a.repeats c.self.invariant.1 at in
    (begins_with level c.index.result.now.choice first.0 _ (ap (state_after level) (sym first.1) ∙ state)).within

pub returns : goal.returns
returns c =
    let a = c.self.inside in
    let level = level_of a.maker.now a.level in
    let frames = reverse a.frames.items in
    let counts : Counts = record { width = a.width; instances = a.instances } in
    let at = stands_at level frames counts a.machine.state a.machine.before a.repeats c.self.invariant.2 in
    let complete = subst (λ (place : Place). IsComplete place.level place.path) (sym c.self.view_is) c.requires in
    let some = subst (λ n. 0 < n) (sym (reversed_long a.frames.items)) complete.begun in
    let first = first_choice a.frames.items c.index.result.now some c.index.ensures in
    let state = state_now level (path_of frames) counts a.machine a.repeats c.self.invariant.1 at in
    let root = (begins_with level c.index.result.now.choice first.0 _ (ap (state_after level) (sym first.1) ∙ state)).root c.start_clause-root.result c.start_clause-root.ensures in
    let general = general_now level (path_of frames) counts a.machine a.repeats c.self.invariant.1 at c.start_clause-root.result root.0 root.1 in
    IfOk-weaker c.draw.result (λ drawn. drawn.tableau ≡ numbered_tableau c.start_clause-root.result a.machine.state)
    (λ drawn. IsGeneral c.args.self.now.level c.args.self.now.path drawn.tableau)
    (λ drawn is. subst (λ (place : Place). IsGeneral place.level place.path drawn.tableau) c.self.view_is (subst (IsGeneral level (path_of frames)) (sym is) general))
    c.draw.ensures
