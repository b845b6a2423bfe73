use Rattle.std.proofs.Common.{◌≤◌, ◌∷◌, [], ◌++◌, Some, length, reverse, sym, ◌∙◌, ap, subst}
use Rattle.pm_calculus.specs.Alternatives.{alternatives}
use Rattle.pm_calculus.specs.Choices.{IsReached, width}
use Rattle.pm_tab.specs.Hopeful.{IsFirstHopeful}
use Rattle.pm_tab.specs.Space.{Place}
use Rattle.pm_tab.specs.Searched.{level_of}
use Rattle.pm_tab.specs.Inside.Standing.{path_of, Counts}
use Rattle.pm_tab.proofs.Standing.{stands_at, width_now, skeleton_is, state_now, hopeless_passed}
use Rattle.pm_tab.proofs.space.TabSpaceSpace.hopeful.Goals as goal

pub hopeful-requires-clause-width : goal.hopeful-requires-clause-width
hopeful-requires-clause-width c =
    let a = c.self.inside in
    let level = level_of a.maker.now a.level in
    let frames = reverse a.frames.items in
    let counts : Counts = record { width = a.width; instances = a.instances } in
    let at = stands_at level frames counts a.machine.state a.machine.before a.repeats c.self.invariant.2 in
    (a.level, width_now level (path_of frames) counts a.machine a.repeats c.self.invariant.1 at)

pub hopeful-requires-clause-from : goal.hopeful-requires-clause-from
hopeful-requires-clause-from c =
    let a = c.self.inside in
    let level = level_of a.maker.now a.level in
    let frames = reverse a.frames.items in
    let counts : Counts = record { width = a.width; instances = a.instances } in
    let at = stands_at level frames counts a.machine.state a.machine.before a.repeats c.self.invariant.2 in
    subst (λ n. c.args.from ≤ n) (sym (at.width ∙ ap (λ (place : Place). width place.level place.path) c.self.view_is)) c.requires

pub hopeful-requires-clause-chosen : goal.hopeful-requires-clause-chosen
hopeful-requires-clause-chosen c =
    let a = c.self.inside in
    let level = level_of a.maker.now a.level in
    let frames = reverse a.frames.items in
    let counts : Counts = record { width = a.width; instances = a.instances } in
    let at = stands_at level frames counts a.machine.state a.machine.before a.repeats c.self.invariant.2 in (
      a.level,
      path_of frames,
      state_now level (path_of frames) counts a.machine a.repeats c.self.invariant.1 at
          ∙ ap Some (sym (skeleton_is level (path_of frames) counts a.machine a.repeats c.self.invariant.1 at)),
    )

pub returns-clause-exact : goal.returns-clause-exact
returns-clause-exact c =
    let a = c.self.inside in
    let level = level_of a.maker.now a.level in
    let frames = reverse a.frames.items in
    let counts : Counts = record { width = a.width; instances = a.instances } in
    let at = stands_at level frames counts a.machine.state a.machine.before a.repeats c.self.invariant.2 in
    subst (λ (place : Place). IsFirstHopeful place.level place.machine.state c.args.from c.hopeful.result) c.self.view_is
    (c.hopeful.ensures.first a.level (width_now level (path_of frames) counts a.machine a.repeats c.self.invariant.1 at))

pub returns-clause-from : goal.returns-clause-from
returns-clause-from c =
    let a = c.self.inside in
    let level = level_of a.maker.now a.level in
    let frames = reverse a.frames.items in
    let counts : Counts = record { width = a.width; instances = a.instances } in
    let at = stands_at level frames counts a.machine.state a.machine.before a.repeats c.self.invariant.2 in
    (c.hopeful.ensures.first a.level (width_now level (path_of frames) counts a.machine a.repeats c.self.invariant.1 at)).beyond

pub returns-clause-width : goal.returns-clause-width
returns-clause-width c =
    let a = c.self.inside in
    let level = level_of a.maker.now a.level in
    let frames = reverse a.frames.items in
    let counts : Counts = record { width = a.width; instances = a.instances } in
    let at = stands_at level frames counts a.machine.state a.machine.before a.repeats c.self.invariant.2 in
    let same = c.self.invariant.1 in
    let wide = width_now level (path_of frames) counts a.machine a.repeats same at in
    let within = (c.hopeful.ensures.first a.level wide).within in
    let own = ap (λ s. length (alternatives level s)) (sym (skeleton_is level (path_of frames) counts a.machine a.repeats same at)) in
    subst (λ n. c.hopeful.result ≤ n) (own ∙ sym wide ∙ at.width ∙ ap (λ (place : Place). width place.level place.path) c.self.view_is) within

pub returns-clause-hopeless : goal.returns-clause-hopeless
returns-clause-hopeless c = λ k low less reached.
    let a = c.self.inside in
    let level = level_of a.maker.now a.level in
    let frames = reverse a.frames.items in
    let counts : Counts = record { width = a.width; instances = a.instances } in
    let at = stands_at level frames counts a.machine.state a.machine.before a.repeats c.self.invariant.2 in
    let least = c.hopeful.ensures.first a.level (width_now level (path_of frames) counts a.machine a.repeats c.self.invariant.1 at) in
    hopeless_passed level (path_of frames) counts a.machine a.repeats c.self.invariant.1 at c.hopeful.ensures.valid c.args.from c.hopeful.result least k low less
    (subst (λ (place : Place). IsReached place.level (place.path ++ k ∷ [])) (sym c.self.view_is) reached)
