use Rattle.std.proofs.Common.{◌≡◌, reverse, subst}
use Rattle.pm_calculus.specs.Choices.{IsReached, width}
use Rattle.pm_tab.specs.Space.{Place}
use Rattle.pm_tab.specs.Searched.{level_of}
use Rattle.pm_tab.proofs.Standing.{stands_at}
use Rattle.pm_tab.proofs.space.TabSpaceSpace.width.Goals as goal

pub returns-clause-width : goal.returns-clause-width
returns-clause-width c =
    let a = c.self.inside in
    subst (λ (place : Place). a.width ≡ width place.level place.path) c.self.view_is
    (stands_at (level_of a.maker.now a.level) (reverse a.frames.items) _ a.machine.state a.machine.before a.repeats c.self.invariant.2).width

pub returns-clause-reached : goal.returns-clause-reached
returns-clause-reached c =
    let a = c.self.inside in
    subst (λ (place : Place). IsReached place.level place.path) c.self.view_is
    (stands_at (level_of a.maker.now a.level) (reverse a.frames.items) _ a.machine.state a.machine.before a.repeats c.self.invariant.2).reached
