use Rattle.std.proofs.Common.{reverse, subst, arith}
use Rattle.std.specs.Prelude.{◌↔◌, IsTrue, nat_lt}
use Rattle.std.proofs.lemmas.Bool.{ltb-true}
use Rattle.pm_calculus.specs.Choices.{IsComplete}
use Rattle.pm_tab.specs.Space.{Place}
use Rattle.pm_tab.specs.Searched.{level_of}
use Rattle.pm_tab.specs.Inside.Standing.{path_of, Counts}
use Rattle.pm_tab.proofs.Standing.{stands_at, complete_iff, complete_has}
use Rattle.pm_tab.proofs.space.TabSpaceSpace.is_complete.Goals as goal

pub returns-then-self-gt0 : goal.returns-then-self-gt0
returns-then-self-gt0 c =
    let a = c.self.inside in
    let level = level_of a.maker.now a.level in
    let frames = reverse a.frames.items in
    let counts : Counts = record { width = a.width; instances = a.instances } in
    let at = stands_at level frames counts a.machine.state a.machine.before a.repeats c.self.invariant.2 in
    subst (λ (place : Place). IsTrue c.is_none.result ↔ IsComplete place.level place.path) c.self.view_is
    (complete_iff level (path_of frames) counts a.machine a.repeats c.self.invariant.1 at c.if-self-gt0.true c.leaf.result c.leaf.ensures.shown c.is_none.result c.is_none.ensures)

pub returns-else-self-gt0 : goal.returns-else-self-gt0
returns-else-self-gt0 c =
    let a = c.self.inside in
    let level = level_of a.maker.now a.level in
    let frames = reverse a.frames.items in
    let counts : Counts = record { width = a.width; instances = a.instances } in
    let at = stands_at level frames counts a.machine.state a.machine.before a.repeats c.self.invariant.2 in
    subst (λ (place : Place). IsTrue (nat_lt 0 a.instances) ↔ IsComplete place.level place.path) c.self.view_is (
      λ test. absurd (omega (arith, c.if-self-gt0.false, ltb-true 0 a.instances test)),
      λ complete. absurd (omega (arith, c.if-self-gt0.false, (complete_has level (path_of frames) counts a.machine a.repeats c.self.invariant.1 at complete).0)),
    )
