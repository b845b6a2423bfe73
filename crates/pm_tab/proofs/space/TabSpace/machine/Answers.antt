use Rattle.std.proofs.Common.{reverse, subst}
use Rattle.pm_tab.specs.Space.{HasTakenPath}
use Rattle.pm_tab.specs.Searched.{level_of}
use Rattle.pm_tab.proofs.Standing.{stands_at}
use Rattle.pm_tab.proofs.space.TabSpace.machine.Goals as goal

pub returns-clause-path : goal.returns-clause-path
returns-clause-path c =
    let a = c.self.inside in
    subst HasTakenPath c.self.view_is (record {
      problem = c.self.invariant.1;
      steps = (stands_at (level_of a.maker.now a.level) (reverse a.frames.items) _ a.machine.state a.machine.before a.repeats c.self.invariant.2).steps;
    })
