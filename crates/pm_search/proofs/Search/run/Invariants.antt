use Rattle.std.proofs.Common.{◌≡◌, ◌-◌, ◌≤◌, false}
use Rattle.pm_space.specs.Key.{Agree}
use Rattle.pm_search.specs.Standing.{Searches}
use Rattle.pm_search.proofs.Search.run.Given as goal

abbrev pub invariant-attempts : goal.invariant-attempts
invariant-attempts g l = record {
  open' : l.self.answered ≡ false;
  interval : Searches l.initial.self.from l.initial.self.to l.self;
  begun : l.initial.self.worked ≤ l.self.worked;
  within : l.self.worked ≤ l.most;
  key : Agree (g.S.Space.key l.self.space) (g.S.Space.key l.initial.self.space);
}

abbrev pub decreases-attempts : goal.decreases-attempts
decreases-attempts g l = l.most - l.self.worked
