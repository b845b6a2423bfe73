use Rattle.std.proofs.Common.{◌≡◌, ◌+◌, ◌-◌, ◌++◌}
use Rattle.pm_lift.specs.Inside.Example.{chain}
use Rattle.pm_lift.proofs.lift.tests.chain.Given as goal

abbrev pub invariant-depths : goal.invariant-depths
invariant-depths l = l.nodes.items ++ chain (l.count + 1 - l.depth) l.depth ≡ chain l.count 1
