use Rattle.std.proofs.Common.{◌≡◌, ap, ◌∙◌}
use Rattle.std.specs.Cmp.{nat_cmp_total}
use Rattle.std.specs.FinSet.{insert, from_list, from_list_push, nat_cmp-IsAntisymmetric}
use Rattle.pm_outside.proofs.Fetches.{with_failing}
use Rattle.pm_outside.specs.contracts.memory_library.MemoryLibrary.{the_view}
use Rattle.pm_outside.proofs.memory_library.MemoryLibrary.fail_at.Goals as goal

pub returns-clause-ok : goal.returns-clause-ok
returns-clause-ok c =
    let more : from_list c.push.new.self.items ≡ insert (from_list c.self.inside.failing.items) c.args.call =
    ap from_list c.in_ok-push.ensures.items ∙ from_list_push nat_cmp_total nat_cmp-IsAntisymmetric _ _ in
    rw (← c.self.view_is) (ap (with_failing (the_view c.self.inside)) more)
