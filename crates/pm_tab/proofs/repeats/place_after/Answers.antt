use Rattle.std.proofs.Common.{◌+◌, ap}
use Rattle.pm_tab.proofs.Noting.{last_place}
use Rattle.pm_tab.proofs.repeats.place_after.Goals as goal

pub returns-in-Some-clause-some : goal.returns-in-Some-clause-some
returns-in-Some-clause-some c = λ some. ap (λ n. n + 1) (last_place c.args.branch.now c.in-Some.field-0.now c.in-Some.ensures.value).1
