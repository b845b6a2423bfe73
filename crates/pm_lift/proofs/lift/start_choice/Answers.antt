use Rattle.std.proofs.Common.{length, ap, arith}
use Rattle.pm_logic.specs.Problem.{is_start}
use Rattle.pm_lift.proofs.HeadLemmas.{places_few}
use Rattle.pm_lift.proofs.lift.start_choice.Goals as goal

pub overflow_cast-result : goal.overflow_cast-result
overflow_cast-result c =
    omega (arith, c.place_among.ensures.within, ap length c.as_slice.ensures.value, ap length c.in_ok-starts.ensures, c.clauses-count.ensures.valid.few, places_few (is_start c.args.start) 0 c.args.problem.now.clauses)
