use Rattle.std.proofs.Common.{◌≡◌, ◌≤◌, vec_len}
use Rattle.std.specs.Prelude.{All}
use Rattle.pm_steal.specs.Shown.{reach_len}
use Rattle.pm_pool.proofs.seat.make_posts.Given as goal

abbrev pub invariant-hands : goal.invariant-hands
invariant-hands l = record {
  few : vec_len l.hands ≤ 64;
  reaches : All (λ reach. reach_len reach ≡ l.workers) l.reaches.items;
}

abbrev pub decreases-hands : goal.decreases-hands
decreases-hands l = vec_len l.hands
